-- `explain_reasons::tally::limit_why` meets its contract.
use mathlib.Core.Path.{ap, ◌∙◌}
use Rattle.explain_reasons.specs.Tallies.{limit_of}
use Rattle.explain_reasons.proofs.tally.limit_why.Goals as goal

pub returns : goal.returns
returns c = c.limit_of.ensures ∙ ap limit_of c.tally_lines.ensures
