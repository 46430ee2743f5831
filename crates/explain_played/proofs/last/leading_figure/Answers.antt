-- `explain_played::last::leading_figure` meets its contract.
use mathlib.Core.Path.{ap, ◌∙◌}
use Rattle.listing.specs.Bytes.{Bytes}
use Rattle.session_trace_lines.specs.Figures.{below_answer}
use Rattle.explain_played.specs.Endings.{number_in}
use Rattle.explain_played.proofs.last.leading_figure.Goals as goal

pub returns : goal.returns
returns c = c.number_in.ensures ∙ ap (λ (b : Bytes). number_in (below_answer 4294967296 b)) c.part_of.ensures.is
