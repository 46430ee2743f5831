-- `explain_schedule::line::number_at` meets its contract.
use mathlib.Core.Path.{ap, ◌∙◌}
use Rattle.listing.specs.Bytes.{Bytes}
use Rattle.text_piece.specs.Pieces.{figure_answer}
use Rattle.explain_schedule.specs.Lines.{value_in}
use Rattle.explain_schedule.proofs.line.number_at.Goals as goal

pub returns : goal.returns
returns c = c.figure_value.ensures ∙ ap (λ (l : Bytes). value_in (figure_answer l)) c.part_of.ensures.is
