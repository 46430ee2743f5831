-- `explain_there::around::locals_on` meets its contract.
use mathlib.Core.Path.{ap, ◌∙◌}
use Prim.Native.Nat.{ℕ}
use mathlib.Core.List.{List}
use Rattle.text_piece.specs.Pieces.{figure_answer}
use Rattle.explain_there.specs.Arounds.{value_in}
use Rattle.explain_there.proofs.around.locals_on.Goals as goal

pub returns : goal.returns
returns c = let f = c.figure_value.ensures in (f.0 ∙ ap (λ (l : List ℕ). value_in (figure_answer l)) c.part_of.ensures.is, f.1)
