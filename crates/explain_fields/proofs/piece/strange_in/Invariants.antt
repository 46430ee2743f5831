use mathlib.Core.Path.{◌≡◌}
use lib.ListN.{drop}
use Rattle.explain_fields.specs.Pieces.{first_strange, strange_in}
use Rattle.explain_fields.proofs.piece.strange_in.Given as goal

abbrev pub invariant-loop-b : goal.invariant-loop-b
invariant-loop-b l = first_strange (drop l.b-index l.piece) ≡ strange_in l.piece
