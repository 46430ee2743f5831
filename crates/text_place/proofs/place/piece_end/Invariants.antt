use Rattle.std.proofs.Common.{◌≡◌, ◌+◌, length, drop}
use Rattle.text_place.specs.Texts.{first_piece_lem}
use Rattle.text_place.proofs.place.piece_end.Given as goal

abbrev pub invariant-loop-i : goal.invariant-loop-i
invariant-loop-i l = l.i + length (first_piece_lem (drop l.i l.s)) ≡ l.at + length (first_piece_lem (drop l.at l.s))
