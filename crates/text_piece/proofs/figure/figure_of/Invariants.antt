use Prim.Native.Nat.{◌≤◌, min}
use mathlib.Core.Path.{◌≡◌}
use lib.Seq.{slice}
use Rattle.text_piece.specs.Pieces.{cap}
use Rattle.listing.specs.Lists.{all}
use Rattle.listing.specs.Bytes.{is_digit, read_on}
use Rattle.text_piece.proofs.figure.figure_of.Given as goal

abbrev pub invariant-loop-i : goal.invariant-loop-i
invariant-loop-i l =
    (l.n ≤ cap) × (all is_digit (slice l.i l.to l.s) ≡ all is_digit (slice l.from l.to l.s))
    × (min (read_on l.n (slice l.i l.to l.s)) cap ≡ min (read_on 0 (slice l.from l.to l.s)) cap)
