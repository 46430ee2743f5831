use mathlib.Core.Path.{◌≡◌}
use Prim.Native.Nat.{◌+◌}
use lib.ListN.{length, drop}
use Rattle.listing.specs.Bytes.{split}
use Rattle.explain_there.specs.There.{pieces_there, field_there}
use Rattle.explain_there.proofs.there.field_there.Given as goal

abbrev pub invariant-loop-piece : goal.invariant-loop-piece
invariant-loop-piece l = record {
  counted : l.number ≡ length l.yielded + 1;
  same : pieces_there l.scope l.target l.number (drop (length l.yielded) (split 32 l.field)) ≡ field_there l.scope l.fn.first l.field;
}
