use mathlib.Core.Path.{◌≡◌}
use Prim.Native.Nat.{◌+◌}
use lib.ListN.{length, drop}
use Rattle.listing.specs.Bytes.{split}
use Rattle.explain_fields.specs.Fields.{walked, field_fault}
use Rattle.explain_fields.proofs.field.field_fault.Given as goal

abbrev pub invariant-loop-piece : goal.invariant-loop-piece
invariant-loop-piece l = record {
  counted : l.number ≡ length l.yielded + 1;
  same : walked l.role l.held l.number (drop (length l.yielded) (split 32 l.field)) ≡ field_fault l.role l.field;
}
