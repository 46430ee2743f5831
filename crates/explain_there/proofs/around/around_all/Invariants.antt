use mathlib.Core.Path.{◌≡◌}
use lib.ListN.{length, drop}
use Rattle.listing.specs.Bytes.{split}
use Rattle.explain_there.specs.Arounds.{around_all, around_of}
use Rattle.explain_there.proofs.Arounds.{Bounded}
use Rattle.explain_there.proofs.around.around_all.Given as goal

abbrev pub invariant-loop-line : goal.invariant-loop-line
invariant-loop-line l = record {
  bounded : Bounded l.held (length l.yielded);
  same : around_all l.held l.place (drop (length l.yielded) (split 10 l.listing)) ≡ around_of l.listing l.place;
}
