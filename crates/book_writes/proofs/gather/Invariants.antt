use mathlib.Core.Path.{◌≡◌}
use Prim.Native.Nat.{◌-◌}
use lib.ListN.{length}
use Rattle.book_writes.proofs.Gathering as gathering
use Rattle.book_writes.proofs.gather.Given as goal

abbrev pub invariant-loop-moment : goal.invariant-loop-moment
invariant-loop-moment l = gathering.Going l.print l.moments l.outputs l.values l.count l.at × (length l.numbers ≡ 17) × (length l.words ≡ 17)

abbrev pub decreases-loop-moment : goal.decreases-loop-moment
decreases-loop-moment l = length l.print - l.at
