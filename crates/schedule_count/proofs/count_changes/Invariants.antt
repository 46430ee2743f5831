use mathlib.Core.Path.{◌≡◌}
use Prim.Native.Nat.{ℕ, ◌≤◌}
use lib.ListN.{length}
use Rattle.schedule.specs.Edges.{changes}
use Rattle.schedule_week.specs.Week.{is_marked}
use Rattle.schedule_count.proofs.count_changes.Given as goal

abbrev pub invariant-loop-input : goal.invariant-loop-input
invariant-loop-input l = (l.count ≤ l.input) × ((moment : ℕ) → l.count ≡ length (changes moment (is_marked l.before) (is_marked l.at) l.input))
