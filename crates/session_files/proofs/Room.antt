-- What a step printed lies within the lent bytes.
use mathlib.Core.Path.{◌≡◌}
use mathlib.Core.List.{List}
use Prim.Native.Nat.{ℕ, ◌≤◌}
use native.Mathlib.Omega.{arith}
use lib.ListN.{length}
use Rattle.session_replay.specs.Advancing.{Advances, too_short, went}
use Rattle.session_replay.specs.declared.phase.Phase.{Phase}
use Rattle.session_replay.specs.declared.phase.Advanced.{Advanced}
use Rattle.session_replay.specs.declared.phase.Advanced.TheVariants.{Went}

pub went_room : {listing trace table machine out table' machine' out' : List ℕ} {phase next : Phase} {n : ℕ} {r : Advanced} →
    Advances listing trace table machine out phase table' machine' out' r → r ≡ Went next n → n ≤ length out'
went_room (too_short short same) e = let z : ◌≡◌ {A = ℕ} 0 1 = cc in absurd (let y : ⊥ = omega arith in y)
went_room {n = n} (went {n = m} long moves) e = let same : m ≡ n = cc in let room = moves.steps.room in omega arith
