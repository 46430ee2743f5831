-- One more turn of each test over a row of slots or places.
use Prim.Native.Nat.{ℕ, zero, suc, ◌-◌, ◌<◌, ◌≤◌}
use mathlib.Core.Path.{◌≡◌}
use mathlib.Core.Bool.{Bool, true, ◌&&◌}
use mathlib.Core.List.{List}
use lib.ListN.{get_or}
use native.Mathlib.Omega.{arith}
use lib.Dec.{leb, eqb}
use borrow.Author.Tests.{leb-true}
use Rattle.machine.proofs.Basics.{and_left, and_right}
use Rattle.machine.specs.Words.{slot_holds, slots_hold, knows_place, know_places, header_in_place}

pub one_slot : (n t : ℕ) (w : List ℕ) (s : ℕ) (b : Bool) → 0 < s → slot_holds n t w (s - 1) ≡ b → slots_hold n t w s ≡ b && slots_hold n t w (s - 1)
unfolding slots_hold
one_slot n t w zero b l e = absurd (let z : ⊥ = omega arith in z)
one_slot n t w (suc s) b l e = let p : suc s - 1 ≡ s = omega arith in rw (p, rw p at e)

pub one_place : (w : List ℕ) (s : ℕ) (b : Bool) → 0 < s → knows_place w (s - 1) ≡ b → know_places w s ≡ b && know_places w (s - 1)
unfolding know_places
one_place w zero b l e = absurd (let z : ⊥ = omega arith in z)
one_place w (suc s) b l e = let p : suc s - 1 ≡ s = omega arith in rw (p, rw p at e)

pub few_routines : (w : List ℕ) → header_in_place w ≡ true → get_or w 3 0 ≤ 64
unfolding header_in_place
few_routines w e = leb-true _ _ (and_left (leb (get_or w 3 0) 64) _ (and_right (eqb (get_or w 0 0) 0) _ e))
