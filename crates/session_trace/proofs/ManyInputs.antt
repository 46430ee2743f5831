-- A call of more inputs than are kept is answered as the call of those that are kept: 17 rising numbers below 16 do not exist.
use mathlib.Core.Path.{◌≡◌, refl}
use mathlib.Core.Bool.{Bool, true, false, ◌&&◌}
use mathlib.Core.List.{List, [], ◌∷◌}
use Prim.Native.Nat.{ℕ, suc, ◌-◌, ◌≤◌, ◌<◌}
use native.Mathlib.Omega.{arith}
use lib.Dec.{ltb, leb}
use lib.ListN.{length, take}
use lib.Seq.{take_all, length-take-le}
use borrow.Author.Tests.{ltb-true, ltb-false, leb-true}
use Rattle.listing.specs.Listing.{Listing}
use Rattle.listing.proofs.Tests.{and_left, and_right}
use Rattle.walk.specs.State.{State}
use Rattle.walk.specs.Instant.{Write}
use Rattle.walk.specs.Calls.{inputs_rise, ask, instant_from}

-- rising numbers are no more than the bound leaves room for
rise_room : (bound least : ℕ) (ws : List Write) → inputs_rise bound least ws ≡ true → length ws ≤ bound - least
unfolding inputs_rise
rise_room bound least [] e = omega arith
rise_room bound least (w ∷ ws) e =
    let rest = and_right (leb least w.number) (ltb w.number bound && inputs_rise bound (suc w.number) ws) e in
    let low = leb-true least w.number (and_left (leb least w.number) (ltb w.number bound && inputs_rise bound (suc w.number) ws) e) in
    let high = ltb-true w.number bound (and_left (ltb w.number bound) (inputs_rise bound (suc w.number) ws) rest) in
    let room = rise_room bound (suc w.number) ws (and_right (ltb w.number bound) (inputs_rise bound (suc w.number) ws) rest) in
    omega (arith, low, high, room)

too_many : (bound : ℕ) (ws : List Write) → bound < length ws → inputs_rise bound 0 ws ≡ false
too_many bound ws h = go (inputs_rise bound 0 ws) refl
  where
    go : (t : Bool) → inputs_rise bound 0 ws ≡ t → t ≡ false
    go true e = absurd (let room = rise_room bound 0 ws e in let z : ⊥ = omega arith in z)
    go false e = refl

pub kept_enough : (listing : Listing) (s : State) (t : ℕ) (ws : List Write) (allowance : ℕ) → listing.inputs ≤ 16
    → instant_from listing s t (take 17 ws) allowance ≡ instant_from listing s t ws allowance
unfolding instant_from ask
kept_enough listing s t ws allowance h = go (ltb 17 (length ws)) refl
  where
    go : (b : Bool) → ltb 17 (length ws) ≡ b → instant_from listing s t (take 17 ws) allowance ≡ instant_from listing s t ws allowance
    go true e =
        let long = ltb-true 17 (length ws) e in
        let size = length-take-le 17 ws (omega arith) in
        rw (too_many listing.inputs (take 17 ws) (omega (arith, size)), too_many listing.inputs ws (omega arith))
    go false e = rw (take_all 17 ws (ltb-false 17 (length ws) e))
