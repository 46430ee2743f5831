-- Inputs past the seventeenth do not matter: a listing has at most 16, so that the numbers of 17 inputs cannot rise below that.
use mathlib.Core.Path.{◌≡◌, refl, sym, ◌∙◌}
use mathlib.Core.Bool.{Bool, true, false, ◌&&◌}
use mathlib.Core.List.{List, [], ◌∷◌}
use Prim.Native.Nat.{ℕ, zero, suc, ◌+◌, ◌≤◌, ◌<◌}
use lib.Dec.{ltb, leb}
use lib.ListN.{length, take, length-take}
use lib.Seq.{take_all}
use borrow.Author.Tests.{ltb-true, ltb-false, leb-true}
use native.Mathlib.Omega.{arith}
use Rattle.listing.specs.Listing.{Listing}
use Rattle.walk.specs.State.{State}
use Rattle.walk.specs.Instant.{Write, next_due, instant}
use Rattle.walk.specs.Calls.{Outcome, ask, answered, due_before, inputs_rise, allowed, instant_from}
use Rattle.walk_laws.proofs.Booleans.{false_is_not_true, and_left, and_right}

rising_few : (inputs least : ℕ) (ws : List Write) → least ≤ inputs → inputs_rise inputs least ws ≡ true → length ws + least ≤ inputs
unfolding inputs_rise
rising_few inputs least [] l h = omega arith
rising_few inputs least (w ∷ ws) l h =
    let first = leb least w.number in
    let second = ltb w.number inputs in
    let rest = and_right first _ h in
    let a : least ≤ w.number = leb-true _ _ (and_left first _ h) in
    let b : w.number < inputs = ltb-true _ _ (and_left second _ rest) in
    let c = rising_few inputs (suc w.number) ws (omega arith) (and_right second _ rest) in
    omega arith

too_many : (inputs : ℕ) (ws : List Write) → inputs ≤ 16 → 17 ≤ length ws → (x : Bool) → inputs_rise inputs 0 ws ≡ x → x ≡ false
too_many inputs ws few many false e = refl
too_many inputs ws few many true e = absurd (let a = rising_few inputs 0 ws (omega arith) e in let z : ⊥ = omega arith in z)

by_length : (listing : Listing) (s : State) (t : ℕ) (ws : List Write) (allowance : ℕ) → listing.inputs ≤ 16 → (x : Bool) → ltb (length ws) 18 ≡ x →
    instant_from listing s t ws allowance ≡ instant_from listing s t (take 17 ws) allowance
unfolding instant_from ask
by_length listing s t ws allowance few true e = rw (take_all 17 ws (let a = ltb-true (length ws) 18 e in omega arith))
by_length listing s t ws allowance few false e =
    let many : 18 ≤ length ws = ltb-false (length ws) 18 e in
    let taken : 17 ≤ length (take 17 ws) = simp length-take (omega arith) in
    let p = too_many listing.inputs ws few (omega arith) _ refl in
    let q = too_many listing.inputs (take 17 ws) few taken _ refl in
    rw (p, q)

pub seventeen_are_enough : (listing : Listing) (s : State) (t : ℕ) (ws : List Write) (allowance : ℕ) → listing.inputs ≤ 16 →
    instant_from listing s t ws allowance ≡ instant_from listing s t (take 17 ws) allowance
seventeen_are_enough listing s t ws allowance few = by_length listing s t ws allowance few (ltb (length ws) 18) refl
