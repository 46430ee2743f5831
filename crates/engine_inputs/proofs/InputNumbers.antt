-- Question 11, "Are the input numbers below i and strictly rising?", gives that the numbers are below i.
use mathlib.Core.Path.{◌≡◌, refl}
use mathlib.Core.Bool.{Bool, true, false, ◌&&◌}
use mathlib.Core.List.{List, [], ◌∷◌}
use Prim.Native.Nat.{ℕ, zero, suc, ◌<◌}
use native.Mathlib.Omega.{arith}
use lib.Dec.{ltb, leb}
use lib.ListN.{length, get_or}
use borrow.Author.Tests.{ltb-true}
use Rattle.walk.specs.Calls.{inputs_rise, inputs_of}
use Rattle.engine_due.specs.Beginnings.{NumbersBelow}

first_holds : (a b : Bool) → (a && b) ≡ true → a ≡ true
first_holds true b e = refl
first_holds false b e = e

second_holds : (a b : Bool) → (a && b) ≡ true → b ≡ true
second_holds true b e = e
second_holds false b e = cc

number_below : (i least : ℕ) (ns vs : List ℕ) → length ns ≡ length vs → inputs_rise i least (inputs_of ns vs) ≡ true → (k : ℕ) → k < length ns → get_or ns k 0 < i
unfolding inputs_rise inputs_of
number_below i least [] vs e r k h = absurd (let z : ⊥ = omega arith in z)
number_below i least (n ∷ ns) [] e r k h = absurd (let z : ⊥ = omega arith in z)
number_below i least (n ∷ ns) (v ∷ vs) e r zero h =
    ltb-true n i (first_holds (ltb n i) (inputs_rise i (suc n) (inputs_of ns vs)) (second_holds (leb least n) (ltb n i && inputs_rise i (suc n) (inputs_of ns vs)) r))
number_below i least (n ∷ ns) (v ∷ vs) e r (suc k) h =
    number_below i (suc n) ns vs (omega arith)
    (second_holds (ltb n i) (inputs_rise i (suc n) (inputs_of ns vs)) (second_holds (leb least n) (ltb n i && inputs_rise i (suc n) (inputs_of ns vs)) r)) k (omega arith)

pub rising_numbers_below : (i least : ℕ) (ns vs : List ℕ) → length ns ≡ length vs → inputs_rise i least (inputs_of ns vs) ≡ true → NumbersBelow i ns
rising_numbers_below i least ns vs e r = record { below = number_below i least ns vs e r }
