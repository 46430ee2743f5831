-- How many outputs a call lists.
use mathlib.Core.Path.{◌≡◌, refl, ap}
use mathlib.Core.List.{List, [], ◌∷◌, map}
use Prim.Native.Nat.{ℕ, ◌+◌, ◌-◌, ◌≤◌}
use native.Mathlib.Omega.{arith}
use lib.ListN.{length, length-append, length-drop}
use Rattle.walk.specs.Calls.{Outcome, outcome_listed, numbers_after}
use Rattle.walk.specs.Promises.{Result, Keeps}
use Rattle.walk.specs.Promises as promises
use Rattle.layout.specs.Layout.{layout}
use Rattle.session_calls.specs.Calls.{Tells, listed_of, Made}
use Rattle.session_calls.specs.Calls as specs
use Rattle.session_calls.specs.declared.calls.Called.{Called}

length_map : {A B : Type 0} (f : A → B) (xs : List A) → length (map f xs) ≡ length xs
length_map f [] = refl
length_map f (x ∷ xs) = rw (length_map f xs)

-- No more are listed than a list has places.
listed_few : (table before machine numbers_before values_before numbers values : List ℕ) (o : Outcome) (result : Result) →
    Keeps layout table before numbers_before values_before machine numbers values o result → length numbers ≡ length numbers_before → result.listed ≤ length numbers_before
unfolding promises.result_of numbers_after
listed_few table before machine numbers_before values_before numbers values o result keeps same =
    let listed : result.listed ≡ length (outcome_listed o) = ap (λ (x : Result). x.listed) keeps.result in
    let long : length numbers ≡ length (outcome_listed o) + (length numbers_before - length (outcome_listed o)) =
    rw keeps.numbers_are (simp (length-append, length-drop, length_map)) in
    omega arith

told_few : (result : Result) (t n : ℕ) (called : Called) → result.listed ≤ n → Tells result t called → listed_of called ≤ n
told_few result t n _ h (specs.Tells.ended is nonzero) = omega arith
told_few result t n _ h (specs.Tells.went none at due same) = omega arith

pub called_few : {o : Outcome} {t : ℕ} {table machine numbers values machine' numbers' values' : List ℕ} {called : Called} →
    Made o t table machine numbers values machine' numbers' values' called → length numbers' ≡ length numbers → listed_of called ≤ length numbers
called_few {o} {t} {table} {machine} {numbers} {values} {machine'} {numbers'} {values'} {called} c same =
    told_few c.result t (length numbers) called (listed_few table machine machine' numbers values numbers' values' o c.result c.promise same) c.tells
