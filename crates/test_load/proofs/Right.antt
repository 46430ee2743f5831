-- The tables after a call, by its number.
use mathlib.Core.Path.{◌≡◌, refl, sym, subst}
use mathlib.Core.Bool.{Bool}
use mathlib.Core.List.{List, ◌++◌}
use Prim.Native.Nat.{ℕ, zero, suc, ◌≤◌}
use lib.ListN.{length, take, drop}
use Rattle.test_cases.proofs.Storing.{front_is}
use Rattle.test_cases.specs.Words.{Tells}
use Rattle.test_load.specs.Cases.{Untouched, Written, TablesRight}

pub of_loaded_lem : {table other : List ℕ} {number : ℕ} {r : Bool} → number ≡ 0 → Tells r (Written table other) → Tells r (TablesRight number table other)
unfolding TablesRight
of_loaded_lem {table} {other} {number} {r} e t = subst (λ (k : ℕ). Tells r (TablesRight k table other)) (sym e) t

pub of_refused : {table other : List ℕ} (number : ℕ) {r : Bool} → (number ≡ 0 → ⊥) → Tells r (Untouched table other) → Tells r (TablesRight number table other)
unfolding TablesRight
of_refused zero n t = absurd (n refl)
of_refused (suc k) n t = t

-- a refusal under number 1, of two tables of which the front was lent
pub both_fronts : (n : ℕ) (p t q o : List ℕ) → length p ≡ length (take n t) → n ≤ length t → length q ≡ length (take n o) → n ≤ length o
    → TablesRight 1 p q → Untouched (take n (p ++ drop n t)) (take n (q ++ drop n o))
unfolding TablesRight
both_fronts n p t q o e h f k u = rw (front_is n p t e h, front_is n q o f k) u
