-- The whole minutes of a span. Letters: m a moment, a the first whole minute of a span, b the end of it.
use mathlib.Core.Path.{◌≡◌, refl}
use mathlib.Core.Bool.{Bool, true, false, cond}
use Prim.Native.Nat.{ℕ, ◌+◌, ◌-◌, ◌/◌, ◌%◌, ◌≤◌, ◌<◌}
use native.Mathlib.Omega.{arith}
use lib.Dec.{eqb}
use borrow.Author.Tests.{eq-eqb, ne_eqb, eqb-true, eqb-false, le-leb, lt-leb}
use Rattle.schedule_minutes.specs.Minutes.{to_minute, minutes_between}

pub from_start : (m : ℕ) → m ≡ 0 → to_minute m ≡ 60000
from_start m e = rw (eq-eqb m 0 e)

pub on_minute : (m : ℕ) → (m ≡ 0 → ⊥) → m % 60000 ≡ 0 → to_minute m ≡ 0
on_minute m n e = rw (ne_eqb m 0 n, eq-eqb (m % 60000) 0 e)

pub in_minute : (m : ℕ) → (m ≡ 0 → ⊥) → (m % 60000 ≡ 0 → ⊥) → to_minute m ≡ 60000 - m % 60000
in_minute m n d = rw (ne_eqb m 0 n, ne_eqb (m % 60000) 0 d)

-- the first whole minute: the next one at or after the moment, above 0
pub record First (m a : ℕ) : Type 0 where
  pub whole : a % 60000 ≡ 0
  pub above : 60000 ≤ a
  pub after : m ≤ a
  pub next : (x : ℕ) → m ≤ x → 1 ≤ x → x < a → x % 60000 ≡ 0 → ⊥

pub first_is_lem : (m : ℕ) → First m (m + to_minute m)
first_is_lem m = go (eqb m 0) (eqb (m % 60000) 0) refl refl
  where
    go : (t u : Bool) → eqb m 0 ≡ t → eqb (m % 60000) 0 ≡ u → First m (m + cond t 60000 (cond u 0 (60000 - m % 60000)))
    go true u i j = let z = eqb-true m 0 i in record { whole = omega arith; above = omega arith; after = omega arith; next = λ x l p h e. omega arith }
    go false true i j =
        let n : 1 ≤ m = omega (arith, eqb-false m 0 i) in
        let z = eqb-true (m % 60000) 0 j in
        record { whole = omega arith; above = omega arith; after = omega arith; next = λ x l p h e. omega arith }
    go false false i j =
        let n : 1 ≤ m = omega (arith, eqb-false m 0 i) in
        let z : 1 ≤ m % 60000 = omega (arith, eqb-false (m % 60000) 0 j) in
        record { whole = omega arith; above = omega arith; after = omega arith; next = λ x l p h e. omega arith }

-- the minutes of a span: none, or a last one before the end, less than a minute before it
pub none_between : (a b : ℕ) → b ≤ a → minutes_between a b ≡ 0
none_between a b h = rw (le-leb b a h)

pub some_between : (a b : ℕ) → a < b → minutes_between a b ≡ (b - a - 1) / 60000 + 1
some_between a b h = rw (lt-leb b a h)
