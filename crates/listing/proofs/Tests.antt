-- What it says that a test passes: a conjunction, a test over a list, a reading that may fail.
use mathlib.Core.Path.{◌≡◌, refl}
use mathlib.Core.Bool.{Bool, true, false, ◌&&◌}
use mathlib.Core.List.{List, [], ◌∷◌, ◌++◌}
use mathlib.Core.Option.{none, some}
use Prim.Native.Nat.{ℕ}
use native.Mathlib.Omega.{arith}
use Rattle.listing.specs.Lists.{all}

pub no_test : {A : Type 0} → false ≡ true → A
no_test e = absurd (let z : ◌≡◌ {A = ℕ} 0 1 = cc in omega arith)

pub no_reading : {A B : Type 0} {b : B} → none ≡ some b → A
no_reading e = absurd (let z : ◌≡◌ {A = ℕ} 0 1 = cc in omega arith)

pub and_left : (a b : Bool) → (a && b) ≡ true → a ≡ true
and_left true b h = refl
and_left false b h = h

pub and_right : (a b : Bool) → (a && b) ≡ true → b ≡ true
and_right true b h = h
and_right false b h = no_test h

module _ {A : Type 0} (test : A → Bool) where
  pub all_head : (x : A) (xs : List A) → all test (x ∷ xs) ≡ true → test x ≡ true
  unfolding all
  all_head x xs h = and_left (test x) (all test xs) h

  pub all_tail : (x : A) (xs : List A) → all test (x ∷ xs) ≡ true → all test xs ≡ true
  unfolding all
  all_tail x xs h = and_right (test x) (all test xs) h

  pub all_append : (xs ys : List A) → all test xs ≡ true → all test ys ≡ true → all test (xs ++ ys) ≡ true
  unfolding all
  all_append [] ys p q = q
  all_append (x ∷ xs) ys p q = rw (all_head x xs p) (all_append xs ys (all_tail x xs p) q)

  pub all_left : (xs ys : List A) → all test (xs ++ ys) ≡ true → all test xs ≡ true
  unfolding all
  all_left [] ys h = refl
  all_left (x ∷ xs) ys h = rw (and_left (test x) (all test (xs ++ ys)) h) (all_left xs ys (and_right (test x) (all test (xs ++ ys)) h))

  pub all_right : (xs ys : List A) → all test (xs ++ ys) ≡ true → all test ys ≡ true
  unfolding all
  all_right [] ys h = h
  all_right (x ∷ xs) ys h = all_right xs ys (and_right (test x) (all test (xs ++ ys)) h)
