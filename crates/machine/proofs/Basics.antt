-- Small laws of tests and lists.
use mathlib.Core.Path.{◌≡◌, refl}
use mathlib.Core.Bool.{Bool, true, false, ◌&&◌}
use mathlib.Core.List.{List, [], ◌∷◌}
use Prim.Native.Nat.{ℕ, zero, suc}
use lib.ListN.{drop, get_or}
use native.Mathlib.Omega.{arith}

pub clash : {A : Type 0} → false ≡ true → A
clash e = absurd (let z : ◌≡◌ {A = ℕ} 0 1 = cc in let y : ⊥ = omega arith in y)

pub and_left : (a base : Bool) → a && base ≡ true → a ≡ true
and_left true base e = refl
and_left false base e = clash e

pub and_right : (a base : Bool) → a && base ≡ true → base ≡ true
and_right true base e = e
and_right false base e = clash e

pub drop_more : {A : Type 0} (n : ℕ) (l : List A) (a : A) (t : List A) → drop n l ≡ a ∷ t → drop (suc n) l ≡ t
drop_more zero [] a t e = let z : ◌≡◌ {A = ℕ} 0 1 = cc in absurd (let y : ⊥ = omega arith in y)
drop_more zero (base ∷ l) a t e = cc
drop_more (suc n) [] a t e = let z : ◌≡◌ {A = ℕ} 0 1 = cc in absurd (let y : ⊥ = omega arith in y)
drop_more (suc n) (base ∷ l) a t e = drop_more n l a t e

pub get_or-of_drop : {A : Type 0} (n : ℕ) (l : List A) (a d : A) (t : List A) → drop n l ≡ a ∷ t → get_or l n d ≡ a
get_or-of_drop zero [] a d t e = let z : ◌≡◌ {A = ℕ} 0 1 = cc in absurd (let y : ⊥ = omega arith in y)
get_or-of_drop zero (base ∷ l) a d t e = cc
get_or-of_drop (suc n) [] a d t e = let z : ◌≡◌ {A = ℕ} 0 1 = cc in absurd (let y : ⊥ = omega arith in y)
get_or-of_drop (suc n) (base ∷ l) a d t e = get_or-of_drop n l a d t e
