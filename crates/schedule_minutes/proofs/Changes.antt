-- The changes between the bits of two minutes, one input after another. Letters: m a moment, x and y the bits of two neighbouring minutes, k an input.
use mathlib.Core.Path.{◌≡◌, refl, sym, ap, ◌∙◌}
use mathlib.Core.Bool.{Bool, true, false}
use mathlib.Core.List.{List, [], ◌∷◌, ◌++◌, append-nil}
use Prim.Native.Nat.{ℕ, zero, suc, ◌+◌, ◌/◌, ◌%◌, ◌^◌, ◌≤◌, ◌<◌}
use native.Mathlib.Numerals.{add-one}
use native.Mathlib.Omega.{arith}
use lib.Dec.{eqb}
use lib.ListN.{length, length-append}
use borrow.Author.Tests.{eqb-true, eqb-false}
use Rattle.schedule.specs.Edges.{Edge, change, changes}
use Rattle.schedule_week.specs.Week.{is_marked}

-- the bit of an input, a number below 2
abbrev pub bit : ℕ → ℕ → ℕ
bit bits k = bits / 2 ^ k % 2

-- one input more
pub changes_turn : (m : ℕ) (f g : ℕ → Bool) (k : ℕ) → changes m f g (k + 1) ≡ changes m f g k ++ change m k (f k) (g k)
unfolding changes
changes_turn m f g k = rw (add-one k)

pub no_changes : (m : ℕ) (f g : ℕ → Bool) → changes m f g 0 ≡ []
unfolding changes
no_changes m f g = refl

pub change_none : (m k : ℕ) (a : Bool) → change m k a a ≡ []
unfolding change
change_none m k true = refl
change_none m k false = refl

pub changes_none : (m : ℕ) (f : ℕ → Bool) (k : ℕ) → changes m f f k ≡ []
unfolding changes
changes_none m f zero = refl
changes_none m f (suc k) = rw (changes_none m f k, change_none m k (f k))

-- an input whose bit stays, and one whose bit changes: it is listed with its new bit
pub bit_stays : (m k x y : ℕ) → bit x k ≡ bit y k → changes m (is_marked x) (is_marked y) (k + 1) ≡ changes m (is_marked x) (is_marked y) k
bit_stays m k x y e =
    changes_turn m (is_marked x) (is_marked y) k
    ∙ ap (λ (n : ℕ). changes m (is_marked x) (is_marked y) k ++ change m k (eqb n 1) (is_marked y k)) e
    ∙ ap (λ (l : List Edge). changes m (is_marked x) (is_marked y) k ++ l) (change_none m k (is_marked y k)) ∙ append-nil _

pub change_is : (m k a b : ℕ) → a < 2 → b < 2 → (a ≡ b → ⊥) → change m k (eqb a 1) (eqb b 1) ≡ record { moment = m; input = k; value = b } ∷ []
unfolding change
change_is m k a b p q n = go (eqb a 1) (eqb b 1) refl refl
  where
    go : (t u : Bool) → eqb a 1 ≡ t → eqb b 1 ≡ u → change m k t u ≡ record { moment = m; input = k; value = b } ∷ []
    go true true i j = absurd (n (eqb-true a 1 i ∙ sym (eqb-true b 1 j)))
    go true false i j = let z : b ≡ 0 = omega (arith, eqb-false b 1 j) in rw z
    go false true i j = rw (eqb-true b 1 j)
    go false false i j = absurd (n (omega (arith, eqb-false a 1 i, eqb-false b 1 j)))

pub bit_changes : (m k x y : ℕ) → (bit x k ≡ bit y k → ⊥) →
    changes m (is_marked x) (is_marked y) (k + 1) ≡ changes m (is_marked x) (is_marked y) k ++ (record { moment = m; input = k; value = bit y k } ∷ [])
bit_changes m k x y n =
    changes_turn m (is_marked x) (is_marked y) k
    ∙ ap (λ (l : List Edge). changes m (is_marked x) (is_marked y) k ++ l) (change_is m k (bit x k) (bit y k) (omega arith) (omega arith) n)

-- how many: p and q are the two bits
pub count_stays : (m k x y p q : ℕ) → p ≡ bit x k → q ≡ bit y k → p ≡ q → length (changes m (is_marked x) (is_marked y) (k + 1)) ≡ length (changes m (is_marked x) (is_marked y) k)
count_stays m k x y p q a b e = ap length (bit_stays m k x y (sym a ∙ e ∙ b))

pub count_grows : (m k x y p q : ℕ) → p ≡ bit x k → q ≡ bit y k → (p ≡ q → ⊥) → length (changes m (is_marked x) (is_marked y) (k + 1)) ≡ length (changes m (is_marked x) (is_marked y) k) + 1
count_grows m k x y p q a b n = ap length (bit_changes m k x y (λ e. n (a ∙ e ∙ sym b))) ∙ length-append (changes m (is_marked x) (is_marked y) k) _

-- fewer inputs have no more changes
pub changes_mono : (m : ℕ) (f g : ℕ → Bool) (j d : ℕ) → length (changes m f g j) ≤ length (changes m f g (j + d))
changes_mono m f g j zero = let e : j + 0 ≡ j = omega arith in rw e (omega arith)
changes_mono m f g j (suc d) =
    let e : j + suc d ≡ j + d + 1 = omega arith in
    rw (e, changes_turn m f g (j + d)) (omega (arith, changes_mono m f g j d, length-append (changes m f g (j + d)) (change m (j + d) (f (j + d)) (g (j + d)))))
