-- Integers by sign and magnitude: their products and sums, and the words that stand for them.
-- s and t are signs, true for a negative number; m and n are magnitudes.
use Prim.Native.Nat.{ℕ, zero, suc, ◌+◌, ◌-◌, ◌*◌, ◌≤◌, ◌<◌}
use mathlib.Core.Path.{◌≡◌, refl, sym, ap, ◌∙◌}
use mathlib.Core.Bool.{Bool, true, false, not, cond}
use native.Mathlib.Omega.{arith}
use borrow.Author.Tests.{leb-true, leb-false}
use lib.IntN.{ℤ, pos, negsuc, neg_ℤ, nat_abs, ◌+ℤ◌, ◌*ℤ◌, neg_ℤ-neg_ℤ, neg_ℤ-+ℤ, *ℤ_comm}
use lib.Signed.{non_neg}
use Rattle.words.specs.Words.{signed}
use Rattle.words.proofs.Integers.{negation_of_product}
use Rattle.words.proofs.Signed.{signed_of_small, signed_of_large, negated_is_minus}
use Rattle.words_division.specs.Division.{is_negative, magnitude, with_sign, differ}

abbrev pub integer : Bool → ℕ → ℤ
integer true n = neg_ℤ (pos n)
integer false n = pos n

pub negation_in_product : (m k : ℤ) → m *ℤ neg_ℤ k ≡ neg_ℤ (m *ℤ k)
negation_in_product m k = *ℤ_comm m (neg_ℤ k) ∙ negation_of_product k m ∙ ap neg_ℤ (*ℤ_comm k m)

pub negation_of_integer : (s : Bool) (n : ℕ) → neg_ℤ (integer s n) ≡ integer (not s) n
negation_of_integer true n = neg_ℤ-neg_ℤ (pos n)
negation_of_integer false n = refl

pub product_of_signs : (s t : Bool) (m n : ℕ) → integer s m *ℤ integer t n ≡ integer (differ s t) (m * n)
product_of_signs true true m n =
    negation_of_product (pos m) (neg_ℤ (pos n)) ∙ ap neg_ℤ (negation_in_product (pos m) (pos n)) ∙ neg_ℤ-neg_ℤ (pos (m * n))
product_of_signs true false m n = negation_of_product (pos m) (pos n)
product_of_signs false true m n = negation_in_product (pos m) (pos n)
product_of_signs false false m n = refl

pub sum_of_one_sign : (s : Bool) (m n : ℕ) → integer s m +ℤ integer s n ≡ integer s (m + n)
sum_of_one_sign true m n = sym (neg_ℤ-+ℤ (pos m) (pos n))
sum_of_one_sign false m n = refl

pub size_of_integer : (s : Bool) (n : ℕ) → nat_abs (integer s n) ≡ n
size_of_integer true zero = refl
size_of_integer true (suc n) = refl
size_of_integer false n = refl

-- 0 has no sign
pub sign_of_integer : (s : Bool) (n : ℕ) → 0 < n → non_neg (integer s n) ≡ not s
sign_of_integer true zero h = absurd (omega arith)
sign_of_integer true (suc n) h = refl
sign_of_integer false n h = refl

pub zero_of_sign : (s : Bool) → pos 0 ≡ integer s 0
zero_of_sign true = refl
zero_of_sign false = refl

pub integer_of : (z : ℤ) → z ≡ integer (not (non_neg z)) (nat_abs z)
integer_of (pos n) = refl
integer_of (negsuc n) = refl

-- ---- of words

module _ (a : ℕ) (ha : a < 4294967296) where
  by_sign : (s : Bool) → is_negative a ≡ s → signed a ≡ integer s (cond s (4294967296 - a) a)
  by_sign true e =
      let h = leb-true 2147483648 a e in
      let next : 4294967296 - a ≡ suc (4294967295 - a) = omega arith in
      signed_of_large a h ha ∙ ap (λ (n : ℕ). neg_ℤ (pos n)) (sym next)
  by_sign false e = signed_of_small a (leb-false 2147483648 a e)

  pub signed_by_sign : signed a ≡ integer (is_negative a) (magnitude a)
  signed_by_sign = by_sign (is_negative a) refl

-- 2 to the 31 is the magnitude of a negative number alone
pub signed_with_sign : (s : Bool) (n : ℕ) → n ≤ 2147483648 → (s ≡ false → n < 2147483648) → signed (with_sign s n) ≡ integer s n
signed_with_sign true n h k = negated_is_minus n h
signed_with_sign false n h k = signed_of_small n (k refl)
