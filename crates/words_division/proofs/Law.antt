-- Document 02: "rounding toward zero, the remainder with the dividend's sign". Quotient and remainder of words stand for integers that meet
-- the law `Divided`. One pair of words is apart, -2147483648 divided by -1: its quotient would be 2147483648, which has no word.
-- x and y are words; s and t are the signs of dividend and divisor, true for a negative number, m and n their magnitudes.
use Prim.Native.Nat.{ℕ, ◌-◌, ◌*◌, ◌/◌, ◌%◌, ◌≤◌, ◌<◌}
use mathlib.Core.Path.{◌≡◌, refl, sym, ◌∙◌}
use mathlib.Core.Bool.{Bool, true, false}
use native.Mathlib.Nat.{le_trans, lt_of_le_of_lt, lt_of_lt_of_le, mod-lt, mod-le, div-le_self, div-add-mod, div-lt_iff_lt-mul}
use native.Mathlib.Decide.{dec_lt}
use native.Mathlib.Omega.{arith}
use borrow.Author.Tests.{leb-true}
use lib.IntN.{◌+ℤ◌, ◌*ℤ◌}
use lib.Signed.{non_neg}
use Rattle.words.specs.Words.{signed}
use Rattle.words_division.specs.Division.{is_negative, magnitude, differ, signed_quotient, signed_remainder, Divided}
use Rattle.words_division.proofs.Integers.{integer, product_of_signs, sum_of_one_sign, size_of_integer, sign_of_integer, signed_by_sign, signed_with_sign}
use Rattle.words_division.proofs.Words.{magnitude_most, magnitude_some, magnitude_below}

-- ---- of integers

differ_back : (s t : Bool) → differ t (differ s t) ≡ s
differ_back true true = refl
differ_back true false = refl
differ_back false true = refl
differ_back false false = refl

module _ (s t : Bool) (m n : ℕ) (some : 0 < n) where
  makes_up_the_dividend : integer s m ≡ integer t n *ℤ integer (differ s t) (m / n) +ℤ integer s (m % n)
  makes_up_the_dividend =
      rw (product_of_signs t (differ s t) n (m / n), differ_back s t, sum_of_one_sign s (n * (m / n)) (m % n), div-add-mod m n)

  keeps_the_sign : 0 < m % n → non_neg (integer s (m % n)) ≡ non_neg (integer s m)
  keeps_the_sign h = sign_of_integer s (m % n) h ∙ sym (sign_of_integer s m (lt_of_lt_of_le h (mod-le m n)))

  integers_divided : Divided (integer s m) (integer t n) (integer (differ s t) (m / n)) (integer s (m % n))
  integers_divided =
      record {
        whole = makes_up_the_dividend;
        less = rw (size_of_integer s (m % n), size_of_integer t n) (let h : m % n < n = mod-lt m some in omega arith);
        sign = λ h. keeps_the_sign (rw (size_of_integer s (m % n)) at h);
      }

-- ---- of words

quotient_below : (m n k : ℕ) → 0 < n → m < k * n → m / n < k
quotient_below m n k some h = (div-lt_iff_lt-mul some).1 h

module _ (x y : ℕ) (hx : x < 4294967296) (some : 0 < y) (hy : y < 4294967296) (apart : x ≡ 2147483648 → y ≡ 4294967295 → ⊥) where
  -- of two negative numbers: the dividend is not the least of all, or the divisor is not -1
  small_by_dividend : 2147483648 ≤ x → Dec (2147483648 < x) → (4294967296 - x) / (4294967296 - y) < 2147483648
  small_by_dividend h (yes more) = quotient_below (4294967296 - x) (4294967296 - y) 2147483648 (omega arith) (omega arith)
  small_by_dividend h (no least) =
      let other : y ≡ 4294967295 → ⊥ = apart (omega arith) in
      quotient_below (4294967296 - x) (4294967296 - y) 2147483648 (omega arith) (omega arith)

  -- a quotient that is not negative is below 2 to the 31
  small_by_signs : (s t : Bool) → is_negative x ≡ s → is_negative y ≡ t → differ s t ≡ false → magnitude x / magnitude y < 2147483648
  small_by_signs true true e f d = rw (e, f) (small_by_dividend (leb-true 2147483648 x e) (dec_lt 2147483648 x))
  small_by_signs true false e f d = absurd (let z : ◌≡◌ {A = ℕ} 0 1 = cc in omega arith)
  small_by_signs false t e f d = lt_of_le_of_lt (div-le_self (magnitude x) (magnitude y)) (magnitude_below x e)

  quotient_by_sign : signed (signed_quotient x y) ≡ integer (differ (is_negative x) (is_negative y)) (magnitude x / magnitude y)
  unfolding signed_quotient
  quotient_by_sign =
      signed_with_sign (differ (is_negative x) (is_negative y)) (magnitude x / magnitude y)
      (le_trans (div-le_self (magnitude x) (magnitude y)) (magnitude_most x)) (small_by_signs (is_negative x) (is_negative y) refl refl)

  remainder_by_sign : signed (signed_remainder x y) ≡ integer (is_negative x) (magnitude x % magnitude y)
  unfolding signed_remainder
  remainder_by_sign =
      signed_with_sign (is_negative x) (magnitude x % magnitude y) (le_trans (mod-le (magnitude x) (magnitude y)) (magnitude_most x))
      (λ e. lt_of_le_of_lt (mod-le (magnitude x) (magnitude y)) (magnitude_below x e))

  pub words_divided : Divided (signed x) (signed y) (signed (signed_quotient x y)) (signed (signed_remainder x y))
  words_divided =
      rw (signed_by_sign x hx, signed_by_sign y hy, quotient_by_sign, remainder_by_sign)
      (integers_divided (is_negative x) (is_negative y) (magnitude x) (magnitude y) (magnitude_some y some hy))

-- the pair apart: "-2147483648 divided by -1 wraps to itself and its remainder is 0"
pub least_by_minus_one : (signed_quotient 2147483648 4294967295 ≡ 2147483648) × (signed_remainder 2147483648 4294967295 ≡ 0)
unfolding signed_quotient signed_remainder
least_by_minus_one = (refl, refl)
