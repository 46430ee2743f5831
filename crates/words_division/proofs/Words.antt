-- Magnitudes and signs of words: no magnitude is above 2 to the 31, that of a divisor is not 0, and quotients and remainders
-- are words, whatever is divided.
use Prim.Native.Nat.{ℕ, ◌-◌, ◌/◌, ◌%◌, ◌≤◌, ◌<◌}
use mathlib.Core.Path.{◌≡◌, refl}
use mathlib.Core.Bool.{Bool, true, false, cond, not, beq}
use native.Mathlib.Nat.{le_trans, mod-lt, mod-le, div-le_self}
use native.Mathlib.Omega.{arith}
use borrow.Author.Tests.{leb-true, leb-false}
use lib.Dec.{leb}
use Rattle.words.specs.Words.{wrapping_subtract}
use Rattle.words_division.specs.Division.{is_negative, magnitude, with_sign, differ, signed_quotient, signed_remainder}

module _ (a : ℕ) where
  most_by_sign : (b : Bool) → leb 2147483648 a ≡ b → cond b (4294967296 - a) a ≤ 2147483648
  most_by_sign true e = let h = leb-true 2147483648 a e in omega arith
  most_by_sign false e = let h = leb-false 2147483648 a e in omega arith

  pub magnitude_most : magnitude a ≤ 2147483648
  magnitude_most = most_by_sign (is_negative a) refl

  -- that of a number that is not negative is below 2 to the 31
  pub magnitude_below : is_negative a ≡ false → magnitude a < 2147483648
  magnitude_below e = rw e (leb-false 2147483648 a e)

  some_by_sign : (b : Bool) → 0 < a → a < 4294967296 → 0 < cond b (4294967296 - a) a
  some_by_sign true h k = omega arith
  some_by_sign false h k = h

  pub magnitude_some : 0 < a → a < 4294967296 → 0 < magnitude a
  magnitude_some = some_by_sign (is_negative a)

  -- of a negative number, as a difference of words
  pub zero_minus_is_magnitude : is_negative a ≡ true → wrapping_subtract 0 a ≡ 4294967296 - a
  zero_minus_is_magnitude e = let h = leb-true 2147483648 a e in omega arith

-- as the code compares two signs
unlike_is_differ : (a b : Bool) → not (beq a b) ≡ differ a b
unlike_is_differ true true = refl
unlike_is_differ true false = refl
unlike_is_differ false true = refl
unlike_is_differ false false = refl

-- the definitions from their parts: m and n are the magnitudes, a and b the signs
module _ (x y : ℕ) {m n : ℕ} {a : Bool} (ea : a ≡ is_negative x) (em : m ≡ magnitude x) (en : n ≡ magnitude y) where
  pub quotient_of_parts : {b : Bool} → b ≡ is_negative y → with_sign (not (beq a b)) (m / n) ≡ signed_quotient x y
  unfolding signed_quotient
  quotient_of_parts {b} eb = rw (unlike_is_differ a b, ea, eb, em, en)

  pub remainder_of_parts : with_sign a (m % n) ≡ signed_remainder x y
  unfolding signed_remainder
  remainder_of_parts = rw (ea, em, en)

sign_keeps_word : (negative : Bool) (n : ℕ) → n ≤ 2147483648 → with_sign negative n < 4294967296
sign_keeps_word true n h = mod-lt (4294967296 - n) (omega arith)
sign_keeps_word false n h = omega arith

pub quotient_is_word : (x y : ℕ) → signed_quotient x y < 4294967296
unfolding signed_quotient
quotient_is_word x y =
    sign_keeps_word (differ (is_negative x) (is_negative y)) _ (le_trans (div-le_self (magnitude x) (magnitude y)) (magnitude_most x))

pub remainder_is_word : (x y : ℕ) → signed_remainder x y < 4294967296
unfolding signed_remainder
remainder_is_word x y = sign_keeps_word (is_negative x) _ (le_trans (mod-le (magnitude x) (magnitude y)) (magnitude_most x))
