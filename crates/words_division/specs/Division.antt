-- Division of words, each of which stands for a signed number.
-- Document 02: "Expressions gain `/` and `%`, rounding toward zero, the remainder with the dividend's sign;
-- -2147483648 divided by -1 wraps to itself and its remainder is 0."
use Rattle.std.specs.Prelude.{ℕ, ◌-◌, ◌/◌, ◌%◌, ◌<◌, ◌≡◌, Bool, cond, not, leb, ℤ, nat_abs, ◌+ℤ◌, ◌*ℤ◌}
use Rattle.std.specs.Int.Signed.{non_neg}
use Rattle.words.specs.Words.{negated}

-- does the word stand for a negative number?
abbrev pub is_negative : ℕ → Bool
is_negative a = leb 2147483648 a

-- that number without its sign
abbrev pub magnitude : ℕ → ℕ
magnitude a = cond (is_negative a) (4294967296 - a) a

-- the word of the number with this magnitude: of a negative one, or not
abbrev pub with_sign : Bool → ℕ → ℕ
with_sign negative n = cond negative (negated n) n

-- is just one of the two negative?
abbrev pub differ : Bool → Bool → Bool
differ a b = cond a (not b) b

-- "rounding toward zero": the magnitudes are divided, and of two signs that differ comes a negative number.
-- (2147483648, of -2147483648 and -1, is the word of -2147483648: it wraps to itself.)
unfoldable pub signed_quotient : ℕ → ℕ → ℕ
signed_quotient x y = with_sign (differ (is_negative x) (is_negative y)) (magnitude x / magnitude y)

-- "the remainder with the dividend's sign"
unfoldable pub signed_remainder : ℕ → ℕ → ℕ
signed_remainder x y = with_sign (is_negative x) (magnitude x % magnitude y)

-- The law of integers that the two are to meet: x divided by y gives q and leaves r. It determines q and r.
pub record Divided (x y q r : ℤ) : Type 0 where
  -- the divisor, taken so many times, and the remainder make up the dividend
  pub whole : x ≡ y *ℤ q +ℤ r
  -- the quotient is rounded: less than the divisor remains
  pub less : nat_abs r < nat_abs y
  -- "toward zero, the remainder with the dividend's sign": it is 0, or negative just if the dividend is
  pub sign : 0 < nat_abs r → non_neg r ≡ non_neg x
