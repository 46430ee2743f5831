-- Words of 32 bits, the signed numbers that they stand for, and their arithmetic. A word is a natural number below 2 to the 32.
-- Document 01: "Values are signed 32-bit." "Sums, differences and products wrap at 32 bits, two's complement; `<` gives 1 or 0."
use Rattle.std.specs.Prelude.{◌≡◌, ℕ, ◌+◌, ◌-◌, ◌*◌, ◌%◌, Bool, true, false, cond, ◌&&◌, List, [], ◌∷◌, ℤ, pos, ◌+ℤ◌, ◌-ℤ◌, ◌*ℤ◌, nat_eq, nat_le, nat_lt}

-- "wrap at 32 bits": the remainder by 2 to the 32
abbrev pub word : ℕ → ℕ
word n = n % 4294967296

-- "Sums ... wrap at 32 bits, two's complement"
abbrev pub wrapping_add : ℕ → ℕ → ℕ
wrapping_add a b = word (a + b)

-- "differences ... wrap at 32 bits, two's complement": b's complement is added
abbrev pub wrapping_subtract : ℕ → ℕ → ℕ
wrapping_subtract a b = word (a + (4294967296 - b))

-- "products wrap at 32 bits, two's complement"
abbrev pub wrapping_multiply : ℕ → ℕ → ℕ
wrapping_multiply a b = word (a * b)

-- "A minus stands only before a literal": the word of minus n, in two's complement
abbrev pub negated : ℕ → ℕ
negated n = word (4294967296 - n)

-- "`<` gives 1 or 0"
abbrev pub bit : Bool → ℕ
bit true = 1
bit false = 0

-- "`<`", of signed numbers: moved up by 2 to the 31, the words of negative numbers come first
abbrev pub signed_less : ℕ → ℕ → Bool
signed_less a b = nat_lt (word (a + 2147483648)) (word (b + 2147483648))

-- "is the delay at least 1?", of a signed number: from 1 up to 2 to the 31, and that left out
abbrev pub is_positive : ℕ → Bool
is_positive d = nat_le 1 d && nat_lt d 2147483648

-- "two's complement": the number that a word stands for. From 2 to the 31 on it is 2 to the 32 less.
abbrev pub signed : ℕ → ℤ
signed a = cond (nat_lt a 2147483648) (pos a) (pos a -ℤ pos 4294967296)

-- equal up to wrapping at 32 bits: x and y differ by a multiple of 2 to the 32
pub record Congruent (x y : ℤ) : Type 0 where
  pub times : ℤ
  pub differ : x ≡ y +ℤ times *ℤ pos 4294967296

-- these words are all 0
abbrev pub all_zero : List ℕ → Bool
all_zero [] = true
all_zero (x ∷ xs) = nat_eq x 0 && all_zero xs
