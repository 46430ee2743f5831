-- Quotients and remainders of small numbers of either sign, as the definitions give them, and of the pair that document 02 names.
use mathlib.Core.Path.{◌≡◌, refl}
use lib.IntN.{pos, neg_ℤ}
use Rattle.words.specs.Words.{negated, signed}
use Rattle.words_division.specs.Division.{signed_quotient, signed_remainder}

-- "rounding toward zero"
seven_by_minus_two : signed (signed_quotient 7 (negated 2)) ≡ neg_ℤ (pos 3)
unfolding signed_quotient
seven_by_minus_two = refl

minus_seven_by_two : signed (signed_quotient (negated 7) 2) ≡ neg_ℤ (pos 3)
unfolding signed_quotient
minus_seven_by_two = refl

minus_seven_by_minus_two : signed (signed_quotient (negated 7) (negated 2)) ≡ pos 3
unfolding signed_quotient
minus_seven_by_minus_two = refl

-- "the remainder with the dividend's sign"
left_of_seven : signed (signed_remainder 7 (negated 2)) ≡ pos 1
unfolding signed_remainder
left_of_seven = refl

left_of_minus_seven : signed (signed_remainder (negated 7) 2) ≡ neg_ℤ (pos 1)
unfolding signed_remainder
left_of_minus_seven = refl

left_of_minus_six : signed (signed_remainder (negated 6) 2) ≡ pos 0
unfolding signed_remainder
left_of_minus_six = refl

-- "-2147483648 divided by -1 wraps to itself and its remainder is 0"
least_by_minus_one : signed (signed_quotient (negated 2147483648) (negated 1)) ≡ neg_ℤ (pos 2147483648)
unfolding signed_quotient
least_by_minus_one = refl

left_of_least : signed (signed_remainder (negated 2147483648) (negated 1)) ≡ pos 0
unfolding signed_remainder
left_of_least = refl

-- the least number by 1, which does not wrap
least_by_one : signed (signed_quotient (negated 2147483648) 1) ≡ neg_ℤ (pos 2147483648)
unfolding signed_quotient
least_by_one = refl
