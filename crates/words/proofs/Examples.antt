-- Values that document 01 names, and those at the ends of the ranges, as the definitions give them.
use Rattle.std.proofs.Common.{◌≡◌, true, false, pos, neg_ℤ, refl}
use Rattle.words.specs.Words.{wrapping_add, wrapping_subtract, wrapping_multiply, negated, signed_less, is_positive, signed}
use Rattle.words.specs.Moments.{later_moment, later_at, later_number}

-- session i: "`#2147483647 #1 +` is -2147483648"
largest_and_one : signed (wrapping_add 2147483647 1) ≡ neg_ℤ (pos 2147483648)
largest_and_one = refl

zero_less_one : signed (wrapping_subtract 0 1) ≡ neg_ℤ (pos 1)
zero_less_one = refl

minus_one_squared : wrapping_multiply (negated 1) (negated 1) ≡ 1
minus_one_squared = refl

least_below_largest : signed_less (negated 2147483648) 2147483647 ≡ true
least_below_largest = refl

-- session h: "Delay 1 is taken, 0 is 16."
delay_one : is_positive 1 ≡ true
delay_one = refl

delay_zero : is_positive 0 ≡ false
delay_zero = refl

delay_minus_one : is_positive (negated 1) ≡ false
delay_minus_one = refl

-- session l: "At moment 2 to the 64 minus 1, delay 1 is 17."
past_the_last_moment : later_number (later_moment 18446744073709551615 1) ≡ 17
past_the_last_moment = refl

the_last_moment : later_moment 18446744073709551614 1 ≡ later_at 18446744073709551615
the_last_moment = refl
