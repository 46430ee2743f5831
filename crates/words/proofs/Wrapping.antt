-- Sums, differences and products of words stand for those of their numbers, up to a multiple of 2 to the 32; exactly so where these have 32 bits.
-- a and b are words.
use Rattle.std.proofs.Common.{◌≡◌, ℕ, zero, suc, ◌+◌, ◌-◌, ◌*◌, ◌/◌, ◌≤◌, Bool, true, false, ltb, ℤ, pos, negsuc, ◌+ℤ◌, ◌-ℤ◌, ◌*ℤ◌, neg_ℤ, sym, refl, ap, arith, w32, SFits, le-ltb}
use native.Mathlib.Nat.{mod-add-div'}
use Rattle.words.specs.Words.{word, wrapping_add, wrapping_subtract, wrapping_multiply, signed, Congruent}
use Rattle.words.proofs.Congruent.{congruent_swapped, congruent_chained, congruent_sums, congruent_negations, congruent_products, congruent_within_32_bits_are_equal}
use Rattle.words.proofs.Signed.{signed_has_32_bits}

-- a number's lowest 32 bits, and what they stand for, differ from it by a multiple of 2 to the 32
word_is_congruent : (n : ℕ) → Congruent (pos (word n)) (pos n)
word_is_congruent n = congruent_swapped (record { times = pos (n / 4294967296); differ = ap pos (sym (mod-add-div' n 4294967296)) })

signed_is_congruent : (a : ℕ) → Congruent (signed a) (pos a)
signed_is_congruent a = by_test (ltb a 2147483648) refl
  where
    by_test : (s : Bool) → ltb a 2147483648 ≡ s → Congruent (signed a) (pos a)
    by_test true p = record { times = pos 0; differ = rw p (ap pos (omega arith)) }
    by_test false p = record { times = negsuc 0; differ = rw p }

signed_word_is_congruent : (n : ℕ) → Congruent (signed (word n)) (pos n)
signed_word_is_congruent n = congruent_chained (signed_is_congruent (word n)) (word_is_congruent n)

pub sum_wraps : (a b : ℕ) → Congruent (signed (wrapping_add a b)) (signed a +ℤ signed b)
sum_wraps a b =
    congruent_chained (signed_word_is_congruent (a + b))
    (congruent_swapped (congruent_sums (signed_is_congruent a) (signed_is_congruent b)))

pub product_wraps : (a b : ℕ) → Congruent (signed (wrapping_multiply a b)) (signed a *ℤ signed b)
product_wraps a b =
    congruent_chained (signed_word_is_congruent (a * b))
    (congruent_swapped (congruent_products (signed_is_congruent a) (signed_is_congruent b)))

-- 2 to the 32 less b is congruent to minus b
rest_is_congruent : (b : ℕ) → b ≤ 4294967296 → Congruent (pos (4294967296 - b)) (neg_ℤ (pos b))
rest_is_congruent zero h = record { times = pos 1; differ = refl }
rest_is_congruent (suc b) h =
    record { times = pos 1; differ = rw (le-ltb 4294967296 (suc b) h) }

pub difference_wraps : (a b : ℕ) → b ≤ 4294967296 → Congruent (signed (wrapping_subtract a b)) (signed a -ℤ signed b)
difference_wraps a b h =
    congruent_chained (signed_word_is_congruent (a + (4294967296 - b)))
    (congruent_sums (congruent_swapped (signed_is_congruent a))
    (congruent_chained (rest_is_congruent b h) (congruent_negations (congruent_swapped (signed_is_congruent b)))))

-- a sum, difference or product z that has 32 bits is the result's number
pub exact_within_32_bits : (n : ℕ) (z : ℤ) → Congruent (signed (word n)) z → SFits w32 z → signed (word n) ≡ z
exact_within_32_bits n z h fits = congruent_within_32_bits_are_equal (signed (word n)) z (signed_has_32_bits (word n) (omega arith)) fits h
