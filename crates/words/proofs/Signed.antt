-- Words and the signed numbers that they stand for: `signed_less` is the order of the numbers, `is_positive` says that the number is at least 1.
-- a, b and d are words. The numbers are those that Rattle's own signed 32-bit values have (`to_z w32`).
use Rattle.std.proofs.Common.{◌≡◌, ℕ, zero, suc, ◌+◌, ◌-◌, ◌<◌, ◌≤◌, Bool, true, false, ltb, leb, pos, negsuc, neg_ℤ, refl, ap, ◌∙◌, arith, w32, SFits, to_z, of_z, ltb-false, ltb-true, le-ltb, lt-ltb}
use mathlib.Core.Bool.{and-true, and-false}
use lib.Signed.{lt_z, le_z}
use mir.ValLaws.{of_z-to_z, to_z-Fits}
use Rattle.words.specs.Words.{word, wrapping_subtract, negated, signed_less, is_positive, signed}

-- ---- the two cases of what a word stands for

pub signed_of_small : (a : ℕ) → a < 2147483648 → signed a ≡ pos a
signed_of_small a h = rw (lt-ltb a 2147483648 h)

pub signed_of_large : (a : ℕ) → 2147483648 ≤ a → a < 4294967296 → signed a ≡ negsuc (4294967295 - a)
signed_of_large a h k =
    let less : 4294967296 - suc a ≡ 4294967295 - a = omega arith in
    rw (le-ltb a 2147483648 h, lt-ltb a 4294967296 k) (ap negsuc less)

-- ---- the order

-- two tests with the same outcome
same_test : (t : Bool) (a b c d : ℕ) → ltb a b ≡ t → (a < b → c < d) → (b ≤ a → d ≤ c) → ltb c d ≡ t
same_test true a b c d e f g = lt-ltb c d (f (ltb-true a b e))
same_test false a b c d e f g = le-ltb c d (g (ltb-false a b e))

module _ (a b : ℕ) (ha : a < 4294967296) (hb : b < 4294967296) where
  by_signs : (s t : Bool) → ltb a 2147483648 ≡ s → ltb b 2147483648 ≡ t → signed_less a b ≡ lt_z (signed a) (signed b)
  by_signs true true p q =
      let x : a < 2147483648 = ltb-true _ _ p in
      let y : b < 2147483648 = ltb-true _ _ q in
      rw (signed_of_small a x, signed_of_small b y)
      (same_test (ltb a b) a b (word (a + 2147483648)) (word (b + 2147483648)) refl (λ h. omega arith) (λ h. omega arith))
  by_signs true false p q =
      let x : a < 2147483648 = ltb-true _ _ p in
      let y : 2147483648 ≤ b = ltb-false _ _ q in
      rw (signed_of_small a x, signed_of_large b y hb) (le-ltb (word (a + 2147483648)) (word (b + 2147483648)) (omega arith))
  by_signs false true p q =
      let x : 2147483648 ≤ a = ltb-false _ _ p in
      let y : b < 2147483648 = ltb-true _ _ q in
      rw (signed_of_large a x ha, signed_of_small b y) (lt-ltb (word (a + 2147483648)) (word (b + 2147483648)) (omega arith))
  by_signs false false p q =
      let x : 2147483648 ≤ a = ltb-false _ _ p in
      let y : 2147483648 ≤ b = ltb-false _ _ q in
      rw (signed_of_large a x ha, signed_of_large b y hb)
      (same_test (ltb (4294967295 - b) (4294967295 - a)) (4294967295 - b) (4294967295 - a)
      (word (a + 2147483648)) (word (b + 2147483648)) refl (λ h. omega arith) (λ h. omega arith))

  pub signed_less_is_the_order : signed_less a b ≡ lt_z (signed a) (signed b)
  signed_less_is_the_order = by_signs (ltb a 2147483648) (ltb b 2147483648) refl refl

-- ---- at least 1

module _ (d : ℕ) (hd : d < 4294967296) where
  by_sign : (s : Bool) → ltb d 2147483648 ≡ s → is_positive d ≡ le_z (pos 1) (signed d)
  by_sign true p =
      let x : d < 2147483648 = ltb-true _ _ p in
      rw (signed_of_small d x, p) (and-true (leb 1 d))
  by_sign false p =
      let x : 2147483648 ≤ d = ltb-false _ _ p in
      rw (signed_of_large d x hd, p) (and-false (leb 1 d))

  pub positive_is_at_least_one : is_positive d ≡ le_z (pos 1) (signed d)
  positive_is_at_least_one = by_sign (ltb d 2147483648) refl

-- ---- the numbers of 32 bits

module _ (a : ℕ) (ha : a < 4294967296) where
  pub signed_reads_bits_as_i32 : signed a ≡ to_z w32 a
  signed_reads_bits_as_i32 = rw (lt-ltb a 4294967296 ha)

  -- "Values are signed 32-bit."
  pub signed_has_32_bits : SFits w32 (signed a)
  signed_has_32_bits = rw signed_reads_bits_as_i32 (to_z-Fits w32 a (record { fits = ha }))

  -- and back
  pub word_of_signed : of_z w32 (signed a) ≡ a
  word_of_signed = rw signed_reads_bits_as_i32 (of_z-to_z w32 a (record { fits = ha }))

-- a literal's minus
pub negated_is_minus : (n : ℕ) → n ≤ 2147483648 → signed (negated n) ≡ neg_ℤ (pos n)
negated_is_minus zero h = refl
negated_is_minus (suc n) h =
    let e : negated (suc n) ≡ 4294967295 - n = omega arith in
    let back : 4294967295 - (4294967295 - n) ≡ n = omega arith in
    ap signed e ∙ signed_of_large (4294967295 - n) (omega arith) (omega arith) ∙ ap negsuc back

pub zero_minus_is_negated : (n : ℕ) → wrapping_subtract 0 n ≡ negated n
zero_minus_is_negated n = omega arith
