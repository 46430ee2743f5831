-- The law `Divided` determines quotient and remainder: they are those of the magnitudes, with signs.
-- a, b and c are the magnitudes of dividend, divisor and remainder, s and t the signs of dividend and divisor, true for a negative number.
use Prim.Native.Nat.{ℕ, zero, suc, ◌+◌, ◌*◌, ◌/◌, ◌%◌, ◌≤◌, ◌<◌}
use mathlib.Core.Path.{◌≡◌, sym, ap, ◌∙◌}
use mathlib.Core.Bool.{Bool, true, false, not}
use native.Mathlib.Nat.{le-mul_of_pos_right, mod-eq_of_lt, div-eq_of_lt, mul-add-div, mul-add-mod_self_left}
use native.Mathlib.Omega.{arith}
use borrow.Author.Tests.{lt-ltb}
use lib.IntN.{ℤ, pos, negsuc, neg_ℤ, nat_abs, ◌+ℤ◌, ◌*ℤ◌, neg_ℤ-neg_ℤ, neg_ℤ-+ℤ}
use lib.Signed.{non_neg}
use Rattle.words.specs.Words.{signed}
use Rattle.words.proofs.Integers.{negation_of_product}
use Rattle.words_division.specs.Division.{differ, signed_quotient, signed_remainder, Divided}
use Rattle.words_division.proofs.Integers.{integer, negation_in_product, negation_of_integer, zero_of_sign, integer_of}
use Rattle.words_division.proofs.Law.{words_divided}

sum_stays_negative : (k c : ℕ) → c < k → non_neg (neg_ℤ (pos k) +ℤ pos c) ≡ false
sum_stays_negative zero c h = absurd (omega arith)
sum_stays_negative (suc k) c h = rw (lt-ltb c (suc k) h)

-- neither is negative
of_naturals : (a b c : ℕ) (q : ℤ) → c < b → pos a ≡ pos b *ℤ q +ℤ pos c → (q ≡ pos (a / b)) × (c ≡ a % b)
of_naturals a b c (pos n) less e =
    let sum : a ≡ b * n + c = ap nat_abs e in
    let quotient : (b * n + c) / b ≡ n + c / b = mul-add-div (omega arith) n c in
    let none : c / b ≡ 0 = div-eq_of_lt less in
    let left : (b * n + c) % b ≡ c % b = mul-add-mod_self_left b n c in
    let small : c % b ≡ c = mod-eq_of_lt less in
    (ap pos (rw sum (omega arith)), rw sum (omega arith))
of_naturals a b c (negsuc n) less e =
    let more : b ≤ b * suc n = le-mul_of_pos_right b (omega arith) in
    let negative : non_neg (neg_ℤ (pos (b * suc n)) +ℤ pos c) ≡ false = sum_stays_negative (b * suc n) c (omega arith) in
    let same : true ≡ non_neg (neg_ℤ (pos (b * suc n)) +ℤ pos c) = ap non_neg e in
    absurd (let z : ◌≡◌ {A = ℕ} 0 1 = cc in omega arith)

-- the dividend is not negative
of-any-divisor :
    (t : Bool) (a b c : ℕ) (q : ℤ) → c < b → pos a ≡ integer t b *ℤ q +ℤ pos c → (q ≡ integer t (a / b)) × (c ≡ a % b)
of-any-divisor false a b c q less e = of_naturals a b c q less e
of-any-divisor true a b c q less e =
    let turned : neg_ℤ (pos b) *ℤ q ≡ pos b *ℤ neg_ℤ q = negation_of_product (pos b) q ∙ sym (negation_in_product (pos b) q) in
    let found = of_naturals a b c (neg_ℤ q) less (e ∙ ap (λ (z : ℤ). z +ℤ pos c) turned) in
    (sym (neg_ℤ-neg_ℤ q) ∙ ap neg_ℤ found.0, found.1)

of-any-two :
    (s t : Bool) (a b c : ℕ) (q : ℤ) → c < b → integer s a ≡ integer t b *ℤ q +ℤ integer s c
    → (q ≡ integer (differ s t) (a / b)) × (c ≡ a % b)
of-any-two false t a b c q less e = of-any-divisor t a b c q less e
of-any-two true t a b c q less e =
    let k = integer t b *ℤ q in
    let turned : pos a ≡ integer t b *ℤ neg_ℤ q +ℤ pos c =
    sym (neg_ℤ-neg_ℤ (pos a)) ∙ ap neg_ℤ e ∙ neg_ℤ-+ℤ k (neg_ℤ (pos c)) ∙ ap (λ (z : ℤ). neg_ℤ k +ℤ z) (neg_ℤ-neg_ℤ (pos c))
    ∙ ap (λ (z : ℤ). z +ℤ pos c) (sym (negation_in_product (integer t b) q)) in
    let found = of-any-divisor t a b c (neg_ℤ q) less turned in
    (sym (neg_ℤ-neg_ℤ q) ∙ ap neg_ℤ found.0 ∙ negation_of_integer t (a / b), found.1)

-- a remainder by its sign, which is the dividend's
remainder_by_dividend : (x r : ℤ) → (0 < nat_abs r → non_neg r ≡ non_neg x) → r ≡ integer (not (non_neg x)) (nat_abs r)
remainder_by_dividend x (pos zero) sign = zero_of_sign (not (non_neg x))
remainder_by_dividend x (pos (suc n)) sign = rw (← sign (omega arith))
remainder_by_dividend x (negsuc n) sign = rw (← sign (omega arith))

-- is the integer negative?
abbrev negative : ℤ → Bool
negative z = not (non_neg z)

module _ {x y q r : ℤ} (law : Divided x y q r) where
  by_magnitudes : (q ≡ integer (differ (negative x) (negative y)) (nat_abs x / nat_abs y)) × (nat_abs r ≡ nat_abs x % nat_abs y)
  by_magnitudes =
      of-any-two (negative x) (negative y) (nat_abs x) (nat_abs y) (nat_abs r) q law.less
      (rw (← integer_of x, ← integer_of y, ← remainder_by_dividend x r law.sign) law.whole)

  remainder_by_magnitudes : r ≡ integer (negative x) (nat_abs x % nat_abs y)
  remainder_by_magnitudes = remainder_by_dividend x r law.sign ∙ ap (integer (negative x)) by_magnitudes.1

-- the law is met by one quotient and one remainder alone
pub one_quotient_and_remainder : {x y q r p o : ℤ} → Divided x y q r → Divided x y p o → (q ≡ p) × (r ≡ o)
one_quotient_and_remainder law other =
    ((by_magnitudes law).0 ∙ sym (by_magnitudes other).0, remainder_by_magnitudes law ∙ sym (remainder_by_magnitudes other))

-- and these are what the words of the definitions stand for
module _ (x y : ℕ) (hx : x < 4294967296) (some : 0 < y) (hy : y < 4294967296) (apart : x ≡ 2147483648 → y ≡ 4294967295 → ⊥) where
  pub words-determined :
      {q r : ℤ} → Divided (signed x) (signed y) q r → (q ≡ signed (signed_quotient x y)) × (r ≡ signed (signed_remainder x y))
  words-determined law = one_quotient_and_remainder law (words_divided x y hx some hy apart)
