-- Laws of congruence, that two integers differ by a multiple of 2 to the 32: it is an equivalence, goes through sums, negations and products,
-- and is equality between numbers of 32 bits.
-- x, y, z, u and v are integers.
use Rattle.std.proofs.Common.{◌≡◌, ℕ, zero, suc, ◌-◌, ◌*◌, ◌<◌, ◌≤◌, ℤ, pos, negsuc, ◌+ℤ◌, ◌-ℤ◌, ◌*ℤ◌, neg_ℤ, sym, ap, ◌∙◌, arith, w32, SFits, le-ltb}
use lib.IntN.{neg_ℤ-+ℤ, +ℤ_idr, +ℤ_assoc, +ℤ_comm, +ℤ-neg_ℤ_cancel, *ℤ_comm}
use lib.Signed.{mag}
use Rattle.words.specs.Words.{Congruent}
use Rattle.words.proofs.Integers.{negation_of_product, product_of_sum, product_is_associative}

-- 2 to the 32
abbrev size : ℤ
size = pos 4294967296

-- ---- an equivalence

pub congruent_to_itself : (x : ℤ) → Congruent x x
congruent_to_itself x = record { times = pos 0; differ = sym (+ℤ_idr x) }

pub congruent_swapped : {x y : ℤ} → Congruent x y → Congruent y x
congruent_swapped {x} {y} h =
    record {
      times = neg_ℤ h.times;
      differ =
          sym (+ℤ-neg_ℤ_cancel y (h.times *ℤ size)) ∙ ap (λ (z : ℤ). z -ℤ h.times *ℤ size) (sym h.differ)
          ∙ ap (λ (z : ℤ). x +ℤ z) (sym (negation_of_product h.times size));
    }

pub congruent_chained : {x y z : ℤ} → Congruent x y → Congruent y z → Congruent x z
congruent_chained {x} {y} {z} h k =
    record {
      times = k.times +ℤ h.times;
      differ =
          h.differ ∙ ap (λ (u : ℤ). u +ℤ h.times *ℤ size) k.differ ∙ +ℤ_assoc z (k.times *ℤ size) (h.times *ℤ size)
          ∙ ap (λ (u : ℤ). z +ℤ u) (sym (product_of_sum k.times h.times size));
    }

-- ---- through the operations

sum_on_the_left : {x y : ℤ} → Congruent x y → (z : ℤ) → Congruent (x +ℤ z) (y +ℤ z)
sum_on_the_left {x} {y} h z =
    let k = h.times *ℤ size in
    record {
      times = h.times;
      differ =
          ap (λ (u : ℤ). u +ℤ z) h.differ ∙ +ℤ_assoc y k z ∙ ap (λ (u : ℤ). y +ℤ u) (+ℤ_comm k z) ∙ sym (+ℤ_assoc y z k);
    }

pub congruent_sums : {x y u v : ℤ} → Congruent x y → Congruent u v → Congruent (x +ℤ u) (y +ℤ v)
congruent_sums {x} {y} {u} {v} h k =
    congruent_chained (sum_on_the_left h u) (rw (+ℤ_comm y u, +ℤ_comm y v) (sum_on_the_left k y))

pub congruent_negations : {x y : ℤ} → Congruent x y → Congruent (neg_ℤ x) (neg_ℤ y)
congruent_negations {x} {y} h =
    record {
      times = neg_ℤ h.times;
      differ =
          ap neg_ℤ h.differ ∙ neg_ℤ-+ℤ y (h.times *ℤ size) ∙ ap (λ (u : ℤ). neg_ℤ y +ℤ u) (sym (negation_of_product h.times size));
    }

product_on_the_left : {x y : ℤ} → Congruent x y → (z : ℤ) → Congruent (x *ℤ z) (y *ℤ z)
product_on_the_left {x} {y} h z =
    record {
      times = h.times *ℤ z;
      differ =
          ap (λ (u : ℤ). u *ℤ z) h.differ ∙ product_of_sum y (h.times *ℤ size) z
          ∙ ap (λ (u : ℤ). y *ℤ z +ℤ u)
          (product_is_associative h.times size z ∙ ap (λ (u : ℤ). h.times *ℤ u) (*ℤ_comm size z)
          ∙ sym (product_is_associative h.times z size));
    }

pub congruent_products : {x y u v : ℤ} → Congruent x y → Congruent u v → Congruent (x *ℤ u) (y *ℤ v)
congruent_products {x} {y} {u} {v} h k =
    congruent_chained (product_on_the_left h u) (rw (*ℤ_comm y u, *ℤ_comm y v) (product_on_the_left k y))

-- ---- between numbers of 32 bits

-- a number of 32 bits and 2 to the 32 or more has more than 32 bits
too_far_for_32_bits : (x : ℤ) (n : ℕ) → mag x < 2147483648 → 4294967296 ≤ n → mag (x +ℤ pos n) < 2147483648 → ⊥
too_far_for_32_bits (pos a) n h k l = omega arith
too_far_for_32_bits (negsuc a) n h k l =
    let le : suc a ≤ n = omega arith in
    let e : mag (negsuc a +ℤ pos n) ≡ n - suc a = rw (le-ltb n (suc a) le) in
    omega arith

module _ (x y : ℤ) (hx : SFits w32 x) (hy : SFits w32 y) where
  by_times : (k : ℤ) → x ≡ y +ℤ k *ℤ size → y ≡ x +ℤ neg_ℤ k *ℤ size → x ≡ y
  by_times (pos zero) e f = e ∙ +ℤ_idr y
  by_times (pos (suc k)) e f =
      absurd (too_far_for_32_bits y (suc k * 4294967296) hy.sfits (omega arith) (rw e at hx.sfits))
  by_times (negsuc k) e f =
      absurd (too_far_for_32_bits x (suc k * 4294967296) hx.sfits (omega arith) (rw f at hy.sfits))

  pub congruent_within_32_bits_are_equal : Congruent x y → x ≡ y
  unfolding congruent_swapped
  congruent_within_32_bits_are_equal h = by_times h.times h.differ (congruent_swapped h).differ
