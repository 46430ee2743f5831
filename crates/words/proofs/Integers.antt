-- Laws of the integers' product that the library does not have: it goes past a negation, distributes over a sum, and is associative.
-- The last two go by successors and predecessors of one integer.
use Rattle.std.proofs.Common.{◌≡◌, zero, suc, ℤ, pos, negsuc, ◌+ℤ◌, ◌-ℤ◌, ◌*ℤ◌, neg_ℤ, sym, refl, ap, ◌∙◌}
use lib.IntN.{suc_ℤ, pred_ℤ, neg_ℤ-neg_ℤ, +ℤ_idr, +ℤ-suc_ℤ, +ℤ-pred_ℤ, +ℤ_assoc, zero-*ℤ, suc_ℤ-*ℤ, pred_ℤ-*ℤ}

pub negation_of_product : (m k : ℤ) → neg_ℤ m *ℤ k ≡ neg_ℤ (m *ℤ k)
negation_of_product (pos zero) k = zero-*ℤ k ∙ ap neg_ℤ (sym (zero-*ℤ k))
negation_of_product (pos (suc a)) (pos b) = refl
negation_of_product (pos (suc a)) (negsuc b) = sym (neg_ℤ-neg_ℤ (pos (suc a) *ℤ pos (suc b)))
negation_of_product (negsuc a) (pos b) = sym (neg_ℤ-neg_ℤ (pos (suc a) *ℤ pos b))
negation_of_product (negsuc a) (negsuc b) = refl

module _ (m k : ℤ) where
  sum_with_one_more : (n : ℤ) → (m +ℤ n) *ℤ k ≡ m *ℤ k +ℤ n *ℤ k → (m +ℤ suc_ℤ n) *ℤ k ≡ m *ℤ k +ℤ suc_ℤ n *ℤ k
  sum_with_one_more n h =
      ap (λ (z : ℤ). z *ℤ k) (+ℤ-suc_ℤ m n) ∙ suc_ℤ-*ℤ (m +ℤ n) k ∙ ap (λ (z : ℤ). z +ℤ k) h
      ∙ +ℤ_assoc (m *ℤ k) (n *ℤ k) k ∙ ap (λ (z : ℤ). m *ℤ k +ℤ z) (sym (suc_ℤ-*ℤ n k))

  sum_with_one_less : (n : ℤ) → (m +ℤ n) *ℤ k ≡ m *ℤ k +ℤ n *ℤ k → (m +ℤ pred_ℤ n) *ℤ k ≡ m *ℤ k +ℤ pred_ℤ n *ℤ k
  sum_with_one_less n h =
      ap (λ (z : ℤ). z *ℤ k) (+ℤ-pred_ℤ m n) ∙ pred_ℤ-*ℤ (m +ℤ n) k ∙ ap (λ (z : ℤ). z -ℤ k) h
      ∙ +ℤ_assoc (m *ℤ k) (n *ℤ k) (neg_ℤ k) ∙ ap (λ (z : ℤ). m *ℤ k +ℤ z) (sym (pred_ℤ-*ℤ n k))

  sum_with_none : (m +ℤ pos zero) *ℤ k ≡ m *ℤ k +ℤ pos zero *ℤ k
  sum_with_none = ap (λ (z : ℤ). z *ℤ k) (+ℤ_idr m) ∙ sym (+ℤ_idr (m *ℤ k)) ∙ ap (λ (z : ℤ). m *ℤ k +ℤ z) (sym (zero-*ℤ k))

pub product_of_sum : (m n k : ℤ) → (m +ℤ n) *ℤ k ≡ m *ℤ k +ℤ n *ℤ k
product_of_sum m (pos zero) k = sum_with_none m k
product_of_sum m (pos (suc n)) k = sum_with_one_more m k (pos n) (product_of_sum m (pos n) k)
product_of_sum m (negsuc zero) k = sum_with_one_less m k (pos zero) (sum_with_none m k)
product_of_sum m (negsuc (suc n)) k = sum_with_one_less m k (negsuc n) (product_of_sum m (negsuc n) k)

module _ (k l : ℤ) where
  factor_one_more : (m : ℤ) → m *ℤ k *ℤ l ≡ m *ℤ (k *ℤ l) → suc_ℤ m *ℤ k *ℤ l ≡ suc_ℤ m *ℤ (k *ℤ l)
  factor_one_more m h =
      ap (λ (z : ℤ). z *ℤ l) (suc_ℤ-*ℤ m k) ∙ product_of_sum (m *ℤ k) k l ∙ ap (λ (z : ℤ). z +ℤ k *ℤ l) h
      ∙ sym (suc_ℤ-*ℤ m (k *ℤ l))

  factor_one_less : (m : ℤ) → m *ℤ k *ℤ l ≡ m *ℤ (k *ℤ l) → pred_ℤ m *ℤ k *ℤ l ≡ pred_ℤ m *ℤ (k *ℤ l)
  factor_one_less m h =
      ap (λ (z : ℤ). z *ℤ l) (pred_ℤ-*ℤ m k) ∙ product_of_sum (m *ℤ k) (neg_ℤ k) l
      ∙ ap (λ (z : ℤ). z +ℤ neg_ℤ k *ℤ l) h ∙ ap (λ (z : ℤ). m *ℤ (k *ℤ l) +ℤ z) (negation_of_product k l)
      ∙ sym (pred_ℤ-*ℤ m (k *ℤ l))

  factor_none : pos zero *ℤ k *ℤ l ≡ pos zero *ℤ (k *ℤ l)
  factor_none = ap (λ (z : ℤ). z *ℤ l) (zero-*ℤ k) ∙ zero-*ℤ l ∙ sym (zero-*ℤ (k *ℤ l))

pub product_is_associative : (m k l : ℤ) → m *ℤ k *ℤ l ≡ m *ℤ (k *ℤ l)
product_is_associative (pos zero) k l = factor_none k l
product_is_associative (pos (suc n)) k l = factor_one_more k l (pos n) (product_is_associative (pos n) k l)
product_is_associative (negsuc zero) k l = factor_one_less k l (pos zero) (factor_none k l)
product_is_associative (negsuc (suc n)) k l = factor_one_less k l (negsuc n) (product_is_associative (negsuc n) k l)
