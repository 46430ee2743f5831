-- Lists that grow at their end by one element.
use mathlib.Core.Path.{◌≡◌, refl, ap, ap₂, ◌∙◌}
use mathlib.Core.List.{List, [], ◌∷◌, ◌++◌, append_assoc}
use Prim.Native.Nat.{ℕ, zero, suc, ◌+◌, ◌≤◌, ◌<◌}
use native.Mathlib.Nat.{zero-add}
use native.Mathlib.Omega.{arith}
use lib.ListN.{replicate}
use Rattle.engine_blocks.specs.Tabulate.{tabulate_from}
use Rattle.engine_blocks.proofs.Tabulated.{tabulate_same}

module _ {A : Type 0} where
  last_from_lem : (i n : ℕ) (f : ℕ → A) → tabulate_from i (suc n) f ≡ tabulate_from i n f ++ (f (i + n) ∷ [])
  unfolding tabulate_from
  last_from_lem i zero f = let e : i + 0 ≡ i = omega arith in rw e
  last_from_lem i (suc n) f =
      let e : suc i + n ≡ i + suc n = omega arith in
      ap (λ (l : List A). f i ∷ l) (last_from_lem (suc i) n f ∙ ap (λ (k : ℕ). tabulate_from (suc i) n f ++ (f k ∷ [])) e)

  -- the old elements, and x at the end
  pub tabulate_next : (n : ℕ) (f g : ℕ → A) (x : A) → ((k : ℕ) → k < n → g k ≡ f k) → g n ≡ x → tabulate_from 0 (suc n) g ≡ tabulate_from 0 n f ++ (x ∷ [])
  tabulate_next n f g x old new =
      last_from_lem 0 n g ∙ ap (λ (k : ℕ). tabulate_from 0 n g ++ (g k ∷ [])) (zero-add n) ∙ ap (λ (y : A). tabulate_from 0 n g ++ (y ∷ [])) new
      ∙ ap (λ (l : List A). l ++ (x ∷ [])) (tabulate_same 0 n g f (λ k a b. old k (omega arith)))

  -- what comes after the last element stays behind
  pub moved_over : (xs : List A) (x : A) (ys : List A) → (xs ++ (x ∷ [])) ++ ys ≡ xs ++ (x ∷ ys)
  moved_over xs x ys = append_assoc xs (x ∷ []) ys

  -- n elements from the i-th on, all x
  replicated : (i n : ℕ) (f : ℕ → A) (x : A) → ((k : ℕ) → i ≤ k → k < i + n → f k ≡ x) → tabulate_from i n f ≡ replicate n x
  unfolding tabulate_from
  replicated i zero f x h = refl
  replicated i (suc n) f x h = ap₂ ◌∷◌ (h i (omega arith) (omega arith)) (replicated (suc i) n f x (λ k a b. h k (omega arith) (omega arith)))

  split_from : (i n m : ℕ) (f : ℕ → A) → tabulate_from i (n + m) f ≡ tabulate_from i n f ++ tabulate_from (i + n) m f
  unfolding tabulate_from
  split_from i zero m f =
      let e : i + 0 ≡ i = omega arith in
      let z : 0 + m ≡ m = omega arith in
      rw (e, z)
  split_from i (suc n) m f =
      let e : i + suc n ≡ suc i + n = omega arith in
      let z : suc n + m ≡ suc (n + m) = omega arith in
      rw (z, e) (ap (λ (l : List A). f i ∷ l) (split_from (suc i) n m f))

  -- the old elements, and m times x
  pub tabulate_tail : (n m : ℕ) (f g : ℕ → A) (x : A) → ((k : ℕ) → k < n → g k ≡ f k) → ((k : ℕ) → n ≤ k → k < n + m → g k ≡ x)
      → tabulate_from 0 (n + m) g ≡ tabulate_from 0 n f ++ replicate m x
  tabulate_tail n m f g x old new =
      split_from 0 n m g
      ∙ ap₂ ◌++◌ (tabulate_same 0 n g f (λ k a b. old k (omega arith))) (replicated (0 + n) m g x (λ k a b. new k (omega arith) (omega arith)))
