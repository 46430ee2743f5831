-- Length and elements of a tabulated list; a tabulated list with one element changed.
use mathlib.Core.Path.{◌≡◌, refl, ap, ◌∙◌, sym}
use Prim.Native.Nat.{ℕ, zero, suc, ◌+◌, ◌≤◌, ◌<◌}
use native.Mathlib.Decide.{dec_lt}
use native.Mathlib.Nat.{zero-add}
use native.Mathlib.Omega.{arith}
use lib.ListN.{length, get_or, set}
use lib.Seq.{set_out}
use Rattle.engine_blocks.specs.Tabulate.{tabulate_from}

module _ {A : Type 0} where
  pub length_tabulate : (i n : ℕ) (f : ℕ → A) → length (tabulate_from i n f) ≡ n
  unfolding tabulate_from
  length_tabulate i zero f = refl
  length_tabulate i (suc n) f = ap suc (length_tabulate (suc i) n f)

  get_or-from : (i n : ℕ) (f : ℕ → A) (k : ℕ) (d : A) → k < n → get_or (tabulate_from i n f) k d ≡ f (i + k)
  unfolding tabulate_from
  get_or-from i (suc n) f zero d h = let e : i + 0 ≡ i = omega arith in rw e
  get_or-from i (suc n) f (suc k) d h =
      let l : k < n = omega arith in
      let e : suc i + k ≡ i + suc k = omega arith in
      get_or-from (suc i) n f k d l ∙ ap f e
  get_or-from i zero f k d h = absurd (let z : ⊥ = omega arith in z)

  pub get_d_tabulate : (n : ℕ) (f : ℕ → A) (k : ℕ) (d : A) → k < n → get_or (tabulate_from 0 n f) k d ≡ f k
  get_d_tabulate n f k d h = get_or-from 0 n f k d h ∙ ap f (zero-add k)

  pub tabulate_same : (i n : ℕ) (f g : ℕ → A) → ((k : ℕ) → i ≤ k → k < i + n → f k ≡ g k) → tabulate_from i n f ≡ tabulate_from i n g
  unfolding tabulate_from
  tabulate_same i zero f g h = refl
  tabulate_same i (suc n) f g h =
      rw (h i (omega arith) (omega arith), tabulate_same (suc i) n f g (λ k a b. h k (omega arith) (omega arith)))

  set-from :
      (i n : ℕ) (f g : ℕ → A) (k : ℕ) → k < n → ((j : ℕ) → i ≤ j → j < i + n → (j ≡ i + k → ⊥) → g j ≡ f j)
      → tabulate_from i n g ≡ set (tabulate_from i n f) k (g (i + k))
  unfolding tabulate_from
  set-from i (suc n) f g zero h e =
      let z : i + 0 ≡ i = omega arith in
      rw (z, tabulate_same (suc i) n g f (λ j a b. e j (omega arith) (omega arith) (λ q. omega arith)))
  set-from i (suc n) f g (suc k) h e =
      let z : i + suc k ≡ suc i + k = omega arith in
      let l : k < n = omega arith in
      rw (
        z,
        e i (omega arith) (omega arith) (λ q. omega arith),
        set-from (suc i) n f g k l (λ j a b q. e j (omega arith) (omega arith) (λ p. q (omega arith))),
      )
  set-from i zero f g k h e = absurd (let z : ⊥ = omega arith in z)

  -- f and g differ at k only: the list of g is that of f with one element set, if it has one there.
  pub tabulate-set :
      (n : ℕ) (f g : ℕ → A) (k : ℕ) (x : A) → (k < n → g k ≡ x) → ((j : ℕ) → j < n → (j ≡ k → ⊥) → g j ≡ f j)
      → tabulate_from 0 n g ≡ set (tabulate_from 0 n f) k x
  tabulate-set n f g k x new old = go (dec_lt k n)
    where
      go : Dec (k < n) → tabulate_from 0 n g ≡ set (tabulate_from 0 n f) k x
      go (yes l) =
          set-from 0 n f g k l (λ j p q h. old j (omega arith) (λ z. h (omega arith)))
          ∙ ap (λ (z : ℕ). set (tabulate_from 0 n f) k (g z)) (zero-add k) ∙ ap (set (tabulate_from 0 n f) k) (new l)
      go (no l) =
          let long : length (tabulate_from 0 n f) ≤ k = omega (arith, length_tabulate 0 n f) in
          tabulate_same 0 n g f (λ j p q. old j (omega arith) (λ z. omega arith)) ∙ sym (set_out (tabulate_from 0 n f) k x long)
