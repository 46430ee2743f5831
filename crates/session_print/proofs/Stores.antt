-- Runs of stores, one after another and from the back.
use mathlib.Core.Path.{◌≡◌, sym, ap, ◌∙◌}
use mathlib.Core.List.{List, [], ◌∷◌, ◌++◌}
use Prim.Native.Nat.{ℕ, suc, ◌+◌}
use native.Mathlib.Nat.{add-zero}
use native.Mathlib.Omega.{arith}
use lib.ListN.{length, set}
use lib.Seq.{sets, set_comm}

-- one run behind another
pub sets_append : (l : List ℕ) (i : ℕ) (xs ys : List ℕ) → sets l i (xs ++ ys) ≡ sets (sets l i xs) (i + length xs) ys
sets_append l i [] ys = ap (λ (k : ℕ). sets l k ys) (sym (add-zero i))
sets_append l i (x ∷ xs) ys =
    sets_append (set l i x) (suc i) xs ys
    ∙ ap (λ (k : ℕ). sets (sets (set l i x) (suc i) xs) k ys) (omega arith)

-- a run whose last store is made first
pub sets_last : (l : List ℕ) (i : ℕ) (xs : List ℕ) (y : ℕ) → sets l i (xs ++ (y ∷ [])) ≡ sets (set l (i + length xs) y) i xs
sets_last l i [] y = ap (λ (k : ℕ). set l k y) (sym (add-zero i))
sets_last l i (x ∷ xs) y =
    sets_last (set l i x) (suc i) xs y
    ∙ ap (λ (k : ℕ). sets (set (set l i x) k y) (suc i) xs) (omega arith)
    ∙ ap (λ (m : List ℕ). sets m (suc i) xs) (set_comm l i (i + length (x ∷ xs)) x y (λ e. omega arith))
