-- The order of the ready list depends on the priorities alone, and no change of a live routine's row touches those.
use mathlib.Core.List.{List, [], ◌∷◌}
use mathlib.Core.Path.{◌≡◌, refl, sym, ap, ◌∙◌}
use Prim.Native.Nat.{ℕ}
use native.Mathlib.Decide.{ℕ_discrete}
use Rattle.walk.specs.State.{Variable}
use Rattle.engine_rows.specs.Ready.{insert, insert_all_lem}
use Rattle.engine_rows.specs.Rows.{Owner, in_environment, in_slot, Row, Rows, with_row, with_own, rows_with}
use Rattle.engine_blocks.proofs.RowChanges.{with_row_same, with_row_other}

module _ (rows other : Rows) (same : (s : ℕ) → (rows s).low ≡ (other s).low) where
  pub insert_same_lows : (s : ℕ) (l : List ℕ) → insert rows s l ≡ insert other s l
  unfolding insert
  insert_same_lows s [] = refl
  insert_same_lows s (x ∷ l) = rw (same s, same x, insert_same_lows s l)

  pub insert_all_same_lows : (ss l : List ℕ) → insert_all_lem rows ss l ≡ insert_all_lem other ss l
  unfolding insert_all_lem
  insert_all_same_lows [] l = refl
  insert_all_same_lows (s ∷ ss) l = rw (insert_same_lows s l) (insert_all_same_lows ss (insert other s l))

-- A row replaced by one of the same priorities.
pub low_with_row : (rows : Rows) (s : ℕ) (r : Row) → r.low ≡ (rows s).low → (n : ℕ) → (rows n).low ≡ (with_row rows s r n).low
low_with_row rows s r h n = go (ℕ_discrete n s)
  where
    go : Dec (n ≡ s) → (rows n).low ≡ (with_row rows s r n).low
    go (yes e) = ap (λ (k : ℕ). (rows k).low) e ∙ sym h ∙ sym (ap (λ (x : Row). x.low) (ap (with_row rows s r) e ∙ with_row_same rows s r))
    go (no e) = sym (ap (λ (x : Row). x.low) (with_row_other rows s r n e))

-- A variable changed.
pub low_with_owner : (rows : Rows) (o : Owner) (x : Variable) (n : ℕ) → (rows n).low ≡ (rows_with rows o x n).low
unfolding rows_with with_own
low_with_owner rows (in_environment a) x n = refl
low_with_owner rows (in_slot s i) x n = low_with_row rows s _ refl n
