-- A variable of a block changed, as the owner's variable changed.
use mathlib.Core.List.{List}
use mathlib.Core.Path.{◌≡◌, sym, ap, ◌∙◌}
use Prim.Native.Nat.{ℕ, ◌+◌, ◌*◌, ◌≤◌, ◌<◌, min}
use native.Mathlib.Decide.{dec_lt}
use native.Mathlib.Omega.{arith}
use lib.ListN.{set}
use borrow.Author.Tests.{lt-ltb, le-ltb}
use Rattle.walk.specs.Memory.{variable_at}
use Rattle.walk.specs.State.{Variable, no_variable}
use Rattle.engine_rows.specs.Rows.{with_own, variable_of, rows_with, environment_with}
use Rattle.engine_blocks.proofs.InBlocks.{same_outside, same_triggers}
use Rattle.engine_blocks.proofs.RowChanges.{row_of, rows_in_block, environment_stays, rows_stay, environment_in_block, variable_same, bindings_same}
use Rattle.engine_blocks.proofs.Tabulated.{tabulate-set, get_d_tabulate}
use Rattle.engine_blocks.specs.Blocks.{Block, block, variable_in, variables_in, owner_at, row_at, environment_of}
use Rattle.engine_blocks.specs.Changes.{InBlock, Changes}
use Rattle.engine_blocks.specs.Store.{store_of, variable_from, with_variable}

-- Only words of variable i differ.
pub record InVariable (a b : Block) (i : ℕ) : Type 0 where
  pub below : (k : ℕ) → k < 8 + i * 6 → b k ≡ a k
  pub above : (k : ℕ) → 14 + i * 6 ≤ k → (k ≡ 128 + i → ⊥) → b k ≡ a k

-- The variable in a list of variables of a block, if the list goes so far.
pub variable_listed : (b : Block) (n i : ℕ) → i < min n 16 → variable_at (variables_in b n) i ≡ variable_in b i
unfolding variable_at variables_in
variable_listed b n i h = get_d_tabulate (min n 16) (variable_in b) i no_variable h

module _ (a b : Block) (i : ℕ) (few : i < 16) (v : InVariable a b i) where
  pub other_variable : (j : ℕ) → j < 16 → (j ≡ i → ⊥) → variable_in b j ≡ variable_in a j
  other_variable j h ne = variable_same a b j (go 8 (omega arith) (omega arith)) (go 9 (omega arith) (omega arith)) (go 10 (omega arith) (omega arith)) (go 11 (omega arith) (omega arith)) (v.above (128 + j) (omega arith) (λ e. ne (omega arith)))
    where
      go : (k : ℕ) → 8 ≤ k → k < 14 → b (k + j * 6) ≡ a (k + j * 6)
      go k l l' = which (dec_lt j i)
        where
          which : Dec (j < i) → b (k + j * 6) ≡ a (k + j * 6)
          which (yes q) = v.below (k + j * 6) (omega arith)
          which (no q) = let z : i < j = later ne q in v.above (k + j * 6) (omega arith) (λ e. omega arith)
            where
              later : (j ≡ i → ⊥) → (j < i → ⊥) → i < j
              later ne q = omega arith

  pub variables_set : (n : ℕ) (change : Variable → Variable) → variable_in b i ≡ change (variable_in a i)
      → variables_in b n ≡ set (variables_in a n) i (change (variable_at (variables_in a n) i))
  unfolding variables_in
  variables_set n change e =
      tabulate-set (min n 16) (variable_in a) (variable_in b) i _ (λ h. e ∙ ap change (sym (variable_listed a n i h)))
      (λ j h ne. other_variable j (omega arith) ne)

  pub row_with_variable : (change : Variable → Variable) → variable_in b i ≡ change (variable_in a i)
      → row_at b ≡ with_own (row_at a) (set (row_at a).own i (change (variable_at (row_at a).own i)))
  unfolding row_at with_own
  row_with_variable change e =
      rw (
        v.below 0 (omega arith),
        v.below 1 (omega arith),
        v.below 2 (omega arith),
        v.below 3 (omega arith),
        v.below 4 (omega arith),
        late 104 (omega arith) (omega arith),
        late 105 (omega arith) (omega arith),
        late 106 (omega arith) (omega arith),
        late 107 (omega arith) (omega arith),
        late 108 (omega arith) (omega arith),
        late 109 (omega arith) (omega arith),
        late 111 (omega arith) (omega arith),
        bindings_same a b (λ k l h. late k (omega arith) (omega arith)),
        variables_set (a 4) change e,
      )
    where
      late : (k : ℕ) → 104 ≤ k → k < 128 → b k ≡ a k
      late k l h = v.above k (omega arith) (λ z. omega arith)

module _ {s : ℕ} {a m : List ℕ} {b : Block} (p : InBlock s a m b) (i : ℕ) (few : i < 16) (v : InVariable (block a s) b i)
    (change : Variable → Variable) (e : variable_in b i ≡ change (variable_in (block a s) i)) where
  in_slot_lem : s < 64 → (n : ℕ) → store_of n m ≡ with_variable (owner_at s i) change (store_of n a)
  unfolding store_of variable_from with_variable owner_at rows_with environment_with variable_of
  in_slot_lem l n = rw (lt-ltb s 64 l, rows_in_block p l, environment_stays p l n, row_with_variable (block a s) b i few v change e, row_of a s l)

  in_environment_lem : s ≡ 64 → (n : ℕ) → store_of n m ≡ with_variable (owner_at s i) change (store_of n a)
  unfolding store_of variable_from with_variable owner_at rows_with environment_with variable_of environment_of
  in_environment_lem q n =
      rw (le-ltb s 64 (omega arith), rows_stay p q, environment_in_block p q n, variables_set (block a s) b i few v n change e, q)

  -- The owner's variable is changed as the block's is.
  pub changes_variable : s ≤ 64 → Changes s a m b (with_variable (owner_at s i) change)
  changes_variable h =
      record { in_block = p; store = λ n. go n (dec_lt s 64); outside = same_outside p h; triggers = same_triggers p (λ k l. v.above k (omega arith) (λ z. omega arith)) }
    where
      go : (n : ℕ) → Dec (s < 64) → store_of n m ≡ with_variable (owner_at s i) change (store_of n a)
      go n (yes l) = in_slot_lem l n
      go n (no l) = in_environment_lem (omega arith) n
