-- What copying the values of arguments by value asks for and promises. The letters are those of specs/Naming; n the number of environment variables.
use Rattle.std.specs.Prelude.{◌≡◌, List, ◌++◌, ℕ, ◌+◌, ◌*◌, ◌≤◌, ◌<◌, replicate}
use Rattle.table.specs.Decode.{names_at, kinds_of_bits}
use Rattle.engine_blocks.specs.Tabulate.{tabulate_from}
use Rattle.engine_blocks.specs.Blocks.{block, variable_in}
use Rattle.engine_blocks.specs.Store.{store_of}
use Rattle.engine_blocks.specs.Changes.{InBlock}
use Rattle.engine_evaluate.specs.Bound.{Bound, bindings_of, variable_named}
use Rattle.engine_new_names.specs.Naming.{MayBind}
use Rattle.walk.specs.State.{new_variable}
use Rattle.walk.specs.Memory.{own_variables}

-- Nothing is left in block s of a routine that was there before.
pub record MayPass (t m : List ℕ) (me s at count locals : ℕ) : Type 0 where
  pub binds : MayBind t m me s at count locals
  pub blank : (k : ℕ) → k < 144 → block m s k ≡ 0

-- "all `v` values are copied": the first `own` variables of block s hold them, and are new; no other word changed.
pub record ValuesPassed (t before : List ℕ) (me s at count bits : ℕ) (after : List ℕ) (own : ℕ) : Type 0 where
  pub in_block : InBlock s before after (block after s)
  pub others : (k : ℕ) → ((i : ℕ) → i < own → k ≡ 8 + i * 6 → ⊥) → block after s k ≡ block before s k
  pub few : own ≤ count
  pub variables : (moment n : ℕ) → Bound (store_of n before) (bindings_of before me) → (locals : ℕ)
      → tabulate_from 0 own (variable_in (block after s)) ++ replicate locals (new_variable moment 0)
      ≡ own_variables moment (kinds_of_bits count bits) (names_at t at count) locals (variable_named n before me)

-- One value, if the argument is by value: as much of the above for the argument named `name`.
pub record ValuePassed (before : List ℕ) (me s name bit own : ℕ) (after : List ℕ) (r : ℕ) : Type 0 where
  pub in_block : InBlock s before after (block after s)
  pub others : (k : ℕ) → (k ≡ 8 + own * 6 → ⊥) → block after s k ≡ block before s k
  pub reference : bit ≡ 1 → (r ≡ own) × (block after s ≡ block before s)
  pub value : (bit ≡ 1 → ⊥) → (r ≡ own + 1) × ((n : ℕ) → Bound (store_of n before) (bindings_of before me) → block after s (8 + own * 6) ≡ (variable_named n before me name).value)
