-- What reading a name's binding, and a variable by block and index, gives.
use Rattle.std.specs.Prelude.{List, ◌≡◌, ℕ, ◌≤◌, ◌<◌, length, Some, None}
use Rattle.std.specs.declared.option.Option.{Option}
use Rattle.words.specs.declared.moment.Moment.{Moment}
use Rattle.walk.specs.State.{Variable, Waiting, idle, due}
use Rattle.engine_rows.specs.Rows.{Owner, in_environment, in_slot, Row, owner_of}
use Rattle.engine_variables.specs.declared.Binding.{Binding}
use Rattle.engine_blocks.specs.Blocks.{block, variable_in, owner_at}
use Rattle.engine_blocks.specs.Store.{Store, store_of, variable_from}

-- The variable of a row's name, if there is such a name.
pub record BoundTo (row : Row) (name : ℕ) (b : Binding) : Type 0 where
  pub block : b.block ≤ 64
  pub index : b.index < 16
  pub owner : name < length row.bindings → owner_at b.block b.index ≡ owner_of row.bindings name

-- The variables among which the owner's is.
unfoldable pub variables_beside : Store → Owner → List Variable
variables_beside store (in_environment a) = store.environment
variables_beside store (in_slot s i) = (store.rows s).own

-- r is what a field of variable `index` of block s holds: by its words, and as the owner's variable, if there is such a variable.
pub record ReadOf {A : Type 0} (words : List ℕ) (s index : ℕ) (field : Variable → A) (r : A) : Type 0 where
  pub word : r ≡ field (variable_in (block words s) index)
  pub owned : (n : ℕ) → index < length (variables_beside (store_of n words) (owner_at s index)) → r ≡ field (variable_from (store_of n words) (owner_at s index))

-- The moment of a waiting write, if there is one.
unfoldable pub due_moment : Waiting → Option Moment
due_moment idle = None
due_moment (due t v) = Some (record { 0 = t })
