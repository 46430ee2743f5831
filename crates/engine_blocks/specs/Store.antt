-- Rows and environment together, and the changes that the engine's code makes to them.
use Rattle.std.specs.Prelude.{List, ℕ}
use Rattle.walk.specs.State.{Variable}
use Rattle.engine_rows.specs.Rows.{Owner, Row, Rows, with_row, variable_of, rows_with, environment_with}
use Rattle.engine_blocks.specs.Blocks.{rows_of, environment_of}

pub record Store : Type 0 where
  pub rows : Rows
  pub environment : List Variable

-- What the words stand for, with n environment variables.
unfoldable pub store_of : ℕ → List ℕ → Store
store_of n words = record { rows = rows_of words; environment = environment_of n words }

-- The row of slot s changed.
unfoldable pub with_slot : ℕ → (Row → Row) → Store → Store
with_slot s change store = record { rows = with_row store.rows s (change (store.rows s)); environment = store.environment }

-- The owner's variable.
unfoldable pub variable_from : Store → Owner → Variable
variable_from store o = variable_of store.rows store.environment o

-- The owner's variable changed.
unfoldable pub with_variable : Owner → (Variable → Variable) → Store → Store
with_variable o change store =
    let x = change (variable_from store o) in
    record { rows = rows_with store.rows o x; environment = environment_with o store.environment x }
