-- A routine's names all lead to variables that are there.
use Rattle.std.specs.Prelude.{List, ℕ, ◌<◌, ◌≡◌, length}
use Rattle.walk.specs.State.{Variable}
use Rattle.engine_rows.specs.Rows.{Owner, in_environment, in_slot, owner_of, named}
use Rattle.engine_blocks.specs.Blocks.{rows_of, environment_of}
use Rattle.engine_blocks.specs.Store.{Store, store_of}
use Rattle.engine_variables.specs.Bindings.{variables_beside}

-- The variable's number among those beside it.
unfoldable pub number_of : Owner → ℕ
number_of (in_environment a) = a
number_of (in_slot s i) = i

pub record Bound (store : Store) (bindings : List Owner) : Type 0 where
  pub there : (name : ℕ) → name < length bindings → number_of (owner_of bindings name) < length (variables_beside store (owner_of bindings name))

-- The owners of the names of the routine in slot me.
abbrev pub bindings_of : List ℕ → ℕ → List Owner
bindings_of words me = (rows_of words me).bindings

-- The variables of its names, with n environment variables.
abbrev pub variable_named : ℕ → List ℕ → ℕ → ℕ → Variable
variable_named n words me = named (rows_of words) (environment_of n words) (bindings_of words me)

-- r is what the variables of the routine's names give, for every number of environment variables with which its names are bound.
pub record FromNames {A : Type 0} (words : List ℕ) (me : ℕ) (given : (ℕ → Variable) → A) (r : A) : Type 0 where
  pub equal : (n : ℕ) → Bound (store_of n words) (bindings_of words me) → r ≡ given (variable_named n words me)
