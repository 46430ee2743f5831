-- What main's row and names ask for and promise. Main's caller is the environment: its arguments are the environment's variables.
use Rattle.std.specs.Prelude.{◌≡◌, List, ℕ, length}
use Rattle.walk.specs.State.{Variable}
use Rattle.walk.specs.Walk.{routine_at}
use Rattle.walk.specs.Instant.{environment_size, main_call}
use Rattle.table.specs.Decode.{table_listing}
use Rattle.engine_rows.specs.Rows.{Owner, Row, with_row}
use Rattle.engine_rows.specs.Engine.{child_bindings}
use Rattle.engine_rows.specs.Beginning.{environment_bindings}
use Rattle.engine_blocks.specs.Blocks.{rows_of, environment_of}
use Rattle.engine_blocks.specs.Changes.{SameOutside, SameTriggers}
use Rattle.engine_clean.specs.Clean.{Clean}
use Rattle.engine_new_rows.specs.declared.rows.Parent.{Parent}

-- The owners of main's names, if it sits in slot s.
abbrev pub main_bindings : List ℕ → ℕ → List Owner
main_bindings t s =
    let listing = table_listing t in
    child_bindings (routine_at listing 0).kinds (main_call listing).arguments (routine_at listing 0).locals (environment_bindings (environment_size listing) 0) s 0

-- What main's row takes from the environment.
pub record MainParent (t : List ℕ) (q : Parent) : Type 0 where
  pub slot : q.slot ≡ 64
  pub level : q.level ≡ 0
  pub base : q.base ≡ environment_size (table_listing t)
  pub low : q.low ≡ 0
  pub bits : q.bits ≡ 32

-- Slot s has this row, for any environment with as many variables as the table has ports; nothing else changed.
pub record MainIs (t before : List ℕ) (s : ℕ) (row : List Variable → Row) (after : List ℕ) : Type 0 where
  pub rows : (environment : List Variable) → length environment ≡ environment_size (table_listing t) → rows_of after ≡ with_row (rows_of before) s (row environment)
  pub environment : (k : ℕ) → environment_of k after ≡ environment_of k before
  pub outside : SameOutside before after
  pub triggers : SameTriggers before after
  pub clean : (k : ℕ) → Clean k before → Clean k after
