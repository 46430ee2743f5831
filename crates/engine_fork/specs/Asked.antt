-- What an `F` of the running routine asks of the words and of the running state. Letters: t the table's words, u the running state,
-- `cells` the address of the first child field, n the number of children.
use Rattle.std.specs.Prelude.{true, List, ◌≡◌, ℕ, ◌+◌, ◌≤◌, ◌<◌, length}
use Rattle.table.specs.Decode.{head_after}
use Rattle.table.specs.Entry.{ChildStands}
use Rattle.table.specs.Question6.{is_table}
use Rattle.engine_rows.specs.Rows.{Row}
use Rattle.engine_rows.specs.Holds.{used_below}
use Rattle.engine_blocks.specs.Blocks.{rows_of}
use Rattle.engine_blocks.specs.Store.{store_of}
use Rattle.engine_clean.specs.Clean.{Clean}
use Rattle.engine_evaluate.specs.Bound.{Bound, bindings_of}
use Rattle.engine_new_rows.specs.NewRow.{MayDivide}
use Rattle.engine_steps.specs.declared.running.Running.{Running}
use Rattle.engine_steps.specs.Asked.{MayPop}

pub record MayForkStep (t words : List ℕ) (u : Running) (cells n : ℕ) : Type 0 where
  pub pops : MayPop words u
  pub table : is_table t ≡ true
  pub slot : u.me < 64
  pub live : (rows_of words u.me).used ≡ true
  pub fields : (j : ℕ) → j < n → ChildStands t (length (bindings_of words u.me)) (head_after t cells j)
  pub divides : (rows_of words u.me).level ≤ 9 → MayDivide (rows_of words) u.me n
  pub most : n ≤ 8
  -- the live routines are those in use; the ready ones are among them
  pub counted : used_below (rows_of words) 64 ≡ u.live
  pub room : u.live ≤ 64
  pub waiting : u.ready.count ≤ u.live
  -- the environment's variables, with which all names are bound; free slots are blank
  pub variables : ℕ
  pub clean : Clean variables words
  pub bound : Bound (store_of variables words) (bindings_of words u.me)
