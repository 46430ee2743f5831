-- What one step asks of the words and of the running state. Letters: t the table's words, u the running state.
use Rattle.std.specs.Prelude.{true, List, ◌≡◌, ℕ, suc, ◌+◌, ◌≤◌, ◌<◌, length}
use Rattle.table.specs.Decode.{word, names_of, size_of}
use Rattle.table.specs.Question6.{is_table}
use Rattle.engine_rows.specs.Rows.{Row}
use Rattle.engine_rows.specs.Holds.{used_below}
use Rattle.engine_blocks.specs.Blocks.{rows_of}
use Rattle.engine_blocks.specs.Store.{store_of}
use Rattle.engine_ready.specs.Ordered.{Ordered}
use Rattle.engine_ready.specs.Slots.{slots_of}
use Rattle.engine_clean.specs.Clean.{Clean}
use Rattle.engine_evaluate.specs.Bound.{Bound, bindings_of}
use Rattle.engine_new_rows.specs.NewRow.{MayDivide}
use Rattle.engine_steps.specs.declared.running.Running.{Running}
use Rattle.engine_steps.specs.Asked.{MayPop}

pub record MayStep (t words : List ℕ) (u : Running) : Type 0 where
  pub table : is_table t ≡ true
  pub pops : MayPop words u
  pub slot : u.me < 64
  pub live : (rows_of words u.me).used ≡ true
  pub ready : Ordered (rows_of words) (slots_of u.ready)
  -- it is at an instruction of its routine, with as many names as the routine has
  pub routine : (rows_of words u.me).routine < word t 2
  pub place : (rows_of words u.me).place < size_of t (rows_of words u.me).routine
  pub names : length (bindings_of words u.me) ≡ names_of t (rows_of words u.me).routine
  pub parent : (k : ℕ) → (rows_of words u.me).level ≡ suc k →
      ((rows_of words u.me).parent < 64) × (suc (rows_of words (rows_of words u.me).parent).place < 4294967296)
  pub divides : (n : ℕ) → 1 ≤ n → n ≤ 8 → (rows_of words u.me).level ≤ 9 → MayDivide (rows_of words) u.me n
  -- the live routines are those in use; the ready ones are among them
  pub counted : used_below (rows_of words) 64 ≡ u.live
  pub room : u.live ≤ 64
  pub waiting : u.ready.count ≤ u.live
  -- the environment's variables, with which all names are bound; free slots are blank
  pub variables : ℕ
  pub clean : Clean variables words
  pub bound : Bound (store_of variables words) (bindings_of words u.me)
