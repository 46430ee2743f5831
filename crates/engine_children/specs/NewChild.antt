-- What making a child's row asks for and promises. The letters: t the table's words, m the machine's, me the caller's slot, `head` the address of the
-- child field, i its number, s the slot it takes, n the number of children of the `F`, k the number of environment variables.
use Rattle.std.specs.Prelude.{◌≡◌, true, List, ℕ, ◌≤◌, ◌<◌, length}
use Rattle.table.specs.Decode.{call_at, table_listing}
use Rattle.table.specs.Entry.{ChildStands}
use Rattle.table.specs.Question6.{is_table}
use Rattle.engine_rows.specs.Rows.{Row}
use Rattle.engine_rows.specs.Engine.{caller_at, child_row}
use Rattle.engine_blocks.specs.Blocks.{block, rows_of, environment_of}
use Rattle.engine_blocks.specs.Store.{store_of, with_slot}
use Rattle.engine_blocks.specs.Changes.{SameOutside, SameTriggers}
use Rattle.engine_clean.specs.Clean.{Clean}
use Rattle.engine_evaluate.specs.Bound.{Bound, bindings_of}
use Rattle.engine_new_rows.specs.NewRow.{MayDivide}

-- The child field fits its caller, and slot s is blank, as a free slot is.
pub record MayMake (t m : List ℕ) (me head i s n : ℕ) : Type 0 where
  pub size : 12288 ≤ length m
  pub table : is_table t ≡ true
  pub caller : me < 64
  pub slot : s < 64
  pub apart : me ≡ s → ⊥
  pub blank : (k : ℕ) → k < 144 → block m s k ≡ 0
  pub field : ChildStands t (length (bindings_of m me)) head
  pub divides : MayDivide (rows_of m) me n
  pub numbered : i < n

-- Slot s has the child's whole row, if the caller's names lead to variables that are there; nothing else changed.
pub record MakesChild (t before : List ℕ) (me head i s n : ℕ) (after : List ℕ) : Type 0 where
  pub store : (moment k : ℕ) → Bound (store_of k before) (bindings_of before me) → store_of k after
      ≡ with_slot s (λ (r : Row). child_row (table_listing t) moment (caller_at (rows_of before) (environment_of k before) me n) (call_at t head) i s) (store_of k before)
  pub taken : (rows_of after s).used ≡ true
  pub others : (r : ℕ) → (r ≡ s → ⊥) → rows_of after r ≡ rows_of before r
  pub environment : (k : ℕ) → environment_of k after ≡ environment_of k before
  pub outside : SameOutside before after
  pub triggers : SameTriggers before after
  pub clean : (k : ℕ) → Clean k before → Clean k after
