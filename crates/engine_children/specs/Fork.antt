-- What making all children of an `F` asks for and promises. The letters are those of specs/NewChild; `cells` is the address of the first child field.
use Rattle.std.specs.Prelude.{◌≡◌, true, List, ℕ, ◌+◌, ◌≤◌, ◌<◌, length, take}
use Rattle.table.specs.Decode.{calls_at, head_after, table_listing}
use Rattle.table.specs.Entry.{ChildStands}
use Rattle.table.specs.Question6.{is_table}
use Rattle.engine_rows.specs.Engine.{rows_with_new, new_slots}
use Rattle.engine_rows.specs.Holds.{used_below}
use Rattle.engine_blocks.specs.Blocks.{rows_of, environment_of}
use Rattle.engine_blocks.specs.Store.{store_of}
use Rattle.engine_blocks.specs.Changes.{SameOutside, SameTriggers}
use Rattle.engine_clean.specs.Clean.{Clean}
use Rattle.engine_evaluate.specs.Bound.{Bound, bindings_of}
use Rattle.engine_children.specs.declared.fork.NewSlots.{NewSlots}
use Rattle.engine_new_rows.specs.NewRow.{MayDivide}

-- The slots of the new children, in order.
abbrev pub slots_in : NewSlots → List ℕ
slots_in r = take r.count r.places

-- The child fields fit their caller, and there are free slots for all: "At `F`: live routines plus new children at most 64".
pub record MayFork (t m : List ℕ) (me cells n : ℕ) : Type 0 where
  pub size : 12288 ≤ length m
  pub table : is_table t ≡ true
  pub caller : me < 64
  pub live : (rows_of m me).used ≡ true
  pub fields : (j : ℕ) → j < n → ChildStands t (length (bindings_of m me)) (head_after t cells j)
  pub divides : MayDivide (rows_of m) me n
  pub room : used_below (rows_of m) 64 + n ≤ 64
  -- free slots are blank, whatever the number of environment variables
  pub variables : ℕ
  pub clean : Clean variables m

-- All children exist, in the slots r, if the caller's names lead to variables that are there; nothing else changed.
pub record MakesChildren (t before : List ℕ) (me cells n : ℕ) (after : List ℕ) (r : NewSlots) : Type 0 where
  pub count : r.count ≡ n
  pub rows : (moment k : ℕ) → Bound (store_of k before) (bindings_of before me)
      → rows_of after ≡ rows_with_new (table_listing t) moment (rows_of before) (environment_of k before) me n (calls_at t cells n) 0
  pub slots : (moment k : ℕ) → Bound (store_of k before) (bindings_of before me)
      → slots_in r ≡ new_slots (table_listing t) moment (rows_of before) (environment_of k before) me n (calls_at t cells n) 0
  pub environment : (k : ℕ) → environment_of k after ≡ environment_of k before
  pub outside : SameOutside before after
  pub triggers : SameTriggers before after
  pub clean : (k : ℕ) → Clean k before → Clean k after
