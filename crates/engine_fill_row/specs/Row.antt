-- What filling in one routine's working words asks for and promises. The letters are those of specs/Filling; `head` is the address of the child field
-- that made the routine in slot s, q what its row takes from its parent.
use Rattle.std.specs.Prelude.{◌≡◌, Bool, true, List, ℕ, suc, ◌+◌, ◌*◌, ◌^◌, ◌≤◌, ◌<◌, length}
use Rattle.walk.specs.State.{Variable}
use Rattle.walk.specs.Walk.{routine_at, instruction_at, child_count}
use Rattle.table.specs.Decode.{word, names_at, size_of, table_listing}
use Rattle.table.specs.Entry.{ChildStands}
use Rattle.table.specs.Question6.{is_table}
use Rattle.engine_rows.specs.Rows.{Owner, Row, with_row, with_children}
use Rattle.engine_rows.specs.Engine.{child_bindings, caller_at}
use Rattle.engine_rows.specs.Records.{is_wait, calls_at, filled_row_lem}
use Rattle.engine_blocks.specs.Blocks.{block, rows_of, environment_of}
use Rattle.engine_blocks.specs.Changes.{InBlock, SameOutside, SameTriggers}
use Rattle.engine_clean.specs.Clean.{Clean}
use Rattle.engine_evaluate.specs.Bound.{bindings_of}
use Rattle.engine_new_rows.specs.declared.rows.Parent.{Parent}
use Rattle.engine_new_rows.specs.NewRow.{Reaches}
use Rattle.engine_fill_row.specs.Filling.{field_of}

pub record MayFillRow (t m : List ℕ) (p s head callee : ℕ) (q : Parent) : Type 0 where
  pub size : 12288 ≤ length m
  pub table : is_table t ≡ true
  pub slot : s < 64
  pub parent : p < 64
  pub apart : p ≡ s → ⊥
  pub field : ChildStands t (length (bindings_of m p)) head
  pub called : callee ≡ word t (head + 1)
  pub place : (rows_of m s).place < size_of t callee
  pub least : q.slot ≤ 64
  pub reaches : Reaches q (rows_of m s).child

-- The kept row x with its working words filled in: child number i, running this routine with these names.
unfoldable pub working_row : Row → Parent → ℕ → Bool → ℕ → List Owner → Row
working_row x q i asleep routine names =
    record {
      used = x.used;
      asleep = asleep;
      level = x.level;
      parent = q.slot;
      child = x.child;
      base = q.base;
      children = 0;
      low = q.low + i * 2 ^ q.bits;
      bits = q.bits;
      routine = routine;
      place = x.place;
      bindings = names;
      own = x.own;
    }

-- Working words of block s alone changed, and its row is this now.
pub record RowFilled (before : List ℕ) (s : ℕ) (filled : Row) (after : List ℕ) : Type 0 where
  pub in_block : InBlock s before after (block after s)
  pub row : rows_of after s ≡ filled
  pub kept : (k : ℕ) → (104 ≤ k → k < 128 → ⊥) → block after s k ≡ block before s k

-- The row that the child field at `head` gives the routine in slot s.
abbrev pub child_working : List ℕ → List ℕ → ℕ → ℕ → ℕ → ℕ → Parent → Row
child_working t m p s head callee q =
    working_row (rows_of m s) q (rows_of m s).child (is_wait (instruction_at (table_listing t) callee (rows_of m s).place)) callee
    (child_bindings (routine_at (table_listing t) callee).kinds (names_at t (head + 2) (word t (head + 0))) (routine_at (table_listing t) callee).locals (bindings_of m p) s 0)

-- Slot s has its whole row, and its parent's has one live child more; nothing else changed.
pub record ChildFilled (t before : List ℕ) (p s : ℕ) (after : List ℕ) : Type 0 where
  pub rows : (environment : List Variable) → rows_of after ≡ with_row (with_row (rows_of before) p (with_children (rows_of before p) (suc (rows_of before p).children))) s
      (filled_row_lem (table_listing t) (caller_at (rows_of before) environment p (child_count (calls_at (table_listing t) (rows_of before p)))) (field_of t (rows_of before) p s) (rows_of before s) s)
  pub environment : (k : ℕ) → environment_of k after ≡ environment_of k before
  pub outside : SameOutside before after
  pub triggers : SameTriggers before after
  pub clean : (k : ℕ) → Clean k before → Clean k after
