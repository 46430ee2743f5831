-- The child field that made a routine, as the code finds it. The letters are those of specs/Filling.
use Rattle.std.specs.Prelude.{◌≡◌, List, ℕ, ◌+◌, ◌<◌, length}
use Rattle.walk.specs.Walk.{child_count}
use Rattle.table.specs.Decode.{word, call_at, table_listing}
use Rattle.table.specs.Entry.{ChildStands}
use Rattle.engine_rows.specs.Rows.{Rows}
use Rattle.engine_rows.specs.Records.{calls_at}
use Rattle.engine_fill_row.specs.declared.field.Field.{Field}
use Rattle.engine_fill_row.specs.Filling.{field_of}

pub record FieldIs (t : List ℕ) (rows : Rows) (p s : ℕ) (r : Field) : Type 0 where
  pub stands : ChildStands t (length (rows p).bindings) r.head
  pub callee : r.callee ≡ word t (r.head + 1)
  pub is : call_at t r.head ≡ field_of t rows p s
  pub count : r.count ≡ child_count (calls_at (table_listing t) (rows p))
  pub numbered : (rows s).child < r.count
