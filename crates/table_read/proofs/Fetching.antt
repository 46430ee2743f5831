-- In a table that passes question 6 every instruction has its entry, and its five words tell it.
use mathlib.Core.Path.{◌≡◌}
use mathlib.Core.Bool.{true}
use mathlib.Core.List.{List}
use Prim.Native.Nat.{ℕ, ◌<◌}
use native.Mathlib.Omega.{arith}
use Rattle.table.specs.Areas.{TableLong}
use Rattle.table.specs.Decode.{word, size_of}
use Rattle.table.specs.Question6.{is_table}
use Rattle.table.specs.Entry.{Fetched}
use Rattle.table.proofs.Bounds.{bounds}
use Rattle.table.proofs.Entry.{fetched}
use Rattle.table_read.specs.Opened.{HasEntry, entry_at}
use Rattle.table_read.specs.declared.Entry.{Entry}

module _ (w : List ℕ) (table : is_table w ≡ true) (r : ℕ) (there : r < word w 2) (place : ℕ) (within : place < size_of w r) where
  pub has_entry : TableLong w × HasEntry w r place
  has_entry = let b = bounds w table in (b.words, (omega (arith, b.few, there), omega (arith, b.code r there, within)))

  pub entry_fetched : (e : Entry) → e ≡ entry_at w r place → Fetched w r place e.kind e.operand e.cells e.first e.second
  entry_fetched e is = rw is (fetched w table r there place within)
