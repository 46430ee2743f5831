-- The names of a sleeper's wait, as the table's words `t` have them.
use Rattle.std.specs.Prelude.{true, List, [], ◌≡◌, ℕ, zero, suc, ◌+◌, ◌*◌, ◌≤◌, ◌<◌, length, get_or}
use Rattle.listing.specs.Listing.{Listing}
use Rattle.table.specs.Areas.{TableLong}
use Rattle.table.specs.Decode.{instruction_at_entry, instruction_entry}
use Rattle.table_read.specs.Opened.{HasEntry, entry_at}
use Rattle.engine_rows.specs.Rows.{Owner, Row, Rows}
use Rattle.engine_rows.specs.Triggers.{awaited, awaited_by, list_names, list_if}
use Rattle.engine_blocks.specs.Blocks.{rows_of}

unfoldable pub awaited_names : List ℕ → Row → List ℕ
awaited_names t row = awaited (instruction_at_entry t (instruction_entry t row.routine row.place))

-- "`W|n n ..` waits on 1 to 4 names", each a name of the routine.
pub record FewNames (row : Row) (names : List ℕ) : Type 0 where
  pub few : length names ≤ 4
  pub named : (k : ℕ) → k < length names → get_or names k 0 < length row.bindings

-- A sleeper's instruction has its entry in the table; a wait's cells stand there, and have such names.
pub record Sleeper (t : List ℕ) (row : Row) : Type 0 where
  pub table : TableLong t
  pub entry : HasEntry t row.routine row.place
  pub inside : (entry_at t row.routine row.place).kind ≡ 5
      → (entry_at t row.routine row.place).cells + 2 * (entry_at t row.routine row.place).first ≤ 12288
  pub names : FewNames row (awaited_names t row)

-- So it is for the sleeper in each slot.
pub record Sleepers (t words : List ℕ) : Type 0 where
  pub each : (s : ℕ) → s < 64 → (rows_of words s).asleep ≡ true → Sleeper t (rows_of words s)

-- The sleepers' names are those that the listing has.
pub record NamesOf (listing : Listing) (t words : List ℕ) : Type 0 where
  pub names : (s : ℕ) → s < 64 → (rows_of words s).asleep ≡ true → awaited_by listing (rows_of words s) ≡ awaited_names t (rows_of words s)

-- ── the lists as they are made ────────────────────────────────────────────────────────────────────
-- Lists with slot s put before each that a name of its wait is bound to.
unfoldable pub lists_with : List Owner → ℕ → List ℕ → (Owner → List ℕ) → Owner → List ℕ
lists_with bindings s names lists o = list_names bindings s names o (lists o)

-- Those of the sleepers in the first n slots.
unfoldable pub listed_below_lem : List ℕ → Rows → ℕ → Owner → List ℕ
listed_below_lem t rows zero o = []
listed_below_lem t rows (suc n) o = list_if (rows n).asleep (rows n).bindings n (awaited_names t (rows n)) o (listed_below_lem t rows n o)
