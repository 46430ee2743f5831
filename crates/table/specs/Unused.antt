-- The words of a listing's table that hold nothing of it (docs/LAYOUT.md): behind the header's three, behind the entries of its routines and of
-- its instructions, and behind its cells.
use Rattle.std.specs.Prelude.{ℕ, ◌+◌, ◌*◌, ◌≤◌, ◌<◌, length}
use Rattle.listing.specs.Listing.{Listing}
use Rattle.table.specs.Areas.{routine_area, entry_area, cell_area, table_size, all_code, all_cells}

pub data Unused (listing : Listing) (k : ℕ) : Type 0 where
  behind_header : 3 ≤ k → k < routine_area → Unused listing k
  behind_routines : routine_area + 5 * length listing.routines ≤ k → k < entry_area → Unused listing k
  behind_entries : entry_area + 5 * length (all_code listing.routines) ≤ k → k < cell_area → Unused listing k
  behind_cells : cell_area + length (all_cells (all_code listing.routines)) ≤ k → k < table_size → Unused listing k
