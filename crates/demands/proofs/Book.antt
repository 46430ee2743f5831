-- A page for the valve book (document 02, Change 1), about the exported function: its contract, and "the pages together hold each opening exactly once,
-- and no other row but headings and rows of spaces", said of what calls of it leave, one for every page of the same lists.
use mathlib.Core.Path.{◌≡◌}
use mathlib.Core.List.{List, [], map}
use Prim.Native.Nat.{ℕ, ◌≤◌, ◌<◌}
use lib.ListN.{length, get_or}
use Rattle.listing.specs.Bytes.{Bytes}
use Rattle.openings.specs.Writes.{writes_of}
use Rattle.openings.specs.Order.{sorted_openings}
use Rattle.page_rows.specs.Rows.{row, heading}
use Rattle.page.specs.Together.{row_of_bytes, rows_left, without_blanks, AllPrinted}
use Rattle.page.specs.declared.Printed.{Printed}
use Rattle.page.proofs.Left as Left
use Rattle.fabrwent.proofs.pages.fabrwent_page.Statement as Page
use Rattle.fabrwent.proofs.pages.fabrwent_page.Met as page_met

-- Every call, of any lists, page number and memory and under no condition, ends and answers with the defined outcome (`PageFigures`).
pub every_page_answers_as_defined : {M : Type 1} → Page.statement M
every_page_answers_as_defined = page_met.met

-- Calls for every page of the same lists, each of which goes through; a moment has 64 bits.
module _ (moments outputs values : List ℕ) (small : (k : ℕ) → get_or moments k 0 < 18446744073709551616) (before after : ℕ → Bytes) (r : ℕ → Printed)
    (calls : AllPrinted moments outputs values before after r) where
  -- "each opening exactly once, and no other row but headings and rows of spaces"
  pub pages_hold_each_opening_once : without_blanks (rows_left (r 1).pages after) ≡ map row (sorted_openings (writes_of moments outputs values))
  pages_hold_each_opening_once = Left.left_hold_each moments outputs values small before after r calls

  pub no_two_rows_are_equal : (i j : ℕ) → i < j → j < length (sorted_openings (writes_of moments outputs values)) →
      get_or (map row (sorted_openings (writes_of moments outputs values))) i [] ≡ get_or (map row (sorted_openings (writes_of moments outputs values))) j [] → ⊥
  no_two_rows_are_equal = Left.left_differ moments outputs values small before after r calls

  -- "the first being `NR`, `OPENED` and `OPEN FOR`": of each page that there is, and nowhere else
  pub headings_come_first : (page : ℕ) → 1 ≤ page → page ≤ (r 1).pages → row_of_bytes (after page) 0 ≡ heading
  headings_come_first = Left.heading_left moments outputs values small before after r calls

  pub headings_come_first_alone : (page i : ℕ) → i < 60 → row_of_bytes (after page) i ≡ heading → (i ≡ 0) × (1 ≤ page) × (page ≤ (r 1).pages)
  headings_come_first_alone = Left.heading_left_alone moments outputs values small before after r calls
