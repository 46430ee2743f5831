-- The pages together. Document 02, Change 1: "Proved: the pages together hold each opening exactly once, and no other row but headings and rows of
-- spaces." Here are the words of that sentence; the theorems stand in proofs/Demands, Headings, ReadRows and Distinct, and of the calls in proofs/Left.
use Rattle.std.specs.Prelude.{◌≡◌, Bool, true, false, cond, ◌||◌, not, List, [], ◌∷◌, ◌++◌, ℕ, zero, suc, ◌*◌, eqb, take, drop}
use Rattle.std.proofs.Math.Option.{Option}
use Rattle.listing.specs.Bytes.{Bytes, space, line_feed, read_figure}
use Rattle.listing.specs.Lists.{all}
use Rattle.openings.specs.Openings.{Opening}
use Rattle.page.specs.Pages.{page_rows}
use Rattle.page.specs.Call.{PageFigures}
use Rattle.page.specs.declared.Printed.{Printed}

-- a row of a page's bytes, from 0: "44 characters and a line feed"
abbrev pub row_of_bytes : Bytes → ℕ → Bytes
row_of_bytes bytes i = take 45 (drop (i * 45) bytes)

-- rows 2 to 60 of the pages 1 to n, one page behind another
unfoldable pub lower_rows : ℕ → List Opening → List Bytes
lower_rows zero openings = []
lower_rows (suc page) openings = lower_rows page openings ++ drop 1 (page_rows (suc page) openings)

-- so many rows of a page's bytes, from row i on
unfoldable pub rows_of_bytes : ℕ → ℕ → Bytes → List Bytes
rows_of_bytes zero i bytes = []
rows_of_bytes (suc count) i bytes = row_of_bytes bytes i ∷ rows_of_bytes count (suc i) bytes

-- rows 2 to 60 of the memories that calls for the pages 1 to n leave
unfoldable pub rows_left : ℕ → (ℕ → Bytes) → List Bytes
rows_left zero after = []
rows_left (suc page) after = rows_left page after ++ rows_of_bytes 59 1 (after (suc page))

-- calls for all pages of the same lists, each with a memory of its own; each goes through
pub record AllPrinted (moments outputs values : List ℕ) (before after : ℕ → Bytes) (r : ℕ → Printed) : Type 0 where
  pub promised : (page : ℕ) → PageFigures moments outputs values page (before page) (after page) (r page)
  pub through : (page : ℕ) → (r page).number ≡ 0

-- nothing but spaces and a line feed
abbrev pub is_space : ℕ → Bool
is_space byte = eqb byte space || eqb byte line_feed

unfoldable pub kept_if : Bool → Bytes → List Bytes → List Bytes
kept_if true r rows = r ∷ rows
kept_if false r rows = rows

-- the rows of spaces taken out
unfoldable pub without_blanks : List Bytes → List Bytes
without_blanks [] = []
without_blanks (r ∷ rows) = kept_if (not (all is_space r)) r (without_blanks rows)

-- the number in so many columns from a place on: the figure behind the spaces
unfoldable pub unpadded : Bytes → Bytes
unpadded [] = []
unpadded (byte ∷ text) = cond (eqb byte space) (unpadded text) (byte ∷ text)

abbrev pub number_at : Bytes → ℕ → ℕ → Option ℕ
number_at r place columns = read_figure (unpadded (take columns (drop place r)))
