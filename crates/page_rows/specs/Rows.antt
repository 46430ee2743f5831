-- The rows of the valve book, as bytes.
-- Document 02, Change 1: "print rows of 44 characters and a line feed: output number in 2 columns, a space, moment opened in 20, a space,
-- milliseconds open in 20, all right-aligned."
use Rattle.std.specs.Prelude.{◌≡◌, List, [], ◌∷◌, ◌++◌, ℕ, ◌-◌, ◌<◌, length, replicate}
use Rattle.std.proofs.Math.Option.{Option, none, some}
use Prim.Native.Char.{code}
use Rattle.listing.specs.Bytes.{Bytes, bytes_of, figure, space, line_feed}
use Rattle.openings.specs.Openings.{Opening}

-- "right-aligned": in so many columns, behind spaces
unfoldable pub right_aligned : ℕ → Bytes → Bytes
right_aligned columns text = replicate (columns - length text) space ++ text

-- "2 columns, a space, .. 20, a space, .. 20", and a line feed
unfoldable pub row_of : Bytes → Bytes → Bytes → Bytes
row_of first second third =
    right_aligned 2 first ++ (space ∷ (right_aligned 20 second ++ (space ∷ (right_aligned 20 third ++ (line_feed ∷ [])))))

-- "A valve still open at the end has 20 hyphens in the last column"
unfoldable pub hyphens : Bytes
hyphens = replicate 20 (code "-")

-- "milliseconds open"
unfoldable pub open_for : ℕ → Option ℕ → Bytes
open_for opened none = hyphens
open_for opened (some closed) = figure (closed - opened)

-- the row of an opening
unfoldable pub row : Opening → Bytes
row x = row_of (figure x.output) (figure x.opened) (open_for x.opened x.closed)

-- numbers that have room in their columns: every opening of lists that pass the questions has such (page `openings_fit`)
pub record Fits (x : Opening) : Type 0 where
  pub low : x.output < 16
  pub soon : x.opened < 18446744073709551616
  pub ends : (c : ℕ) → x.closed ≡ some c → c < 18446744073709551616

-- "the first being `NR`, `OPENED` and `OPEN FOR` aligned alike"
unfoldable pub heading : Bytes
heading = row_of (bytes_of "NR") (bytes_of "OPENED") (bytes_of "OPEN FOR")

-- a row of spaces: "44 characters and a line feed"
unfoldable pub blank_row : Bytes
blank_row = replicate 44 space ++ (line_feed ∷ [])

-- rows one behind another
unfoldable pub joined : List Bytes → Bytes
joined [] = []
joined (r ∷ rows) = r ++ joined rows
