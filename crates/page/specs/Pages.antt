-- The pages of the valve book.
-- Document 02, Change 1: "Each page is 60 rows, the first being `NR`, `OPENED` and `OPEN FOR` aligned alike, and the last is filled with rows of
-- spaces; no openings give one page."
use Rattle.std.specs.Prelude.{Bool, cond, ◌&&◌, List, ◌∷◌, ◌++◌, map, ℕ, ◌+◌, ◌-◌, ◌*◌, ◌/◌, leb, eqb, length, take, drop, replicate}
use Rattle.listing.specs.Bytes.{Bytes}
use Rattle.openings.specs.Openings.{Opening}
use Rattle.page_rows.specs.Rows.{row, heading, blank_row, joined}

-- "Each page is 60 rows"
abbrev pub rows_on_page : ℕ
rows_on_page = 60

-- of which the first is the heading
abbrev pub openings_on_page : ℕ
openings_on_page = 59

-- as many pages as hold all openings; "no openings give one page"
unfoldable pub page_count : ℕ → ℕ
page_count openings = cond (eqb openings 0) 1 ((openings + 58) / openings_on_page)

-- pages are "counted from 1"
abbrev pub is_page : ℕ → ℕ → Bool
is_page page openings = leb 1 page && leb page (page_count openings)

-- the openings on a page: the first 59 on page 1, the next 59 on page 2, ..
abbrev pub openings_on : ℕ → List Opening → List Opening
openings_on page openings = take openings_on_page (drop (openings_on_page * (page - 1)) openings)

-- "filled with rows of spaces": so many rows in all
unfoldable pub filled_to : ℕ → List Bytes → List Bytes
filled_to count rows = rows ++ replicate (count - length rows) blank_row

-- the rows of a page; "(no such page: rows of spaces)"
unfoldable pub page_rows : ℕ → List Opening → List Bytes
page_rows page openings =
    cond (is_page page (length openings)) (heading ∷ filled_to openings_on_page (map row (openings_on page openings))) (replicate rows_on_page blank_row)

abbrev pub page_bytes : ℕ → List Opening → Bytes
page_bytes page openings = joined (page_rows page openings)
