-- The lines of a text from one of them on: what question 2 says of them, and their records.
use Rattle.std.specs.Prelude.{◌≡◌, Bool, not, ◌&&◌, ◌||◌, List, [], ◌∷◌, ◌++◌, map, ℕ, ◌≤◌, ltb, drop}
use Rattle.listing.specs.Lists.{is_empty, is_some, present, first_no_from}
use Rattle.listing.specs.Bytes.{Bytes}
use Rattle.listing.specs.Questions.{closed_lines, unclosed, read_lines}
use Rattle.listing.specs.Listing as L
use Rattle.text_place.specs.Texts.{Within}

-- there is a line at or before this one, and none without its line feed
unfoldable pub closed_from : ℕ → Bytes → Bool
closed_from k text = (ltb 1 k || not (is_empty (closed_lines text))) && is_empty (unclosed text)

-- the place of question 2 for the lines from k on
unfoldable pub place_from : ℕ → Bytes → ℕ
place_from k text = first_no_from k (map is_some (read_lines k (closed_lines text)) ++ (closed_from k text ∷ []))

-- the records from line k on
unfoldable pub records_from : ℕ → Bytes → List L.Line
records_from k text = present (read_lines k (closed_lines text))

-- the lines from offset `at` on, the first of number k, have their form
pub record Formed (s : List ℕ) (at k : ℕ) : Type 0 where
  pub within : Within s at k
  pub some_line : 1 ≤ k
  pub place : place_from k (drop at s) ≡ 0
