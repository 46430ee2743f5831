-- The piece, the field and the line that a text begins with, and places in it.
use Rattle.std.specs.Prelude.{Bool, cond, ◌||◌, List, [], ◌∷◌, ℕ, ◌+◌, ◌≤◌, eqb, length, drop}
use Rattle.listing.specs.Bytes.{Bytes, tab, line_feed, space, split}
use Rattle.listing.specs.Form.{Field, fields_of}

-- the bytes before the first that passes a test
unfoldable pub before : (ℕ → Bool) → Bytes → Bytes
before test [] = []
before test (byte ∷ text) = let rest = before test text in cond (test byte) [] (byte ∷ rest)

abbrev pub ends_piece : ℕ → Bool
ends_piece byte = eqb byte tab || eqb byte line_feed || eqb byte space

abbrev pub ends_field : ℕ → Bool
ends_field byte = eqb byte tab || eqb byte line_feed

abbrev pub ends_line : ℕ → Bool
ends_line byte = eqb byte line_feed

abbrev pub first_piece_lem : Bytes → Bytes
first_piece_lem = before ends_piece

abbrev pub first_field : Bytes → Bytes
first_field = before ends_field

abbrev pub first_line : Bytes → Bytes
first_line = before ends_line

-- the fields that are left in a line after the byte `stop`: none unless that is a tab
unfoldable pub fields_left : ℕ → Bytes → List Field
fields_left stop text = cond (eqb stop tab) (fields_of (first_line text)) []

-- where the piece, the field and the line at an offset end, and the pieces of that field
abbrev pub piece_end : Bytes → ℕ → ℕ
piece_end s at = at + length (first_piece_lem (drop at s))

abbrev pub field_end : Bytes → ℕ → ℕ
field_end s at = at + length (first_field (drop at s))

abbrev pub line_end : Bytes → ℕ → ℕ
line_end s at = at + length (first_line (drop at s))

abbrev pub field_pieces : Bytes → ℕ → Field
field_pieces s at = split space (first_field (drop at s))

-- an offset within the text, and a line number that no offset outgrows
pub record Within (s : Bytes) (at line : ℕ) : Type 0 where
  pub inside : at ≤ length s
  pub counted : line ≤ at + 1
