-- The place moved past a piece, one of its fields at a time; both together are `passed` at the piece's end.
use Rattle.std.specs.Prelude.{cond, ◌&&◌, ℕ, ◌+◌, ◌-◌, eqb, ltb, length, get_or}
use Rattle.listing.specs.Bytes.{Bytes, line_feed}
use Rattle.text_place.specs.Texts.{piece_end, ends_piece}
use Rattle.text_place.specs.declared.place.Place.{Place}

-- past the piece at `at`, and past the byte that closes it, if there is one
abbrev pub offset_past : Bytes → ℕ → ℕ
offset_past s at = let end = piece_end s at in cond (ltb end (length s)) (end + 1) end

-- the byte that closes what lies from one offset up to another, 0 if none does
abbrev pub closing_byte : Bytes → ℕ → ℕ → ℕ
closing_byte s from past = let byte = get_or s (past - 1) 0 in cond (ltb from past && ends_piece byte) byte 0

-- "moved past each piece"
abbrev pub moved_past : Bytes → Place → Place
moved_past s p = record { offset = offset_past s p.offset; line = p.line }

-- "counting lines"
abbrev pub line_past : Bytes → ℕ → ℕ → ℕ → ℕ
line_past s from past line = cond (eqb (closing_byte s from past) line_feed) (line + 1) line

abbrev pub counted_past : Bytes → ℕ → Place → Place
counted_past s from p = record { offset = p.offset; line = line_past s from p.offset p.line }
