-- The place past a piece, and what taking a piece gives.
use Rattle.std.specs.Prelude.{cond, ℕ, ◌+◌, eqb, ltb, length, get_or}
use Rattle.listing.specs.Bytes.{Bytes, line_feed}
use Rattle.text_place.specs.Texts.{piece_end}
use Rattle.text_place.specs.declared.place.Place.{Place}
use Rattle.text_place.specs.declared.place.Taken.{Taken}

-- the place past the byte at `end`, if there is one
abbrev pub passed : Bytes → ℕ → ℕ → Place
passed s line end = record { offset = cond (ltb end (length s)) (end + 1) end; line = cond (eqb (get_or s end 0) line_feed) (line + 1) line }

abbrev pub taken_at : Bytes → Place → Taken
taken_at s p =
    let end = piece_end s p.offset in
    record { from = p.offset; to = end; stop = get_or s end 0; next = passed s p.line end }
