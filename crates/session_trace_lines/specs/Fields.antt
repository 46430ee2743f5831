-- What the reader gives for a field of one piece.
use Rattle.std.specs.Prelude.{cond, ℕ, eqb, get_or, drop, Some, None}
use Rattle.std.specs.Prelude.{Option as Answer}
use Rattle.std.proofs.Math.Option.{Option, none, some}
use Rattle.listing.specs.Bytes.{Bytes, tab, space}
use Rattle.listing.specs.Form.{next_field_lem, one_piece_lem}
use Rattle.text_place.specs.Texts.{fields_left, piece_end, field_end}
use Rattle.text_place.specs.Places.{passed, taken_at}
use Rattle.text_place.specs.declared.place.Place.{Place}
use Rattle.text_place.specs.declared.place.Taken.{Taken}
use Rattle.session_trace_lines.specs.declared.field.Figure.{Figure}

-- the piece at a place past the byte `stop`: a whole field, if that byte is a tab and no space closes the piece
abbrev pub piece_answer : Bytes → Place → ℕ → Answer Taken
piece_answer s p stop = cond (eqb stop tab) (cond (eqb (get_or s (piece_end s p.offset) 0) space) None (Some (taken_at s p))) None

abbrev pub as_figure : Option ℕ → ℕ → Place → Answer Figure
as_figure none stop next = None
as_figure (some n) stop next = Some (record { number = n; stop = stop; next = next })

-- the next field, read as a number
abbrev pub figure_answer : (Bytes → Option ℕ) → Bytes → Place → ℕ → Answer Figure
figure_answer read s p stop =
    let end = field_end s p.offset in
    as_figure (next_field_lem (one_piece_lem read) (fields_left stop (drop p.offset s)) (λ n fields. some n)) (get_or s end 0) (passed s p.line end)
