-- The words of a field's cells, piece by piece.
use Rattle.std.specs.Prelude.{◌≡◌, cond, List, [], ◌∷◌, ℕ, ◌+◌, ◌≤◌, ltb, length, get_or}
use Rattle.std.proofs.lemmas.List.Edits.{sets}
use Rattle.listing.specs.Bytes.{Bytes}
use Rattle.listing.specs.Expressions.{word_range}
use Rattle.text_place.specs.Texts.{field_end, field_pieces, Within}
use Rattle.text_place.specs.Places.{passed}
use Rattle.text_piece.specs.Pieces.{piece_answer}
use Rattle.text_place.specs.declared.place.Place.{Place}
use Rattle.text_piece.specs.declared.piece.Piece.{Piece}
use Rattle.text_piece.specs.declared.piece.Piece.TheVariants as PV
use Rattle.text_fields.specs.declared.field.Read.{Read}

abbrev pub low_word : ℕ → ℕ
low_word n = cond (ltb n word_range) n 0

abbrev pub cell_kind : Piece → ℕ → ℕ
cell_kind (PV.Literal v) plain = 0
cell_kind (PV.Value n) plain = plain
cell_kind (PV.Mark n) plain = 2
cell_kind PV.Plus plain = 3
cell_kind PV.Minus plain = 4
cell_kind PV.Times plain = 5
cell_kind PV.Less plain = 6
cell_kind PV.Divide plain = 7
cell_kind PV.Remainder plain = 8
cell_kind PV.Bad plain = 0

abbrev pub cell_value : Piece → ℕ
cell_value (PV.Literal v) = v
cell_value (PV.Value n) = low_word n
cell_value (PV.Mark n) = low_word n
cell_value PV.Plus = 0
cell_value PV.Minus = 0
cell_value PV.Times = 0
cell_value PV.Less = 0
cell_value PV.Divide = 0
cell_value PV.Remainder = 0
cell_value PV.Bad = 0

-- the cells of a field's pieces; a plain figure is a cell of kind `plain`
unfoldable pub cells_of : ℕ → List Bytes → List ℕ
cells_of plain [] = []
cells_of plain (piece ∷ pieces) = cell_kind (piece_answer piece) plain ∷ (cell_value (piece_answer piece) ∷ cells_of plain pieces)

abbrev pub cells_answer : Bytes → Place → Read ℕ
cells_answer s p =
    let end = field_end s p.offset in
    record { value = length (field_pieces s p.offset); stop = get_or s end 0; next = passed s p.line end }

-- the cells of the field at a place, written from address a on
pub record WritesCells (s : Bytes) (p : Place) (a plain : ℕ) (before after : List ℕ) (r : Read ℕ) : Type 0 where
  pub answer : r ≡ cells_answer s p
  pub written : after ≡ sets before a (cells_of plain (field_pieces s p.offset))
  pub some_cell : 1 ≤ r.value
  pub few : r.value ≤ length s + 1
  pub within : Within s r.next.offset r.next.line
