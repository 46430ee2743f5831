-- What is gathered from a field's pieces, and the fields that are read so: expressions and rows of figures.
use Rattle.std.specs.Prelude as P
use Rattle.std.specs.Prelude.{Some, None, Bool, true, false, cond, ◌&&◌, List, [], ◌∷◌, ℕ, ◌+◌, eqb, ltb, length, get_or, drop}
use Rattle.std.proofs.Math.Option.{Option, none, some}
use Rattle.listing.specs.Lists.{all}
use Rattle.listing.specs.Bytes.{Bytes, tab}
use Rattle.listing.specs.Expressions.{read_expression}
use Rattle.listing.specs.Form.{next_field_lem}
use Rattle.listing.specs.Questions.{piece_is_there}
use Rattle.listing.specs.Listing as L
use Rattle.text_place.specs.Texts.{field_end, field_pieces, fields_left}
use Rattle.text_place.specs.Places.{passed}
use Rattle.listing_effect.specs.Held.{held_after}
use Rattle.text_piece.specs.Pieces.{piece_answer, effect_in}
use Rattle.text_place.specs.declared.place.Place.{Place}
use Rattle.text_piece.specs.declared.piece.Piece.{Piece}
use Rattle.text_piece.specs.declared.piece.Piece.TheVariants as PV
use Rattle.text_fields.specs.declared.gathering.Gathering.{Gathering}
use Rattle.text_fields.specs.declared.field.Read.{Read}
use Rattle.text_fields.specs.declared.field.Expression.{Expression}

-- whether a piece's name is one of so many
abbrev pub is_there_by : ℕ → Piece → Bool
is_there_by names (PV.Literal v) = true
is_there_by names (PV.Value v) = ltb v names
is_there_by names (PV.Mark v) = ltb v names
is_there_by names PV.Plus = true
is_there_by names PV.Minus = true
is_there_by names PV.Times = true
is_there_by names PV.Less = true
is_there_by names PV.Divide = true
is_there_by names PV.Remainder = true
is_there_by names PV.Bad = true

abbrev pub is_value : Piece → Bool
is_value (PV.Literal v) = false
is_value (PV.Value v) = true
is_value (PV.Mark v) = false
is_value PV.Plus = false
is_value PV.Minus = false
is_value PV.Times = false
is_value PV.Less = false
is_value PV.Divide = false
is_value PV.Remainder = false
is_value PV.Bad = false

abbrev pub value_in : Piece → ℕ
value_in (PV.Literal v) = 0
value_in (PV.Value v) = v
value_in (PV.Mark v) = 0
value_in PV.Plus = 0
value_in PV.Minus = 0
value_in PV.Times = 0
value_in PV.Less = 0
value_in PV.Divide = 0
value_in PV.Remainder = 0
value_in PV.Bad = 0

-- nothing gathered yet
abbrev pub nothing : Gathering
nothing = record { count = 0; held = 0; figures = true; first = 0; others = true; there = true }

-- one piece more
abbrev pub gather_one : ℕ → Gathering → Piece → Gathering
gather_one names g p =
    record {
      count = g.count + 1;
      held = held_after g.held (effect_in p);
      figures = g.figures && is_value p;
      first = cond (eqb g.count 0) (value_in p) g.first;
      others = cond (eqb g.count 0) g.others (g.others && is_there_by names p);
      there = g.there && is_there_by names p;
    }

unfoldable pub gather_all : ℕ → Gathering → List Bytes → Gathering
gather_all names g [] = g
gather_all names g (piece ∷ pieces) = gather_all names (gather_one names g (piece_answer piece)) pieces

-- the pieces of the field at a place
abbrev pub pieces_answer : ℕ → Bytes → Place → ℕ → P.Option (Read Gathering)
pieces_answer names s p stop =
    let end = field_end s p.offset in
    cond (eqb stop tab) (Some (record { value = gather_all names nothing (field_pieces s p.offset); stop = get_or s end 0; next = passed s p.line end })) None

-- ── expressions ──────────────────────────────────────────────────────────────────
abbrev pub as_expression : ℕ → Option L.Expression → ℕ → Place → P.Option (Read Expression)
as_expression names none stop next = None
as_expression names (some e) stop next = Some (record { value = record { pieces = length e; there = all (piece_is_there names) e }; stop = stop; next = next })

abbrev pub expression_answer : ℕ → Bytes → Place → ℕ → P.Option (Read Expression)
expression_answer names s p stop =
    let end = field_end s p.offset in
    as_expression names (next_field_lem read_expression (fields_left stop (drop p.offset s)) (λ e fields. some e)) (get_or s end 0) (passed s p.line end)

-- ── rows of figures ──────────────────────────────────────────────────────────────
-- a field's pieces, if each is a figure
abbrev pub figures_by : P.Option (Read Gathering) → P.Option (Read Gathering)
figures_by None = None
figures_by (Some f) = cond f.value.figures (Some f) None

abbrev pub figures_answer : ℕ → Bytes → Place → ℕ → P.Option (Read Gathering)
figures_answer names s p stop = figures_by (pieces_answer names s p stop)
