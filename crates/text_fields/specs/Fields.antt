-- What the reader gives for a number's field and a field of kinds.
use Rattle.std.specs.Prelude as P
use Rattle.std.specs.Prelude.{Some, None, Bool, ◌||◌, List, ℕ, min, eqb, length, get_or, drop}
use Rattle.std.proofs.Math.Option.{Option, none, some}
use Prim.Native.Char.{code}
use Rattle.listing.specs.Lists.{all}
use Rattle.listing.specs.Bytes.{Bytes}
use Rattle.listing.specs.Form.{next_field_lem, one_piece_lem, read_number, read_kinds}
use Rattle.listing.specs.Questions.{is_by_reference}
use Rattle.listing.specs.Listing as L
use Rattle.text_place.specs.Texts.{field_end, fields_left}
use Rattle.text_place.specs.declared.place.Place.{Place}
use Rattle.text_piece.specs.declared.figure.Figure.{Figure}
use Rattle.text_piece.specs.declared.figure.Figure.TheVariants as FV
use Rattle.text_fields.specs.declared.field.Number.{Number}
use Rattle.text_fields.specs.declared.field.Number.TheVariants as NV
use Rattle.text_fields.specs.declared.kinds.Kinds.{Kinds}
use Rattle.text_fields.specs.declared.field.Read.{Read}
use Rattle.text_place.specs.Places.{passed}
use Rattle.text_piece.specs.Pieces.{cap}

-- ── a field of one figure ────────────────────────────────────────────────────────
abbrev pub as_number : Option ℕ → ℕ → Place → Number
as_number none stop next = NV.Bad
as_number (some n) stop next = NV.Read (min n cap) stop next

abbrev pub number_answer : Bytes → Place → ℕ → Number
number_answer s p stop =
    let end = field_end s p.offset in
    as_number (next_field_lem read_number (fields_left stop (drop p.offset s)) (λ n fields. some n)) (get_or s end 0) (passed s p.line end)

abbrev pub numbering : Figure → ℕ → Place → Number
numbering FV.Bad stop next = NV.Bad
numbering (FV.Value v) stop next = NV.Read v stop next

-- ── a field of kinds ─────────────────────────────────────────────────────────────
abbrev pub is_kind : ℕ → Bool
is_kind byte = eqb byte (code "r") || eqb byte (code "v")

abbrev pub is_reference : ℕ → Bool
is_reference byte = eqb byte (code "r")

abbrev pub as_kinds : Option (List L.Kind) → P.Option Kinds
as_kinds none = None
as_kinds (some kinds) = Some (record { count = length kinds; by_reference = all is_by_reference kinds })

abbrev pub kinds_answer : Bytes → P.Option Kinds
kinds_answer piece = as_kinds (read_kinds piece)

abbrev pub as_kinds_field : Option (List L.Kind) → ℕ → Place → P.Option (Read Kinds)
as_kinds_field none stop next = None
as_kinds_field (some kinds) stop next = Some (record { value = record { count = length kinds; by_reference = all is_by_reference kinds }; stop = stop; next = next })

abbrev pub kinds_field_answer : Bytes → Place → ℕ → P.Option (Read Kinds)
kinds_field_answer s p stop =
    let end = field_end s p.offset in
    as_kinds_field (next_field_lem (one_piece_lem read_kinds) (fields_left stop (drop p.offset s)) (λ kinds fields. some kinds)) (get_or s end 0) (passed s p.line end)

abbrev pub kinding : P.Option Kinds → ℕ → Place → P.Option (Read Kinds)
kinding None stop next = None
kinding (Some kinds) stop next = Some (record { value = kinds; stop = stop; next = next })
