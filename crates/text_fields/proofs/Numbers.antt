-- A field of one figure.
use mathlib.Core.Path.{◌≡◌, refl, ◌∙◌}
use mathlib.Core.List.{List}
use mathlib.Core.Option.{Option, none, some}
use Prim.Native.Nat.{ℕ, ◌+◌}
use lib.ListN.{get_or, drop}
use borrow.Author.Tests.{ne_eqb}
use Rattle.listing.specs.Bytes.{read_figure}
use Rattle.listing.specs.Expressions.{bind}
use Rattle.listing.specs.Form.{next_field_lem, one_piece_lem, read_number}
use Rattle.listing.proofs.Splits.{split_has_part}
use Rattle.text_place.specs.Texts.{first_piece_lem, first_field, fields_left, piece_end, field_end, field_pieces}
use Rattle.text_place.specs.Places.{passed}
use Rattle.text_piece.specs.Pieces.{as_figure, figure_answer}
use Rattle.text_fields.specs.Fields.{numbering, as_number, number_answer}
use Rattle.text_place.specs.declared.place.Place.{Place}
use Rattle.text_fields.specs.declared.field.Number.TheVariants as NV
use Rattle.text_place.proofs.Places.{left_open, pieces_turn, pieces_last, field_last}

pub number_shut : (s : List ℕ) (c : Place) (b : ℕ) → (b ≡ 9 → ⊥) → number_answer s c b ≡ NV.Bad
unfolding fields_left next_field_lem
number_shut s c b n = rw (ne_eqb b 9 n)

numbering_of : (o : Option ℕ) (b : ℕ) (p : Place) → as_number (bind o (λ n. some n)) b p ≡ numbering (as_figure o) b p
numbering_of none b p = refl
numbering_of (some n) b p = refl

pub number_open : (s : List ℕ) (c : Place) (b : ℕ) → b ≡ 9 → number_answer s c b ≡ as_number (bind (read_number (field_pieces s c.offset)) (λ n. some n)) (get_or s (field_end s c.offset) 0) (passed s c.line (field_end s c.offset))
unfolding next_field_lem
number_open s c b e = rw (e, left_open s c.offset)

pub number_space : (s : List ℕ) (c : Place) (b : ℕ) → b ≡ 9 → get_or s (piece_end s c.offset) 0 ≡ 32 → number_answer s c b ≡ NV.Bad
unfolding one_piece_lem
number_space s c b e g =
    let p = split_has_part 32 (first_field (drop (piece_end s c.offset + 1) s)) in
    number_open s c b e ∙ rw (pieces_turn s c.offset g, p.is)

pub number_piece : (s : List ℕ) (c : Place) (b : ℕ) → b ≡ 9 → (get_or s (piece_end s c.offset) 0 ≡ 32 → ⊥)
    → number_answer s c b ≡ numbering (figure_answer (first_piece_lem (drop c.offset s))) (get_or s (piece_end s c.offset) 0) (passed s c.line (piece_end s c.offset))
unfolding one_piece_lem
number_piece s c b e n =
    number_open s c b e ∙ rw (pieces_last s c.offset n, ← field_last s c.offset n) (numbering_of (read_figure (first_piece_lem (drop c.offset s))) _ _)
