-- A line by its letter.
use Rattle.std.specs.Prelude.{None}
use mathlib.Core.Path.{◌≡◌, refl, sym, ap, ◌∙◌}
use mathlib.Core.List.{List, [], ◌∷◌}
use mathlib.Core.Option.{none}
use Prim.Native.Nat.{ℕ, suc, ◌+◌, ◌≤◌, ◌<◌}
use native.Mathlib.Omega.{arith}
use lib.ListN.{length, get_or, drop}
use lib.Seq.{slice, slice-cons, slice_empty}
use Rattle.listing.specs.Bytes.{Bytes}
use Rattle.listing.specs.Form.{next_field_lem, one_piece_lem, read_letter, read_by_letter, read_record}
use Rattle.listing.specs.Expressions.{alone}
use Rattle.listing.specs.Listing as L
use Rattle.listing.proofs.Splits.{split_has_part}
use Rattle.text_place.specs.Texts.{first_piece_lem, first_field, ends_piece, fields_left, piece_end, field_pieces, Within}
use Rattle.text_place.specs.Places.{passed}
use Rattle.text_place.specs.declared.place.Place.{Place}
use Rattle.text_place.proofs.Places.{left_open, pieces_turn, pieces_last, field_last, before_slice, end_in}
use Rattle.text_jumps.specs.Records.{end_stop, end_next, as_rest, rest_answer}
use Rattle.text_records.specs.Lines.{line_answer}
use Rattle.text_jumps.specs.declared.scope.Scope.{Scope}
use Rattle.text_jumps.proofs.Chain.{Got, got_of}

letter_none : (w : Bytes) → (length w ≡ 1 → ⊥) → read_letter w ≡ none
unfolding read_letter alone
letter_none [] n = refl
letter_none (b ∷ []) n = absurd (n refl)
letter_none (b ∷ (d ∷ w)) n = refl

module _ (rs : List L.Routine) (scope : Scope) (s : List ℕ) (c : Place) where
  line_said : line_answer rs scope s c ≡ as_rest rs scope (read_record (fields_left 9 (drop c.offset s))) (end_stop s c 9) (end_next s c 9)
  unfolding fields_left end_stop end_next
  line_said = refl

  pub line_space : get_or s (piece_end s c.offset) 0 ≡ 32 → None ≡ line_answer rs scope s c
  unfolding read_record next_field_lem one_piece_lem
  line_space e =
      let p = split_has_part 32 (first_field (drop (piece_end s c.offset + 1) s)) in
      sym (line_said ∙ rw (left_open s c.offset, pieces_turn s c.offset e, p.is))

  pub line_short : (get_or s (piece_end s c.offset) 0 ≡ 32 → ⊥) → (c.offset + 1 ≡ piece_end s c.offset → ⊥) → None ≡ line_answer rs scope s c
  unfolding read_record next_field_lem one_piece_lem
  line_short n m =
      sym (line_said ∙ rw (left_open s c.offset, pieces_last s c.offset n, letter_none (first_piece_lem (drop c.offset s)) (λ (e : length (first_piece_lem (drop c.offset s)) ≡ 1). m (omega arith))))

  module _ (w : Within s c.offset c.line) (n : get_or s (piece_end s c.offset) 0 ≡ 32 → ⊥) (m : c.offset + 1 ≡ piece_end s c.offset) where
    lone : field_pieces s c.offset ≡ (get_or s c.offset 0 ∷ []) ∷ []
    lone =
        let inside : piece_end s c.offset ≤ length s = end_in ends_piece s c.offset w.inside in
        let h : c.offset < piece_end s c.offset = omega arith in
        let e : suc c.offset ≡ piece_end s c.offset = omega arith in
        let sl : first_piece_lem (drop c.offset s) ≡ get_or s c.offset 0 ∷ [] =
        sym (before_slice ends_piece s c.offset w.inside) ∙ slice-cons c.offset (piece_end s c.offset) s 0 h inside
        ∙ ap (λ (x : ℕ). get_or s c.offset 0 ∷ slice x (piece_end s c.offset) s) e ∙ ap (λ (l : List ℕ). get_or s c.offset 0 ∷ l) (slice_empty (piece_end s c.offset) s) in
        pieces_last s c.offset n ∙ rw sl

    abbrev stop_here : ℕ
    stop_here = get_or s (piece_end s c.offset) 0

    abbrev next_here : Place
    next_here = passed s c.line (piece_end s c.offset)

    letter_got : Got (one_piece_lem read_letter) s c 9 (get_or s c.offset 0) stop_here next_here
    unfolding next_field_lem one_piece_lem read_letter alone
    letter_got =
        got_of (one_piece_lem read_letter) s c 9 (get_or s c.offset 0) _ _ w (rw (left_open s c.offset, lone))
        (ap (λ (e : ℕ). get_or s e 0) (sym (field_last s c.offset n))) (ap (passed s c.line) (sym (field_last s c.offset n)))

    by_letter_lem : read_record (fields_left 9 (drop c.offset s)) ≡ read_by_letter (get_or s c.offset 0) (fields_left stop_here (drop next_here.offset s))
    unfolding read_record
    by_letter_lem = letter_got.on read_by_letter

    rest_said : rest_answer rs scope s next_here stop_here (read_by_letter (get_or s c.offset 0)) ≡ as_rest rs scope (read_record (fields_left 9 (drop c.offset s))) (end_stop s c 9) (end_next s c 9)
    rest_said = rw (by_letter_lem, letter_got.stops, letter_got.nexts)

    pub line_is_lem : rest_answer rs scope s next_here stop_here (read_by_letter (get_or s c.offset 0)) ≡ line_answer rs scope s c
    line_is_lem = rest_said ∙ sym line_said
