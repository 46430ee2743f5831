-- A line by its letter and the fields after it.
use mathlib.Core.Path.{◌≡◌, refl, sym, ◌∙◌}
use mathlib.Core.Bool.{Bool, true, false, cond, ◌&&◌}
use mathlib.Core.List.{List, [], ◌∷◌}
use mathlib.Core.Option.{Option, none, some}
use Prim.Native.Nat.{ℕ, suc, ◌-◌, ◌<◌}
use native.Mathlib.Omega.{arith}
use Rattle.std.specs.Prelude.{None}
use lib.Dec.{eqb, ltb, leb}
use lib.ListN.{length, get_or, drop}
use lib.Seq.{slice, slice-cons, slice_empty, length-slice}
use borrow.Author.Tests.{ltb-true, leb-true, ne_eqb}
use Rattle.listing.proofs.Tests.{and_left}
use Rattle.listing.specs.Bytes.{Bytes, read_figure}
use Rattle.listing.specs.Expressions.{bind, when, alone}
use Rattle.listing.specs.Form.{Field, next_field_lem, none_left_lem, one_piece_lem, read_letter}
use Rattle.walk.specs.Trace as W
use Rattle.text_place.specs.Texts.{fields_left}
use Rattle.text_place.specs.declared.place.Place.{Place}
use Rattle.text_place.specs.declared.place.Taken.{Taken}
use Rattle.text_place.proofs.Places.{left_open}
use Rattle.text_jumps.specs.Records.{end_stop, end_next}
use Rattle.session_trace_lines.specs.Fields.{piece_answer}
use Rattle.session_trace_lines.specs.Lines.{as_trace_line, rest_answer, line_answer}
use Rattle.session_trace_lines.specs.declared.line.TraceLine.TheVariants as LV
use Rattle.session_trace_lines.proofs.Fields.{Piece, piece_none, piece_on}

-- ── a number that was read has its bits ──────────────────────────────────────────
clash : {A : Type 0} {n : ℕ} → ◌≡◌ {A = Option ℕ} none (some n) → A
clash e = absurd (let z : ◌≡◌ {A = ℕ} 0 1 = cc in omega arith)

when_in : (t : Bool) (m n : ℕ) → when t m ≡ some n → (t ≡ true) × (m ≡ n)
when_in true m n e = (refl, cc)
when_in false m n e = clash e

lone : (read : Bytes → Option ℕ) (P : ℕ → Type 0) → ((w : Bytes) (n : ℕ) → read w ≡ some n → P n) → (pieces : Field) (n : ℕ) → one_piece_lem read pieces ≡ some n → P n
unfolding one_piece_lem
lone read P h [] n e = clash e
lone read P h (w ∷ []) n e = h w n e
lone read P h (w ∷ (x ∷ pieces)) n e = clash e

below_bits : (range : ℕ) (w : Bytes) (n : ℕ) → W.read_below range w ≡ some n → n < range
unfolding W.read_below
below_bits range w n e = go (read_figure w) e
  where
    go : (o : Option ℕ) → bind o (λ m. when (ltb m range) m) ≡ some n → n < range
    go none e = clash e
    go (some m) e = let t = when_in (ltb m range) m n e in omega (arith, ltb-true m range t.0, t.1)

signed_bits : (w : Bytes) (n : ℕ) → W.read_signed w ≡ some n → n < 4294967296
unfolding W.read_signed
signed_bits [] n e = clash e
signed_bits (b ∷ w) n e = go (eqb b 45) e
  where
    minus : (o : Option ℕ) → bind o (λ m. when (leb 1 m && leb m 2147483648) (4294967296 - m)) ≡ some n → n < 4294967296
    minus none e = clash e
    minus (some m) e =
        let t = when_in (leb 1 m && leb m 2147483648) (4294967296 - m) n e in
        omega (arith, leb-true 1 m (and_left (leb 1 m) (leb m 2147483648) t.0), t.1)

    go : (t : Bool) → cond t (bind (read_figure w) (λ m. when (leb 1 m && leb m 2147483648) (4294967296 - m))) (W.read_below 2147483648 (b ∷ w)) ≡ some n → n < 4294967296
    go true e = minus (read_figure w) e
    go false e = omega (arith, below_bits 2147483648 (b ∷ w) n e)

pub input_bits : (pieces : Field) (n : ℕ) → one_piece_lem (W.read_below 4294967296) pieces ≡ some n → n < 4294967296
input_bits = lone (W.read_below 4294967296) (λ (n : ℕ). n < 4294967296) (below_bits 4294967296)

pub value_bits : (pieces : Field) (n : ℕ) → one_piece_lem W.read_signed pieces ≡ some n → n < 4294967296
value_bits = lone W.read_signed (λ (n : ℕ). n < 4294967296) signed_bits

-- ── the fields after the letter ──────────────────────────────────────────────────
-- no field is left unless the last byte was a tab
pub end_shut : (b : ℕ) (l : List ℕ) (x : W.TraceLine) → (b ≡ 9 → ⊥) → none_left_lem (fields_left b l) x ≡ some x
unfolding fields_left none_left_lem
end_shut b l x n = rw (ne_eqb b 9 n)

pub end_open : (s : List ℕ) (at b : ℕ) (x : W.TraceLine) → b ≡ 9 → none_left_lem (fields_left b (drop at s)) x ≡ none
unfolding none_left_lem
end_open s at b x e = rw (e, left_open s at)

module _ (s : List ℕ) (c : Place) (b : ℕ) (read : List Field → Option W.TraceLine) where
  pub rest_is_lem : (x : W.TraceLine) (b' : ℕ) (c' : Place) → read (fields_left b (drop c.offset s)) ≡ some x → end_stop s c b ≡ b' → end_next s c b ≡ c'
      → as_trace_line x b' c' ≡ rest_answer s c b read
  rest_is_lem x b' c' e f g = rw (e, f, g)

  pub rest_bad : read (fields_left b (drop c.offset s)) ≡ none → LV.Bad ≡ rest_answer s c b read
  rest_bad e = rw e

-- ── the letter ───────────────────────────────────────────────────────────────────
letter_none : (w : Bytes) → (length w ≡ 1 → ⊥) → read_letter w ≡ none
unfolding read_letter alone
letter_none [] n = refl
letter_none (b ∷ []) n = absurd (n refl)
letter_none (b ∷ (d ∷ w)) n = refl

abbrev by_letter : List Field → Option W.TraceLine
by_letter fields = next_field_lem (one_piece_lem read_letter) fields W.read_trace_fields

module _ (s : List ℕ) (c : Place) where
  line_said : line_answer s c ≡ rest_answer s c 9 by_letter
  unfolding fields_left end_stop end_next W.read_trace_line
  line_said = refl

  pub line_none : None ≡ piece_answer s c 9 → LV.Bad ≡ line_answer s c
  line_none e = rest_bad s c 9 by_letter (piece_none s c 9 e read_letter W.read_trace_fields) ∙ sym line_said

  module _ (t : Taken) (p : Piece s c 9 t) where
    pub line_long : (t.to - t.from ≡ 1 → ⊥) → LV.Bad ≡ line_answer s c
    line_long n =
        let l : length (slice t.from t.to s) ≡ t.to - t.from = length-slice t.from t.to s p.inside in
        let none_is : read_letter (slice t.from t.to s) ≡ none = letter_none (slice t.from t.to s) (λ (e : length (slice t.from t.to s) ≡ 1). n (sym l ∙ e)) in
        rest_bad s c 9 by_letter (piece_on s c 9 p read_letter W.read_trace_fields ∙ rw none_is) ∙ sym line_said

    letter_is : t.to - t.from ≡ 1 → read_letter (slice t.from t.to s) ≡ some (get_or s t.from 0)
    unfolding read_letter alone
    letter_is e =
        let h : t.from < t.to = omega arith in
        let one : suc t.from ≡ t.to = omega arith in
        rw (slice-cons t.from t.to s 0 h p.inside, one, slice_empty)

    line_by : t.to - t.from ≡ 1 → rest_answer s t.next t.stop (W.read_trace_fields (get_or s t.from 0)) ≡ line_answer s c
    line_by e =
        let on : by_letter (fields_left 9 (drop c.offset s)) ≡ W.read_trace_fields (get_or s t.from 0) (fields_left t.stop (drop t.next.offset s)) =
        piece_on s c 9 p read_letter W.read_trace_fields ∙ rw (letter_is e) in
        sym (line_said ∙ rw (on, ← p.past.stops, ← p.past.nexts))

    pub line_input : t.to - t.from ≡ 1 → get_or s t.from 0 ≡ 73 → rest_answer s t.next t.stop W.read_input_line ≡ line_answer s c
    unfolding W.read_trace_fields
    line_input e l = rw l at (line_by e)

    pub line_last : t.to - t.from ≡ 1 → get_or s t.from 0 ≡ 81 → rest_answer s t.next t.stop W.read_last_line ≡ line_answer s c
    unfolding W.read_trace_fields
    line_last e l = rw l at (line_by e)

    pub line_other : t.to - t.from ≡ 1 → (get_or s t.from 0 ≡ 73 → ⊥) → (get_or s t.from 0 ≡ 81 → ⊥) → LV.Bad ≡ line_answer s c
    unfolding W.read_trace_fields
    line_other e m n = rw (ne_eqb (get_or s t.from 0) 73 m, ne_eqb (get_or s t.from 0) 81 n) at (line_by e)
