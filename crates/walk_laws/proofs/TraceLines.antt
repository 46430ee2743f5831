-- A line of the trace is read as what it is the text of: bytes and line determine each other (document 01, "The session").
use mathlib.Core.Path.{◌≡◌, refl, sym, ap, ◌∙◌}
use mathlib.Core.Bool.{Bool, true, false, cond, ◌&&◌}
use mathlib.Core.List.{List, [], ◌∷◌, cons≢nil}
use mathlib.Core.Option.{Option, none, some}
use mathlib.Core.Logic.{⊎_elim, ◌↔◌}
use Prim.Native.Nat.{ℕ, ◌-◌, ◌<◌}
use native.Mathlib.Omega.{arith}
use lib.Dec.{eqb, ltb, leb}
use borrow.Author.Tests.{lt-ltb, ltb-true}
use Rattle.words.specs.Moments.{moment_range}
use Rattle.listing.specs.Bytes.{Bytes, read_figure, figure}
use Rattle.listing.specs.Expressions.{bind, when, alone, half_range, word_range, read_literal}
use Rattle.listing.specs.Form.{Field, fields_of, next_field_lem, none_left_lem, one_piece_lem, read_letter}
use Rattle.listing.specs.Listing.{literal}
use Rattle.listing.specs.Text.{signed_figure, piece_text, letter_field, figure_field, join_fields}
use Rattle.listing.specs.WellFormed.{piece_has_form}
use Rattle.listing.proofs.Tests.{no_reading}
use Rattle.listing.proofs.Figures.{read_figure-figure, figure-read_figure}
use Rattle.listing.proofs.Splits.{All, none_left, also}
use Rattle.listing.proofs.Separators.{VisibleField, visible_field, signed_figure-visible, letter_field_lem, figure_field_lem, joined_back}
use Rattle.listing.proofs.Reading.{read_literal-signed_figure}
use Rattle.listing.proofs.FieldsBack.{bound, passed, next_read, none_left_read, chosen, one_piece_back, literal_back, letter_back}
use Rattle.listing.proofs.LinesBack.{fields_joined}
use Rattle.walk.specs.Instant.{Write}
use Rattle.walk.specs.Trace.{TraceLine, input_line, last_line_lem, out_of_form, read_below, read_time, read_input, read_signed, read_input_line, read_last_line, read_trace_fields, or_out_of_form, read_trace_line}
use Rattle.walk_laws.specs.TraceText.{input_fields, last_fields, InputText, LastText, IsText}

-- ── figures below a range ─────────────────────────────────────────────────────────────────────────
below_read : (range n : ℕ) → n < range → read_below range (figure n) ≡ some n
unfolding read_below
below_read range n h = rw (read_figure-figure n, lt-ltb n range h)

below_back : (range : ℕ) (piece : Bytes) (n : ℕ) → read_below range piece ≡ some n → (figure n ≡ piece) × (n < range)
unfolding read_below
below_back range piece n e =
    let u = bound (read_figure piece) _ n e in
    let t = passed (ltb u.got range) u.got n u.on in
    rw (← t.1) (figure-read_figure piece u.got u.from, ltb-true u.got range t.0)

-- ── values: "A value is written as a literal is, without `#`." ────────────────────────────────────
as_literal : (o : Option ℕ) (test : ℕ → Bool) (word : ℕ → ℕ)
    → bind o (λ n. when (test n) (literal (word n))) ≡ bind (bind o (λ n. when (test n) (word n))) (λ v. some (literal v))
as_literal none test word = refl
as_literal (some n) test word = go (test n)
  where
    go : (t : Bool) → when t (literal (word n)) ≡ bind (when t (word n)) (λ v. some (literal v))
    go true = refl
    go false = refl

literal_is_signed : (piece : Bytes) → read_literal piece ≡ bind (read_signed piece) (λ v. some (literal v))
unfolding read_literal read_signed read_below
literal_is_signed [] = refl
literal_is_signed (byte ∷ rest) = go (eqb byte 45)
  where
    go : (t : Bool) → cond t (bind (read_figure rest) (λ n. when (leb 1 n && leb n half_range) (literal (word_range - n))))
        (bind (read_figure (byte ∷ rest)) (λ n. when (ltb n half_range) (literal n)))
        ≡ bind (cond t (bind (read_figure rest) (λ n. when (leb 1 n && leb n half_range) (word_range - n)))
        (bind (read_figure (byte ∷ rest)) (λ n. when (ltb n half_range) n))) (λ v. some (literal v))
    go true = as_literal (read_figure rest) (λ n. leb 1 n && leb n half_range) (λ n. word_range - n)
    go false = as_literal (read_figure (byte ∷ rest)) (λ n. ltb n half_range) (λ n. n)

signed_read : (v : ℕ) → v < word_range → read_signed (signed_figure v) ≡ some v
signed_read v h =
    let u = bound (read_signed (signed_figure v)) _ (literal v) (sym (literal_is_signed (signed_figure v)) ∙ read_literal-signed_figure v h) in
    let same : u.got ≡ v = cc u.on in
    rw (u.from, same)

signed_back : (piece : Bytes) (v : ℕ) → read_signed piece ≡ some v → (signed_figure v ≡ piece) × (v < word_range)
unfolding piece_text piece_has_form
signed_back piece v e =
    let b = literal_back piece (literal v) (literal_is_signed piece ∙ rw e) in
    let form : ltb v word_range ≡ true = b.form in
    (cc b.is, ltb-true v word_range form)

-- ── from a text to its line ───────────────────────────────────────────────────────────────────────
pub input_fields_visible : (time : ℕ) (w : Write) → All VisibleField (input_fields time w)
unfolding input_fields
input_fields_visible time w =
    also (letter_field_lem 73 (omega arith) (omega arith)) (also (figure_field_lem time) (also (figure_field_lem w.number)
    (also (visible_field (signed_figure-visible w.value) none_left) none_left)))

pub last_fields_visible : (time : ℕ) → All VisibleField (last_fields time)
unfolding last_fields
last_fields_visible time = also (letter_field_lem 81 (omega arith) (omega arith)) (also (figure_field_lem time) none_left)

input_fields_back : (time : ℕ) (w : Write) → fields_of (join_fields (input_fields time w)) ≡ input_fields time w
unfolding input_fields
input_fields_back time w = joined_back (input_fields time w) (input_fields_visible time w) cons≢nil

last_fields_back : (time : ℕ) → fields_of (join_fields (last_fields time)) ≡ last_fields time
unfolding last_fields
last_fields_back time = joined_back (last_fields time) (last_fields_visible time) cons≢nil

pub input_text_is_read : (time : ℕ) (w : Write) (bytes : Bytes) → InputText time w bytes → read_trace_line bytes ≡ input_line time w
unfolding read_trace_line read_trace_fields next_field_lem one_piece_lem read_letter alone none_left_lem input_fields
input_text_is_read time w bytes t =
    rw (
      t.is,
      input_fields_back time w,
      below_read moment_range time t.time_fits,
      below_read word_range w.number t.input_fits,
      signed_read w.value t.value_fits,
    )

pub last_text_is_read : (time : ℕ) (bytes : Bytes) → LastText time bytes → read_trace_line bytes ≡ last_line_lem time
unfolding read_trace_line read_trace_fields next_field_lem one_piece_lem read_letter alone none_left_lem last_fields
last_text_is_read time bytes t = rw (t.is, last_fields_back time, below_read moment_range time t.time_fits)

-- ── from a line to its text ───────────────────────────────────────────────────────────────────────
one_piece_read : {A : Type 0} (read : Bytes → Option A) (field : Field) (a : A) → one_piece_lem read field ≡ some a → (piece : Bytes) × (field ≡ piece ∷ []) × (read piece ≡ some a)
unfolding one_piece_lem
one_piece_read read [] a e = no_reading e
one_piece_read read (piece ∷ []) a e = (piece, refl, e)
one_piece_read read (piece ∷ next ∷ pieces) a e = no_reading e

number_read : (range : ℕ) (field : Field) (n : ℕ) → one_piece_lem (read_below range) field ≡ some n → (field ≡ figure_field n) × (n < range)
number_read range field n e =
    let p = one_piece_read (read_below range) field n e in
    let b = below_back range p.0 n p.2 in
    (rw (p.1, b.0), b.1)

value_read : (field : Field) (v : ℕ) → one_piece_lem read_signed field ≡ some v → (field ≡ signed_figure v ∷ []) × (v < word_range)
value_read field v e =
    let p = one_piece_read read_signed field v e in
    let b = signed_back p.0 v p.2 in
    (rw (p.1, b.0), b.1)

read_input_is_text : (fields : List Field) (line : TraceLine) → read_input_line fields ≡ some line → IsText line (join_fields (letter_field 73 ∷ fields))
unfolding IsText input_fields
read_input_is_text fields line h =
    let a = next_read read_time fields _ line h in
    let b = next_read read_input a.rest _ line a.on in
    let c = next_read (one_piece_lem read_signed) b.rest _ line b.on in
    let z = none_left_read c.rest _ line c.on in
    let time = number_read moment_range a.field a.got a.from in
    let input = number_read word_range b.field b.got b.from in
    let value = value_read c.field c.got c.from in
    let all-fields : fields ≡ figure_field a.got ∷ figure_field b.got ∷ (signed_figure c.got ∷ []) ∷ [] =
    cc (a.is, b.is, c.is, z.0, time.0, input.0, value.0) in
    rw (← z.1) (record { is = ap (λ (fs : List Field). join_fields (letter_field 73 ∷ fs)) all-fields; time_fits = time.1; input_fits = input.1; value_fits = value.1 })

read_last_is_text : (fields : List Field) (line : TraceLine) → read_last_line fields ≡ some line → IsText line (join_fields (letter_field 81 ∷ fields))
unfolding IsText last_fields
read_last_is_text fields line h =
    let a = next_read read_time fields _ line h in
    let z = none_left_read a.rest _ line a.on in
    let time = number_read moment_range a.field a.got a.from in
    let all-fields : fields ≡ figure_field a.got ∷ [] = cc (a.is, z.0, time.0) in
    rw (← z.1) (record { is = ap (λ (fs : List Field). join_fields (letter_field 81 ∷ fs)) all-fields; time_fits = time.1 })

read_fields_are_text : (letter : ℕ) (fields : List Field) (line : TraceLine) → read_trace_fields letter fields ≡ some line → IsText line (join_fields (letter_field letter ∷ fields))
unfolding read_trace_fields
read_fields_are_text letter fields line e =
    ⊎_elim (λ h. rw h.0 (read_input_is_text fields line h.1)) (λ e.
    ⊎_elim (λ h. rw h.0 (read_last_is_text fields line h.1)) (λ e. no_reading e)
    (chosen letter 81 _ _ line e)) (chosen letter 73 _ _ line e)

read_is_text : (bytes : Bytes) (line : TraceLine) → next_field_lem (one_piece_lem read_letter) (fields_of bytes) read_trace_fields ≡ some line → IsText line bytes
read_is_text bytes line h =
    let a = next_read (one_piece_lem read_letter) (fields_of bytes) _ line h in
    let letter : letter_field a.got ≡ a.field = one_piece_back read_letter (λ c. c ∷ []) letter_back a.field a.got a.from in
    let same : join_fields (letter_field a.got ∷ a.rest) ≡ bytes = rw (letter, ← a.is) (fields_joined bytes) in
    rw same at (read_fields_are_text a.got a.rest line a.on)

-- ── each determines the other ─────────────────────────────────────────────────────────────────────
none_is_no_text : (bytes : Bytes) → read_trace_line bytes ≡ out_of_form → IsText out_of_form bytes
unfolding IsText
none_is_no_text bytes e = (
  λ time w t. let other = input_text_is_read time w bytes t in let z : ◌≡◌ {A = ℕ} 0 1 = cc in omega arith,
  λ time t. let other = last_text_is_read time bytes t in let z : ◌≡◌ {A = ℕ} 0 1 = cc in omega arith,
)

pub line_read_is_text : (bytes : Bytes) (line : TraceLine) → read_trace_line bytes ≡ line → IsText line bytes
unfolding read_trace_line
line_read_is_text bytes line = go (next_field_lem (one_piece_lem read_letter) (fields_of bytes) read_trace_fields) refl
  where
    go : (o : Option TraceLine) → next_field_lem (one_piece_lem read_letter) (fields_of bytes) read_trace_fields ≡ o → or_out_of_form o ≡ line → IsText line bytes
    go none e h = rw (← h) (none_is_no_text bytes (rw e))
    go (some read) e h = rw (← h) (read_is_text bytes read e)

pub text_is_read : (bytes : Bytes) (line : TraceLine) → IsText line bytes → read_trace_line bytes ≡ line
unfolding IsText
text_is_read bytes (input_line time w) t = input_text_is_read time w bytes t
text_is_read bytes (last_line_lem time) t = last_text_is_read time bytes t
text_is_read bytes out_of_form t = go (read_trace_line bytes) refl
  where
    go : (line : TraceLine) → read_trace_line bytes ≡ line → line ≡ out_of_form
    go (input_line time w) e = absurd (t.0 time w (line_read_is_text bytes (input_line time w) e))
    go (last_line_lem time) e = absurd (t.1 time (line_read_is_text bytes (last_line_lem time) e))
    go out_of_form e = refl

-- Bytes are read as a line exactly if they are its text and its figures have their widths, and as out of form exactly if they are the text of none.
pub trace_line_reads_exactly_if : (bytes : Bytes) (line : TraceLine) → (read_trace_line bytes ≡ line) ↔ IsText line bytes
trace_line_reads_exactly_if bytes line = (line_read_is_text bytes line, text_is_read bytes line)
