-- A record is read from the fields that it is written as.
use mathlib.Core.Path.{◌≡◌, refl}
use mathlib.Core.Bool.{Bool, true, false, cond}
use mathlib.Core.List.{List, [], ◌∷◌, map}
use mathlib.Core.Option.{Option, some}
use Prim.Native.Nat.{ℕ, ◌-◌, ◌≤◌, ◌<◌}
use native.Mathlib.Omega.{arith}
use lib.Dec.{eqb, ltb}
use borrow.Author.Tests.{lt-ltb, le-leb, ltb-true, ltb-false, ne_eqb}
use Rattle.listing.specs.Lists.{all}
use Rattle.listing.specs.Bytes.{read_figure, figure}
use Rattle.listing.specs.Expressions.{each, alone, half_range, word_range, read_literal, read_piece, leaves_one, read_expression}
use Rattle.listing.specs.Form.{next_field_lem, none_left_lem, one_piece_lem, read_kind, read_kinds, read_names, read_call, read_letter, read_by_letter, read_record, may_stand_on, read_line}
use Rattle.listing.specs.Text.{signed_figure, piece_text, kind_text, kinds_text, expression_field, call_field, instruction_fields, line_fields, line_text}
use Rattle.listing.specs.WellFormed.{piece_has_form, expression_has_form, instruction_has_form, line_has_form}
use Rattle.listing.specs.Listing.{Piece, literal, value_of, written_mark, plus, minus, times, less, divide, remainder, Expression, Call, assign, schedule, branch, jump, wait, fork, end, Kind, by_reference, by_value, Line, ports, opens, instruction}
use Rattle.listing.proofs.Tests.{and_left, and_right, all_head, all_tail}
use Rattle.listing.proofs.Figures.{read_figure-figure}
use Rattle.listing.proofs.Separators.{figure_begins, line_fields_back}

-- ── pieces ───────────────────────────────────────────────────────────────────────
literal_low : (v : ℕ) → v < half_range → read_literal (figure v) ≡ some (literal v)
unfolding read_literal
literal_low v h =
    let f = figure_begins v in
    let unsigned : eqb f.head 45 ≡ false = ne_eqb f.head 45 (λ e. omega (arith, f.low)) in
    let read : read_figure (f.head ∷ f.rest) ≡ some v = rw (← f.is) (read_figure-figure v) in
    rw (f.is, unsigned, read, lt-ltb v half_range h)

literal_high : (v : ℕ) → half_range ≤ v → v < word_range → read_literal (45 ∷ figure (word_range - v)) ≡ some (literal v)
unfolding read_literal
literal_high v l h =
    let n : ℕ = word_range - v in
    let back : word_range - n ≡ v = omega arith in
    rw (read_figure-figure n, le-leb 1 n (omega arith), le-leb n half_range (omega arith), back)

pub read_literal-signed_figure : (v : ℕ) → v < word_range → read_literal (signed_figure v) ≡ some (literal v)
unfolding signed_figure
read_literal-signed_figure v h = go (ltb v half_range) refl
  where
    go : (t : Bool) → ltb v half_range ≡ t → read_literal (cond t (figure v) (45 ∷ figure (word_range - v))) ≡ some (literal v)
    go true e = literal_low v (ltb-true v half_range e)
    go false e = literal_high v (ltb-false v half_range e) h

read_piece-piece_text : (p : Piece) → piece_has_form p ≡ true → read_piece (piece_text p) ≡ some p
unfolding read_piece piece_text piece_has_form alone
read_piece-piece_text (literal v) h = read_literal-signed_figure v (ltb-true v word_range h)
read_piece-piece_text (value_of n) h =
    let f = figure_begins n in
    let read : read_figure (f.head ∷ f.rest) ≡ some n = rw (← f.is) (read_figure-figure n) in
    let below : (c : ℕ) → c < 48 → eqb f.head c ≡ false = λ c l. ne_eqb f.head c (λ e. omega (arith, f.low)) in
    let above : (c : ℕ) → 57 < c → eqb f.head c ≡ false = λ c l. ne_eqb f.head c (λ e. omega (arith, f.high)) in
    rw (
      f.is,
      below 35 (omega arith),
      above 64 (omega arith),
      below 43 (omega arith),
      below 45 (omega arith),
      below 42 (omega arith),
      above 60 (omega arith),
      below 47 (omega arith),
      below 37 (omega arith),
      read,
    )
read_piece-piece_text (written_mark n) h = rw (read_figure-figure n)
read_piece-piece_text plus h = refl
read_piece-piece_text minus h = refl
read_piece-piece_text times h = refl
read_piece-piece_text less h = refl
read_piece-piece_text divide h = refl
read_piece-piece_text remainder h = refl

-- ── fields ───────────────────────────────────────────────────────────────────────
each_map : {A B : Type 0} (read : A → Option B) (text : B → A) → ((b : B) → read (text b) ≡ some b) → (bs : List B) → each read (map text bs) ≡ some bs
unfolding each
each_map read text h [] = refl
each_map read text h (b ∷ bs) = rw (h b, each_map read text h bs)

pieces_read : (e : Expression) → all piece_has_form e ≡ true → each read_piece (expression_field e) ≡ some e
unfolding each
pieces_read [] h = refl
pieces_read (p ∷ e) h = rw (read_piece-piece_text p (all_head piece_has_form p e h), pieces_read e (all_tail piece_has_form p e h))

expression_read : (e : Expression) → expression_has_form e ≡ true → read_expression (expression_field e) ≡ some e
unfolding read_expression
expression_read e h =
    rw (pieces_read e (and_left (all piece_has_form e) (leaves_one e) h), and_right (all piece_has_form e) (leaves_one e) h)

call_read : (call : Call) → read_call (call_field call) ≡ some call
unfolding read_call call_field
call_read call = rw (read_figure-figure call.callee, each_map read_figure figure read_figure-figure call.arguments)

kind_read : (kind : Kind) → read_kind (kind_text kind) ≡ some kind
unfolding read_kind kind_text
kind_read by_reference = refl
kind_read by_value = refl

kind_is_letter : (kind : Kind) → eqb (kind_text kind) 45 ≡ false
unfolding kind_text
kind_is_letter by_reference = refl
kind_is_letter by_value = refl

kinds_read : (kinds : List Kind) → read_kinds (kinds_text kinds) ≡ some kinds
unfolding read_kinds kinds_text alone
kinds_read [] = refl
kinds_read (kind ∷ kinds) = rw (kind_is_letter kind) (each_map read_kind kind_text kind_read (kind ∷ kinds))

-- ── lines ────────────────────────────────────────────────────────────────────────
record_read : (line : Line) → line_has_form line ≡ true → read_record (line_fields line) ≡ some line
unfolding read_record read_by_letter line_fields instruction_fields line_has_form instruction_has_form next_field_lem one_piece_lem none_left_lem read_letter alone read_names
record_read (ports i o) h = rw (read_figure-figure i, read_figure-figure o)
record_read (opens kinds locals) h = rw (kinds_read kinds, read_figure-figure locals)
record_read (instruction (assign n e)) h = rw (read_figure-figure n, expression_read e h)
record_read (instruction (schedule n d e)) h =
    rw (
      read_figure-figure n,
      expression_read d (and_left (expression_has_form d) (expression_has_form e) h),
      expression_read e (and_right (expression_has_form d) (expression_has_form e) h),
    )
record_read (instruction (branch e k)) h = rw (expression_read e h, read_figure-figure k)
record_read (instruction (jump k)) h = rw (read_figure-figure k)
record_read (instruction (wait names)) h = rw (each_map read_figure figure read_figure-figure names, h)
record_read (instruction (fork calls)) h = rw (each_map read_call call_field call_read calls, h)
record_read (instruction end) h = refl

-- a line with form, where it may stand, is read from its text
pub line_read : (number : ℕ) (line : Line) → line_has_form line ≡ true → may_stand_on number line ≡ true → read_line number (line_text line) ≡ some line
unfolding read_line
line_read number line h s = rw (line_fields_back line h, record_read line h, s)
