-- How long a line of a listing can be whose names, jumps and routines are there.
-- Twice the bytes of an instruction's line, with its line feed, are at most 15 for each piece and 26: a value takes up to 13 bytes
-- with its separator and an operator 2, but an expression has one operator less than values.
use mathlib.Core.Path.{◌≡◌, refl}
use mathlib.Core.Bool.{Bool, true, false, cond, ◌&&◌}
use mathlib.Core.List.{List, [], ◌∷◌, ◌++◌, map}
use Prim.Native.Nat.{ℕ, zero, suc, ◌+◌, ◌*◌, ◌-◌, ◌/◌, ◌%◌, ◌≤◌, ◌<◌}
use native.Mathlib.Omega.{arith}
use lib.Dec.{eqb, ltb, leb}
use lib.ListN.{length, length-append, length-map}
use borrow.Author.Tests.{lt-ltb, ltb-true, ltb-false, leb-true, eqb-true}
use Rattle.listing.specs.Lists.{all, total}
use Rattle.listing.specs.Bytes.{Bytes, tab, space, digits, figure, join}
use Rattle.listing.specs.Expressions.{half_range, word_range, most_values_held, effect_of, may_come, held_with, leaves_one_from, leaves_one}
use Rattle.listing.specs.Form.{Field, one_to, most_names_awaited}
use Rattle.listing.specs.Text.{signed_figure, piece_text, kind_text, kinds_text, kinds_field, letter_field, figure_field, expression_field, call_field, instruction_fields, line_fields, join_fields, line_text}
use Rattle.listing.specs.Limits.{bytes_on, name_limit, routine_limit, instruction_limit, call_pieces, instruction_pieces}
use Rattle.listing.specs.Questions.{piece_is_there, argument_count, call_is_there, is_there}
use Rattle.listing.specs.WellFormed.{piece_has_form, expression_has_form, instruction_has_form}
use Rattle.listing.specs.Listing.{Piece, literal, value_of, written_mark, plus, minus, times, less, divide, remainder, Expression, Call, Instruction, assign, schedule, branch, jump, wait, fork, end, Kind, opens, ports, instruction, Routine}
use Rattle.listing.proofs.Tests.{no_test, and_left, and_right, all_head, all_tail}

-- ── figures ──────────────────────────────────────────────────────────────────────
-- 10 ^ (k + 1)
tens : ℕ → ℕ
tens zero = 10
tens (suc k) = 10 * tens k

digits_length : (k most n : ℕ) → n < tens k → length (digits most n) ≤ suc k
unfolding digits tens
digits_length k zero n h = omega arith
digits_length zero (suc most) n h = rw (lt-ltb n 10 h) (omega arith)
digits_length (suc k) (suc most) n h = go (ltb n 10) (digits_length k most (n / 10))
  where
    go : (t : Bool) → (n / 10 < tens k → length (digits most (n / 10)) ≤ suc k)
        → length (cond t ((48 + n) ∷ []) (digits most (n / 10) ++ ((48 + n % 10) ∷ []))) ≤ suc (suc k)
    go true i = omega arith
    go false i = let s : n / 10 < tens k = omega arith in omega (arith, i s, length-append (digits most (n / 10)) ((48 + n % 10) ∷ []))

figure_length : (k n : ℕ) → n < tens k → length (figure n) ≤ suc k
unfolding figure
figure_length k n h = digits_length k (suc n) n h

two_digits : (n : ℕ) → n < 100 → length (figure n) ≤ 2
unfolding tens
two_digits n h = figure_length 1 n h

three_digits : (n : ℕ) → n < 1000 → length (figure n) ≤ 3
unfolding tens
three_digits n h = figure_length 2 n h

ten_digits : (n : ℕ) → n < 10000000000 → length (figure n) ≤ 10
unfolding tens
ten_digits n h = figure_length 9 n h

pub twenty_digits : (n : ℕ) → n < 100000000000000000000 → length (figure n) ≤ 20
unfolding tens
twenty_digits n h = figure_length 19 n h

signed_figure-length : (v : ℕ) → v < word_range → length (signed_figure v) ≤ 11
unfolding signed_figure
signed_figure-length v h = go (ltb v half_range) refl
  where
    go : (t : Bool) → ltb v half_range ≡ t → length (cond t (figure v) (45 ∷ figure (word_range - v))) ≤ 11
    go true e = let l : v < half_range = ltb-true v half_range e in omega (arith, ten_digits v (omega arith))
    go false e = let l : half_range ≤ v = ltb-false v half_range e in omega (arith, ten_digits (word_range - v) (omega arith))

-- ── lines and fields: a byte before each part ────────────────────────────────────
unfoldable pub sizes : List Bytes → ℕ
sizes [] = 0
sizes (part ∷ parts) = 1 + length part + sizes parts

join_size : (c : ℕ) (part : Bytes) (parts : List Bytes) → 1 + length (join c (part ∷ parts)) ≡ sizes (part ∷ parts)
unfolding join sizes
join_size c part [] = omega arith
join_size c part (next ∷ parts) = omega (arith, length-append part (c ∷ join c (next ∷ parts)), join_size c next parts)

line_size : (field : Field) (fields : List Field) → bytes_on (join_fields (field ∷ fields)) ≡ sizes (map (join space) (field ∷ fields))
unfolding join_fields
line_size field fields = omega (arith, join_size tab (join space field) (map (join space) fields))

-- ── expressions ──────────────────────────────────────────────────────────────────
module _ (names : ℕ) (few : names ≤ name_limit) where
  name_length : (n : ℕ) → ltb n names ≡ true → length (figure n) ≤ 2
  name_length n h = let l : n < names = ltb-true n names h in two_digits n (omega arith)

  names_size : (ns : List ℕ) → all (λ n. ltb n names) ns ≡ true → sizes (map figure ns) ≤ 3 * length ns
  unfolding sizes
  names_size [] h = omega arith
  names_size (n ∷ ns) h = omega (arith, name_length n (all_head (λ m. ltb m names) n ns h), names_size ns (all_tail (λ m. ltb m names) n ns h))

  -- twice the bytes of pieces that leave one value, where each value held before them is worth 11
  abbrev Cost : ℕ → Expression → Type 0
  Cost held e = 2 * sizes (expression_field e) + 11 * held ≤ 15 * length e + 11

  value_cost : (held : ℕ) (p : Piece) (e : Expression) → length (piece_text p) ≤ 12 → (leaves_one_from (suc held) e ≡ true → Cost (suc held) e)
      → (ltb held most_values_held && leaves_one_from (suc held) e) ≡ true → Cost held (p ∷ e)
  unfolding sizes
  value_cost held p e l rest h = omega (arith, rest (and_right (ltb held most_values_held) (leaves_one_from (suc held) e) h))

  operator_cost : (held : ℕ) (p : Piece) (e : Expression) → length (piece_text p) ≡ 1 → (leaves_one_from (held - 1) e ≡ true → Cost (held - 1) e)
      → (leb 2 held && leaves_one_from (held - 1) e) ≡ true → Cost held (p ∷ e)
  unfolding sizes
  operator_cost held p e l rest h =
      let two : 2 ≤ held = leb-true 2 held (and_left (leb 2 held) (leaves_one_from (held - 1) e) h) in
      omega (arith, rest (and_right (leb 2 held) (leaves_one_from (held - 1) e) h))

  literal_length : (v : ℕ) → piece_has_form (literal v) ≡ true → length (piece_text (literal v)) ≤ 12
  unfolding piece_text piece_has_form
  literal_length v h = omega (arith, signed_figure-length v (ltb-true v word_range h))

  value_of-length : (n : ℕ) → piece_is_there names (value_of n) ≡ true → length (piece_text (value_of n)) ≤ 12
  unfolding piece_text piece_is_there
  value_of-length n h = omega (arith, name_length n h)

  written_mark-length : (n : ℕ) → piece_is_there names (written_mark n) ≡ true → length (piece_text (written_mark n)) ≤ 12
  unfolding piece_text piece_is_there
  written_mark-length n h = omega (arith, name_length n h)

  expression_cost : (held : ℕ) (e : Expression) → all piece_has_form e ≡ true → all (piece_is_there names) e ≡ true → leaves_one_from held e ≡ true → Cost held e
  unfolding sizes effect_of may_come held_with leaves_one_from piece_text
  expression_cost held [] f t h = let z : held ≡ 1 = eqb-true held 1 h in omega arith
  expression_cost held (literal v ∷ e) f t h =
      value_cost held (literal v) e (literal_length v (all_head piece_has_form (literal v) e f))
      (expression_cost (suc held) e (all_tail piece_has_form (literal v) e f) (all_tail (piece_is_there names) (literal v) e t)) h
  expression_cost held (value_of n ∷ e) f t h =
      value_cost held (value_of n) e (value_of-length n (all_head (piece_is_there names) (value_of n) e t))
      (expression_cost (suc held) e (all_tail piece_has_form (value_of n) e f) (all_tail (piece_is_there names) (value_of n) e t)) h
  expression_cost held (written_mark n ∷ e) f t h =
      value_cost held (written_mark n) e (written_mark-length n (all_head (piece_is_there names) (written_mark n) e t))
      (expression_cost (suc held) e (all_tail piece_has_form (written_mark n) e f) (all_tail (piece_is_there names) (written_mark n) e t)) h
  expression_cost held (plus ∷ e) f t h =
      operator_cost held plus e refl (expression_cost (held - 1) e (all_tail piece_has_form plus e f) (all_tail (piece_is_there names) plus e t)) h
  expression_cost held (minus ∷ e) f t h =
      operator_cost held minus e refl (expression_cost (held - 1) e (all_tail piece_has_form minus e f) (all_tail (piece_is_there names) minus e t)) h
  expression_cost held (times ∷ e) f t h =
      operator_cost held times e refl (expression_cost (held - 1) e (all_tail piece_has_form times e f) (all_tail (piece_is_there names) times e t)) h
  expression_cost held (less ∷ e) f t h =
      operator_cost held less e refl (expression_cost (held - 1) e (all_tail piece_has_form less e f) (all_tail (piece_is_there names) less e t)) h
  expression_cost held (divide ∷ e) f t h =
      operator_cost held divide e refl (expression_cost (held - 1) e (all_tail piece_has_form divide e f) (all_tail (piece_is_there names) divide e t)) h
  expression_cost held (remainder ∷ e) f t h =
      operator_cost held remainder e refl (expression_cost (held - 1) e (all_tail piece_has_form remainder e f) (all_tail (piece_is_there names) remainder e t)) h

  -- an expression's field, with the byte before it
  expression_size : (e : Expression) → expression_has_form e ≡ true → all (piece_is_there names) e ≡ true
      → 2 * (1 + length (join space (expression_field e))) ≤ 15 * length e + 11
  unfolding leaves_one_from all
  expression_size [] f t = no_test f
  expression_size (p ∷ e) f t =
      let parts = all piece_has_form (p ∷ e) in
      omega (
        arith,
        join_size space (piece_text p) (expression_field e),
        expression_cost 0 (p ∷ e) (and_left parts (leaves_one (p ∷ e)) f) t (and_right parts (leaves_one (p ∷ e)) f),
      )

-- ── instructions ─────────────────────────────────────────────────────────────────
module _ (routines : List Routine) (names size : ℕ) (known : length routines ≤ routine_limit) (few : names ≤ name_limit) (short : size ≤ instruction_limit) where
  call_size : (call : Call) → call_is_there routines names call ≡ true → 1 + length (join space (call_field call)) ≤ 3 * call_pieces call
  unfolding call_is_there call_field sizes
  call_size call h =
      let there = ltb call.callee (length routines) in
      let counted = eqb (length call.arguments) (argument_count routines call.callee) in
      let named = all (λ n. ltb n names) call.arguments in
      let callee : call.callee < length routines = ltb-true _ _ (and_left there counted (and_left (there && counted) named h)) in
      omega (
        arith,
        join_size space (figure call.callee) (map figure call.arguments),
        two_digits call.callee (omega arith),
        names_size names few call.arguments (and_right (there && counted) named h),
      )

  calls_size : (calls : List Call) → all (call_is_there routines names) calls ≡ true
      → sizes (map (join space) (map call_field calls)) ≤ 3 * total (map call_pieces calls)
  unfolding sizes total
  calls_size [] h = omega arith
  calls_size (call ∷ calls) h =
      omega (arith, call_size call (all_head (call_is_there routines names) call calls h), calls_size calls (all_tail (call_is_there routines names) call calls h))

  awaited_size : (ns : List ℕ) → one_to most_names_awaited ns ≡ true → all (λ n. ltb n names) ns ≡ true → 1 + length (join space (map figure ns)) ≤ 3 * length ns
  unfolding one_to
  awaited_size [] o h = no_test o
  awaited_size (n ∷ ns) o h = omega (arith, join_size space (figure n) (map figure ns), names_size names few (n ∷ ns) h)

  pub instruction_cost : (i : Instruction) → instruction_has_form i ≡ true → is_there routines names size i ≡ true
      → 2 * bytes_on (line_text (instruction i)) ≤ 15 * instruction_pieces i + 26
  unfolding line_fields instruction_fields instruction_pieces instruction_has_form is_there sizes join
  instruction_cost (assign n e) f t =
      let named = ltb n names in
      let there = all (piece_is_there names) e in
      omega (
        arith,
        line_size (letter_field 83) (figure_field n ∷ expression_field e ∷ []),
        name_length names few n (and_left named there t),
        expression_size names few e f (and_right named there t),
      )
  instruction_cost (schedule n d e) f t =
      let named = ltb n names in
      let there-d = all (piece_is_there names) d in
      let there-e = all (piece_is_there names) e in
      let nd = and_left (named && there-d) there-e t in
      omega (
        arith,
        line_size (letter_field 65) (figure_field n ∷ expression_field d ∷ expression_field e ∷ []),
        name_length names few n (and_left named there-d nd),
        expression_size names few d (and_left (expression_has_form d) (expression_has_form e) f) (and_right named there-d nd),
        expression_size names few e (and_right (expression_has_form d) (expression_has_form e) f) (and_right (named && there-d) there-e t),
      )
  instruction_cost (branch e k) f t =
      let there = all (piece_is_there names) e in
      let target : k < size = ltb-true k size (and_right there (ltb k size) t) in
      omega (
        arith,
        line_size (letter_field 85) (expression_field e ∷ figure_field k ∷ []),
        expression_size names few e f (and_left there (ltb k size) t),
        three_digits k (omega arith),
      )
  instruction_cost (jump k) f t =
      let target : k < size = ltb-true k size t in
      omega (arith, line_size (letter_field 71) (figure_field k ∷ []), three_digits k (omega arith))
  instruction_cost (wait ns) f t = omega (arith, line_size (letter_field 87) (map figure ns ∷ []), awaited_size ns f t)
  instruction_cost (fork calls) f t = omega (arith, line_size (letter_field 70) (map call_field calls), calls_size calls t)
  instruction_cost end f t = omega (arith, line_size (letter_field 69) [])

-- ── the lines that open ──────────────────────────────────────────────────────────
kinds_length : (kinds : List Kind) → length kinds ≤ name_limit → length (kinds_text kinds) ≤ name_limit
unfolding kinds_text
kinds_length [] h = omega arith
kinds_length (kind ∷ kinds) h = omega (arith, length-map (kind ∷ kinds) kind_text)

pub opens_length : (kinds : List Kind) (locals : ℕ) → length kinds + locals ≤ name_limit → bytes_on (line_text (opens kinds locals)) ≤ 22
unfolding line_fields sizes join
opens_length kinds locals h =
    omega (arith, line_size (letter_field 82) (kinds_field kinds ∷ figure_field locals ∷ []), kinds_length kinds (omega arith), two_digits locals (omega arith))

pub ports_length : (i o : ℕ) → i + o ≤ name_limit → bytes_on (line_text (ports i o)) ≤ 8
unfolding line_fields sizes join
ports_length i o h = omega (arith, line_size (letter_field 80) (figure_field i ∷ figure_field o ∷ []), two_digits i (omega arith), two_digits o (omega arith))
