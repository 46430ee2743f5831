-- A line that is read is the text of its record, and the record has form and may stand there.
use mathlib.Core.Path.{◌≡◌, refl}
use mathlib.Core.Bool.{true}
use mathlib.Core.List.{List, [], ◌∷◌, map}
use mathlib.Core.Option.{some}
use mathlib.Core.Logic.{⊎_elim, ◌↔◌}
use Prim.Native.Nat.{ℕ}
use Rattle.listing.specs.Bytes.{Bytes, tab, space, split, join}
use Rattle.listing.specs.Expressions.{each, read_expression}
use Rattle.listing.specs.Form.{Field, fields_of, one_piece_lem, one_to, read_number, read_kinds, read_names, read_call, most_children, read_ports, read_opens, read_assign, read_schedule, read_branch, read_jump, read_wait, read_fork, read_end, read_letter, read_by_letter, read_record, may_stand_on, read_line}
use Rattle.listing.specs.Text.{kinds_text, letter_field, call_field, instruction_fields, line_fields, join_fields, line_text}
use Rattle.listing.specs.WellFormed.{instruction_has_form, line_has_form}
use Rattle.listing.specs.Listing.{Line, instruction, end}
use Rattle.listing.proofs.Tests.{no_reading}
use Rattle.listing.proofs.Splits.{join_split}
use Rattle.listing.proofs.Reading.{line_read}
use Rattle.listing.proofs.FieldsBack.{bound, passed, next_read, none_left_read, chosen, each_back, one_piece_back, expression_back, number_back, names_back, call_back, kinds_back, letter_back}

-- ── records ──────────────────────────────────────────────────────────────────────
record LineBack (fields : List Field) (line : Line) : Type 0 where
  pub is : line_fields line ≡ fields
  pub form : line_has_form line ≡ true

-- from the fields after the letter
after : (letter : ℕ) (fields : List Field) (line : Line) (read : Line) (texts : List Field)
    → read ≡ line → fields ≡ texts → line_fields read ≡ letter_field letter ∷ texts → line_has_form read ≡ true → LineBack (letter_field letter ∷ fields) line
after letter fields line read texts e i w g = rw (← e, i) (record { is = w; form = g })

module _ (fields : List Field) (line : Line) where
  ports_back : read_ports fields ≡ some line → LineBack (letter_field 80 ∷ fields) line
  unfolding line_fields line_has_form
  ports_back h =
      let a = next_read read_number fields _ line h in
      let b = next_read read_number a.rest _ line a.on in
      let z = none_left_read b.rest _ line b.on in
      after 80 fields line _ (a.field ∷ b.field ∷ []) z.1 (cc (a.is, b.is, z.0))
      (rw (number_back a.field a.got a.from, number_back b.field b.got b.from)) refl

  opens_back : read_opens fields ≡ some line → LineBack (letter_field 82 ∷ fields) line
  unfolding line_fields line_has_form
  opens_back h =
      let a = next_read (one_piece_lem read_kinds) fields _ line h in
      let b = next_read read_number a.rest _ line a.on in
      let z = none_left_read b.rest _ line b.on in
      after 82 fields line _ (a.field ∷ b.field ∷ []) z.1 (cc (a.is, b.is, z.0))
      (rw (one_piece_back read_kinds kinds_text kinds_back a.field a.got a.from, number_back b.field b.got b.from)) refl

  assign_back : read_assign fields ≡ some line → LineBack (letter_field 83 ∷ fields) line
  unfolding line_fields instruction_fields line_has_form instruction_has_form
  assign_back h =
      let a = next_read read_number fields _ line h in
      let b = next_read read_expression a.rest _ line a.on in
      let z = none_left_read b.rest _ line b.on in
      let e = expression_back b.field b.got b.from in
      after 83 fields line _ (a.field ∷ b.field ∷ []) z.1 (cc (a.is, b.is, z.0)) (rw (number_back a.field a.got a.from, e.0)) e.1

  schedule_back : read_schedule fields ≡ some line → LineBack (letter_field 65 ∷ fields) line
  unfolding line_fields instruction_fields line_has_form instruction_has_form
  schedule_back h =
      let a = next_read read_number fields _ line h in
      let b = next_read read_expression a.rest _ line a.on in
      let c = next_read read_expression b.rest _ line b.on in
      let z = none_left_read c.rest _ line c.on in
      let d = expression_back b.field b.got b.from in
      let e = expression_back c.field c.got c.from in
      after 65 fields line _ (a.field ∷ b.field ∷ c.field ∷ []) z.1 (cc (a.is, b.is, c.is, z.0))
      (rw (number_back a.field a.got a.from, d.0, e.0)) (rw (d.1, e.1))

  branch_back : read_branch fields ≡ some line → LineBack (letter_field 85 ∷ fields) line
  unfolding line_fields instruction_fields line_has_form instruction_has_form
  branch_back h =
      let a = next_read read_expression fields _ line h in
      let b = next_read read_number a.rest _ line a.on in
      let z = none_left_read b.rest _ line b.on in
      let e = expression_back a.field a.got a.from in
      after 85 fields line _ (a.field ∷ b.field ∷ []) z.1 (cc (a.is, b.is, z.0)) (rw (e.0, number_back b.field b.got b.from)) e.1

  jump_back : read_jump fields ≡ some line → LineBack (letter_field 71 ∷ fields) line
  unfolding line_fields instruction_fields line_has_form instruction_has_form
  jump_back h =
      let a = next_read read_number fields _ line h in
      let z = none_left_read a.rest _ line a.on in
      after 71 fields line _ (a.field ∷ []) z.1 (cc (a.is, z.0)) (rw (number_back a.field a.got a.from)) refl

  wait_back : read_wait fields ≡ some line → LineBack (letter_field 87 ∷ fields) line
  unfolding line_fields instruction_fields line_has_form instruction_has_form
  wait_back h =
      let a = next_read read_names fields _ line h in
      let z = none_left_read a.rest _ line a.on in
      let n = names_back a.field a.got a.from in
      after 87 fields line _ (a.field ∷ []) z.1 (cc (a.is, z.0)) (rw n.0) n.1

  fork_back : read_fork fields ≡ some line → LineBack (letter_field 70 ∷ fields) line
  unfolding line_fields instruction_fields line_has_form instruction_has_form
  fork_back h =
      let a = bound (each read_call fields) _ line h in
      let t = passed (one_to most_children a.got) _ line a.on in
      after 70 fields line _ fields t.1 refl (rw (each_back read_call call_field call_back fields a.got a.from)) t.0

  end_back : read_end fields ≡ some line → LineBack (letter_field 69 ∷ fields) line
  unfolding line_fields instruction_fields line_has_form instruction_has_form
  end_back h = let z = none_left_read fields _ line h in after 69 fields line (instruction end) [] z.1 z.0 refl refl

by_letter_back : (letter : ℕ) (fields : List Field) (line : Line) → read_by_letter letter fields ≡ some line → LineBack (letter_field letter ∷ fields) line
unfolding read_by_letter
by_letter_back letter fields line e =
    ⊎_elim (λ u. is 80 u.0 (ports_back fields line u.1)) (λ e.
    ⊎_elim (λ u. is 82 u.0 (opens_back fields line u.1)) (λ e.
    ⊎_elim (λ u. is 83 u.0 (assign_back fields line u.1)) (λ e.
    ⊎_elim (λ u. is 65 u.0 (schedule_back fields line u.1)) (λ e.
    ⊎_elim (λ u. is 85 u.0 (branch_back fields line u.1)) (λ e.
    ⊎_elim (λ u. is 71 u.0 (jump_back fields line u.1)) (λ e.
    ⊎_elim (λ u. is 87 u.0 (wait_back fields line u.1)) (λ e.
    ⊎_elim (λ u. is 70 u.0 (fork_back fields line u.1)) (λ e.
    ⊎_elim (λ u. is 69 u.0 (end_back fields line u.1)) (λ n. no_reading n)
    (chosen letter 69 _ _ line e)) (chosen letter 70 _ _ line e)) (chosen letter 87 _ _ line e)) (chosen letter 71 _ _ line e)) (chosen letter 85 _ _ line e))
    (chosen letter 65 _ _ line e)) (chosen letter 83 _ _ line e)) (chosen letter 82 _ _ line e)) (chosen letter 80 _ _ line e)
  where
    is : (c : ℕ) → letter ≡ c → LineBack (letter_field c ∷ fields) line → LineBack (letter_field letter ∷ fields) line
    is c e r = rw e r

record_back : (fields : List Field) (line : Line) → read_record fields ≡ some line → LineBack fields line
unfolding read_record
record_back fields line h =
    let a = next_read (one_piece_lem read_letter) fields _ line h in
    let i : letter_field a.got ≡ a.field = one_piece_back read_letter (λ c. c ∷ []) letter_back a.field a.got a.from in
    rw (a.is, ← i) (by_letter_back a.got a.rest line a.on)

-- ── lines ────────────────────────────────────────────────────────────────────────
join_split_each : (texts : List Bytes) → map (join space) (map (split space) texts) ≡ texts
join_split_each [] = refl
join_split_each (text ∷ texts) = rw (join_split space text, join_split_each texts)

pub fields_joined : (text : Bytes) → join_fields (fields_of text) ≡ text
unfolding join_fields fields_of
fields_joined text = rw (join_split_each (split tab text)) (join_split tab text)

pub record ReadBack (number : ℕ) (text : Bytes) (line : Line) : Type 0 where
  pub is : line_text line ≡ text
  pub form : line_has_form line ≡ true
  pub stands : may_stand_on number line ≡ true

pub line_back : (number : ℕ) (text : Bytes) (line : Line) → read_line number text ≡ some line → ReadBack number text line
unfolding read_line
line_back number text line h =
    let a = bound (read_record (fields_of text)) _ line h in
    let t = passed (may_stand_on number a.got) a.got line a.on in
    let r = record_back (fields_of text) a.got a.from in
    rw (← t.1) (record { is = rw r.is (fields_joined text); form = r.form; stands = t.0 })

-- a line has its form exactly if it is the text of a record with form that may stand there
pub line_reads_exactly_if : (number : ℕ) (text : Bytes) (line : Line)
    → (read_line number text ≡ some line) ↔ ((line_text line ≡ text) × (line_has_form line ≡ true) × (may_stand_on number line ≡ true))
line_reads_exactly_if number text line =
    (λ h. let b = line_back number text line h in (b.is, b.form, b.stands), λ c. rw (← c.0) (line_read number line c.1 c.2))
