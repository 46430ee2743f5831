-- The form of a line (document 01, "The listing"): from its fields, parted by tabs, and their pieces, parted by spaces, to its record.
use Rattle.std.specs.Prelude.{Bool, cond, ◌&&◌, List, [], ◌∷◌, map, ℕ, eqb, leb, length}
use Rattle.std.proofs.Math.Option.{Option, none, some}
use Prim.Native.Char.{code}
use Rattle.listing.specs.Bytes.{Bytes, tab, space, split, read_figure}
use Rattle.listing.specs.Expressions.{bind, when, each, alone, read_expression}
use Rattle.listing.specs.Listing.{Call, assign, schedule, branch, jump, wait, fork, end, Kind, by_reference, by_value, Line, ports, opens, instruction}

-- a field is a list of pieces
abbrev pub Field : Type 0
Field = List Bytes

-- "fields parted by one tab .., pieces inside a field by one space"
unfoldable pub fields_of : Bytes → List Field
fields_of line = map (split space) (split tab line)

-- ── fields in a row ──────────────────────────────────────────────────────────────
-- the next field is read, and what it holds handed on with the fields after it
unfoldable pub next_field_lem : {A B : Type 0} → (Field → Option A) → List Field → (A → List Field → Option B) → Option B
next_field_lem read [] next = none
next_field_lem read (field ∷ fields) next = bind (read field) (λ a. next a fields)

-- no field is left
unfoldable pub none_left_lem : {A : Type 0} → List Field → A → Option A
none_left_lem [] a = some a
none_left_lem (field ∷ fields) a = none

-- a field of one piece
unfoldable pub one_piece_lem : {A : Type 0} → (Bytes → Option A) → Field → Option A
one_piece_lem read [] = none
one_piece_lem read (piece ∷ []) = read piece
one_piece_lem read (piece ∷ next ∷ pieces) = none

-- 1 to `most` of them
unfoldable pub one_to : {A : Type 0} → ℕ → List A → Bool
one_to most xs = leb 1 (length xs) && leb (length xs) most

-- ── what a field holds ───────────────────────────────────────────────────────────
-- a count, a name, an instruction's or a routine's number: a figure of any length
abbrev pub read_number : Field → Option ℕ
read_number = one_piece_lem read_figure

-- "kinds has a letter per argument, `r` by reference or `v` by value, or is `-` for none"
unfoldable pub read_kind : ℕ → Option Kind
read_kind byte = cond (eqb byte (code "r")) (some by_reference) (cond (eqb byte (code "v")) (some by_value) none)

unfoldable pub read_kinds : Bytes → Option (List Kind)
read_kinds [] = none
read_kinds (byte ∷ rest) = cond (eqb byte (code "-")) (alone rest []) (each read_kind (byte ∷ rest))

-- "waits on 1 to 4 names"
abbrev pub most_names_awaited : ℕ
most_names_awaited = 4

unfoldable pub read_names : Field → Option (List ℕ)
read_names pieces = bind (each read_figure pieces) (λ names. when (one_to most_names_awaited names) names)

-- "each field is a routine number and then its arguments"
unfoldable pub read_call : Field → Option Call
read_call [] = none
read_call (piece ∷ pieces) =
    bind (read_figure piece) (λ routine. bind (each read_figure pieces) (λ names. some (record { callee = routine; arguments = names })))

-- "forks 1 to 8 children"
abbrev pub most_children : ℕ
most_children = 8

-- ── the records, by the fields after their letter ────────────────────────────────
-- "`P|i|o`"
abbrev pub read_ports : List Field → Option Line
read_ports fields = next_field_lem read_number fields (λ i fields. next_field_lem read_number fields (λ o fields. none_left_lem fields (ports i o)))

-- "`R|kinds|locals`"
abbrev pub read_opens : List Field → Option Line
read_opens fields =
    next_field_lem (one_piece_lem read_kinds) fields (λ kinds fields. next_field_lem read_number fields (λ locals fields. none_left_lem fields (opens kinds locals)))

-- "`S|n|e`"
abbrev pub read_assign : List Field → Option Line
read_assign fields =
    next_field_lem read_number fields (λ n fields. next_field_lem read_expression fields (λ e fields. none_left_lem fields (instruction (assign n e))))

-- "`A|n|d|e`"
abbrev pub read_schedule : List Field → Option Line
read_schedule fields =
    next_field_lem read_number fields (λ n fields. next_field_lem read_expression fields (λ d fields.
    next_field_lem read_expression fields (λ e fields. none_left_lem fields (instruction (schedule n d e)))))

-- "`U|e|k`"
abbrev pub read_branch : List Field → Option Line
read_branch fields =
    next_field_lem read_expression fields (λ e fields. next_field_lem read_number fields (λ k fields. none_left_lem fields (instruction (branch e k))))

-- "`G|k`"
abbrev pub read_jump : List Field → Option Line
read_jump fields = next_field_lem read_number fields (λ k fields. none_left_lem fields (instruction (jump k)))

-- "`W|n n ..`"
abbrev pub read_wait : List Field → Option Line
read_wait fields = next_field_lem read_names fields (λ names fields. none_left_lem fields (instruction (wait names)))

-- "`F|c|c..`"
abbrev pub read_fork : List Field → Option Line
read_fork fields = bind (each read_call fields) (λ calls. when (one_to most_children calls) (instruction (fork calls)))

-- "`E`"
abbrev pub read_end : List Field → Option Line
read_end fields = none_left_lem fields (instruction end)

-- ── a line ───────────────────────────────────────────────────────────────────────
unfoldable pub read_letter : Bytes → Option ℕ
read_letter [] = none
read_letter (byte ∷ rest) = alone rest byte

unfoldable pub read_by_letter : ℕ → List Field → Option Line
read_by_letter letter fields =
    cond (eqb letter (code "P")) (read_ports fields)
    (cond (eqb letter (code "R")) (read_opens fields)
    (cond (eqb letter (code "S")) (read_assign fields)
    (cond (eqb letter (code "A")) (read_schedule fields)
    (cond (eqb letter (code "U")) (read_branch fields)
    (cond (eqb letter (code "G")) (read_jump fields)
    (cond (eqb letter (code "W")) (read_wait fields)
    (cond (eqb letter (code "F")) (read_fork fields)
    (cond (eqb letter (code "E")) (read_end fields)
    none))))))))

-- the record that fields make: the first is its letter
unfoldable pub read_record : List Field → Option Line
read_record fields = next_field_lem (one_piece_lem read_letter) fields read_by_letter

-- "By form `P` stands on line 1 only, and line 2, if any, is an `R`." (And line 1 is a `P`: "The file begins with the bytes `P`, tab".)
unfoldable pub may_stand_on : ℕ → Line → Bool
may_stand_on line (ports i o) = eqb line 1
may_stand_on line (opens kinds locals) = leb 2 line
may_stand_on line (instruction i) = leb 3 line

-- the record of a line, by its number from 1 and its bytes without the line feed; none if it is out of form
unfoldable pub read_line : ℕ → Bytes → Option Line
read_line line bytes = bind (read_record (fields_of bytes)) (λ r. when (may_stand_on line r) r)
