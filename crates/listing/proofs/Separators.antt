-- A listing is written in visible ASCII, so that its pieces hold no separator, and a written line's fields and pieces come back.
use mathlib.Core.Path.{◌≡◌, refl, ap, ◌∙◌}
use mathlib.Core.Bool.{Bool, true, false, cond}
use mathlib.Core.List.{List, [], ◌∷◌, ◌++◌, map, cons≢nil}
use Prim.Native.Nat.{ℕ, zero, suc, ◌-◌, ◌≤◌, ◌<◌}
use native.Mathlib.Omega.{arith}
use lib.Dec.{ltb}
use Rattle.listing.specs.Lists.{all}
use Rattle.listing.specs.Bytes.{Bytes, tab, space, line_feed, is_digit, figure, split, join}
use Rattle.listing.specs.Expressions.{half_range, word_range, leaves_one_from}
use Rattle.listing.specs.Form.{Field, fields_of, one_to, most_names_awaited}
use Rattle.listing.specs.Text.{signed_figure, piece_text, kind_text, kinds_text, letter_field, figure_field, expression_field, call_field, instruction_fields, line_fields, join_fields, line_text}
use Rattle.listing.specs.WellFormed.{expression_has_form, instruction_has_form, line_has_form}
use Rattle.listing.specs.Listing.{Piece, literal, value_of, written_mark, plus, minus, times, less, divide, remainder, Expression, Call, Instruction, assign, schedule, branch, jump, wait, fork, end, Kind, by_reference, by_value, Line, ports, opens, instruction}
use Rattle.listing.proofs.Tests.{no_test, and_left, and_right, all_head, all_tail}
use Rattle.listing.proofs.Figures.{digit, figure_leads, figure_zero}
use Rattle.listing.proofs.Splits.{Free, free, freer, All, none_left, also, split_join}

-- ── pieces ───────────────────────────────────────────────────────────────────────
-- every byte is a visible ASCII character, so above the separators: tab 9, line feed 10, space 32
pub data Visible : Bytes → Type 0 where
  nothing : Visible []
  put : (byte : ℕ) {piece : Bytes} → space < byte → byte < 127 → Visible piece → Visible (byte ∷ piece)

differs : (byte c : ℕ) → space < byte → c ≤ space → byte ≡ c → ⊥
differs byte c h l e = omega arith

visible_free : {piece : Bytes} (c : ℕ) → c ≤ space → Visible piece → Free c piece
visible_free c l nothing = free
visible_free c l (put byte h a s) = freer (differs byte c h l) (visible_free c l s)

digits_visible : (piece : Bytes) → all is_digit piece ≡ true → Visible piece
digits_visible [] h = nothing
digits_visible (byte ∷ piece) h =
    let d = digit byte (all_head is_digit byte piece h) in
    put byte (omega arith) (omega arith) (digits_visible piece (all_tail is_digit byte piece h))

-- a figure begins with a digit
pub record Beginning (piece : Bytes) : Type 0 where
  pub head : ℕ
  pub rest : Bytes
  pub is : piece ≡ head ∷ rest
  pub low : 48 ≤ head
  pub high : head ≤ 57
  pub others : Visible rest

pub figure_begins : (n : ℕ) → Beginning (figure n)
figure_begins zero = record { head = 48; rest = []; is = figure_zero; low = omega arith; high = omega arith; others = nothing }
figure_begins (suc n) =
    let s = figure_leads (suc n) (omega arith) in
    record { head = s.head; rest = s.rest; is = s.is; low = omega (arith, s.low); high = s.high; others = digits_visible s.rest s.others }

figure_visible : (n : ℕ) → Visible (figure n)
figure_visible n = let f = figure_begins n in rw f.is (put f.head (omega (arith, f.low)) (omega (arith, f.high)) f.others)

pub signed_figure-visible : (v : ℕ) → Visible (signed_figure v)
unfolding signed_figure
signed_figure-visible v = go (ltb v half_range)
  where
    go : (t : Bool) → Visible (cond t (figure v) (45 ∷ figure (word_range - v)))
    go true = figure_visible v
    go false = put 45 (omega arith) (omega arith) (figure_visible (word_range - v))

piece_visible : (p : Piece) → Visible (piece_text p)
unfolding piece_text
piece_visible (literal v) = put 35 (omega arith) (omega arith) (signed_figure-visible v)
piece_visible (value_of n) = figure_visible n
piece_visible (written_mark n) = put 64 (omega arith) (omega arith) (figure_visible n)
piece_visible plus = put 43 (omega arith) (omega arith) nothing
piece_visible minus = put 45 (omega arith) (omega arith) nothing
piece_visible times = put 42 (omega arith) (omega arith) nothing
piece_visible less = put 60 (omega arith) (omega arith) nothing
piece_visible divide = put 47 (omega arith) (omega arith) nothing
piece_visible remainder = put 37 (omega arith) (omega arith) nothing

kind_visible : (kind : Kind) → (space < kind_text kind) × (kind_text kind < 127)
unfolding kind_text
kind_visible by_reference = omega arith
kind_visible by_value = omega arith

kinds_visible : (kinds : List Kind) → Visible (kinds_text kinds)
unfolding kinds_text
kinds_visible [] = put 45 (omega arith) (omega arith) nothing
kinds_visible (kind ∷ kinds) = letters (kind ∷ kinds)
  where
    letters : (kinds : List Kind) → Visible (map kind_text kinds)
    letters [] = nothing
    letters (kind ∷ kinds) = put (kind_text kind) (kind_visible kind).0 (kind_visible kind).1 (letters kinds)

-- ── fields: at least one piece, each nothing ───────────────────────────────────────
pub data VisibleField : Field → Type 0 where
  visible_field : {piece : Bytes} {pieces : Field} → Visible piece → All Visible pieces → VisibleField (piece ∷ pieces)

all_map : {A B : Type 0} {P : B → Type 0} (f : A → B) → ((a : A) → P (f a)) → (xs : List A) → All P (map f xs)
all_map f h [] = none_left
all_map f h (x ∷ xs) = also (h x) (all_map f h xs)

pub letter_field_lem : (letter : ℕ) → space < letter → letter < 127 → VisibleField (letter_field letter)
letter_field_lem letter h a = visible_field (put letter h a nothing) none_left

pub figure_field_lem : (n : ℕ) → VisibleField (figure_field n)
figure_field_lem n = visible_field (figure_visible n) none_left

-- an expression in form has a piece
expression_field_lem : (e : Expression) → expression_has_form e ≡ true → VisibleField (expression_field e)
unfolding leaves_one_from all
expression_field_lem [] h = no_test h
expression_field_lem (p ∷ e) h = visible_field (piece_visible p) (all_map piece_text piece_visible e)

names_field : (names : List ℕ) → one_to most_names_awaited names ≡ true → VisibleField (map figure names)
unfolding one_to
names_field [] h = no_test h
names_field (n ∷ names) h = visible_field (figure_visible n) (all_map figure figure_visible names)

call_field_lem : (call : Call) → VisibleField (call_field call)
unfolding call_field
call_field_lem call = visible_field (figure_visible call.callee) (all_map figure figure_visible call.arguments)

-- ── lines ────────────────────────────────────────────────────────────────────────
instruction_fields_lem : (i : Instruction) → instruction_has_form i ≡ true → All VisibleField (instruction_fields i)
unfolding instruction_fields instruction_has_form
instruction_fields_lem (assign n e) h = also (letter_field_lem 83 (omega arith) (omega arith)) (also (figure_field_lem n) (also (expression_field_lem e h) none_left))
instruction_fields_lem (schedule n d e) h =
    also (letter_field_lem 65 (omega arith) (omega arith)) (also (figure_field_lem n)
    (also (expression_field_lem d (and_left (expression_has_form d) (expression_has_form e) h))
    (also (expression_field_lem e (and_right (expression_has_form d) (expression_has_form e) h)) none_left)))
instruction_fields_lem (branch e k) h = also (letter_field_lem 85 (omega arith) (omega arith)) (also (expression_field_lem e h) (also (figure_field_lem k) none_left))
instruction_fields_lem (jump k) h = also (letter_field_lem 71 (omega arith) (omega arith)) (also (figure_field_lem k) none_left)
instruction_fields_lem (wait names) h = also (letter_field_lem 87 (omega arith) (omega arith)) (also (names_field names h) none_left)
instruction_fields_lem (fork calls) h = also (letter_field_lem 70 (omega arith) (omega arith)) (all_map call_field call_field_lem calls)
instruction_fields_lem end h = also (letter_field_lem 69 (omega arith) (omega arith)) none_left

pub line_fields_lem : (line : Line) → line_has_form line ≡ true → All VisibleField (line_fields line)
unfolding line_fields line_has_form
line_fields_lem (ports i o) h = also (letter_field_lem 80 (omega arith) (omega arith)) (also (figure_field_lem i) (also (figure_field_lem o) none_left))
line_fields_lem (opens kinds locals) h =
    also (letter_field_lem 82 (omega arith) (omega arith)) (also (visible_field (kinds_visible kinds) none_left) (also (figure_field_lem locals) none_left))
line_fields_lem (instruction i) h = instruction_fields_lem i h

-- ── and back ─────────────────────────────────────────────────────────────────────
free_append : {c : ℕ} {v w : Bytes} → Free c v → Free c w → Free c (v ++ w)
free_append free g = g
free_append (freer n f) g = freer n (free_append f g)

free_join : {c : ℕ} (d : ℕ) → (d ≡ c → ⊥) → (parts : List Bytes) → All (Free c) parts → Free c (join d parts)
unfolding join
free_join d n [] a = free
free_join d n (part ∷ []) (also f a) = f
free_join d n (part ∷ next ∷ parts) (also f a) = free_append f (freer n (free_join d n (next ∷ parts) a))

all_free : (c : ℕ) → c ≤ space → {pieces : Field} → All Visible pieces → All (Free c) pieces
all_free c l none_left = none_left
all_free c l (also s a) = also (visible_free c l s) (all_free c l a)

field_free : (c : ℕ) → c < space → {field : Field} → VisibleField field → Free c (join space field)
field_free c l (visible_field {piece = piece} {pieces = pieces} s a) =
    let n : space ≡ c → ⊥ = λ e. omega arith in
    free_join space n (piece ∷ pieces) (also (visible_free c (omega arith) s) (all_free c (omega arith) a))

fields_free : (c : ℕ) → c < space → {fields : List Field} → All VisibleField fields → All (Free c) (map (join space) fields)
fields_free c l none_left = none_left
fields_free c l (also f a) = also (field_free c l f) (fields_free c l a)

field_back : {field : Field} → VisibleField field → split space (join space field) ≡ field
field_back (visible_field {piece = piece} {pieces = pieces} s a) =
    split_join piece pieces (also (visible_free space (omega arith) s) (all_free space (omega arith) a))

fields_back : {fields : List Field} → All VisibleField fields → map (split space) (map (join space) fields) ≡ fields
fields_back none_left = refl
fields_back (also f a) = rw (field_back f, fields_back a)

pub joined_back : (fields : List Field) → All VisibleField fields → (fields ≡ [] → ⊥) → fields_of (join_fields fields) ≡ fields
unfolding fields_of join_fields
joined_back [] none_left n = absurd (n refl)
joined_back (field ∷ fields) (also f a) n =
    ap (map (split space)) (split_join (join space field) (map (join space) fields) (fields_free tab (omega arith) (also f a))) ∙ fields_back (also f a)

has_field : (line : Line) → line_fields line ≡ [] → ⊥
unfolding line_fields instruction_fields
has_field (ports i o) = cons≢nil
has_field (opens kinds locals) = cons≢nil
has_field (instruction (assign n e)) = cons≢nil
has_field (instruction (schedule n d e)) = cons≢nil
has_field (instruction (branch e k)) = cons≢nil
has_field (instruction (jump k)) = cons≢nil
has_field (instruction (wait names)) = cons≢nil
has_field (instruction (fork calls)) = cons≢nil
has_field (instruction end) = cons≢nil

-- the fields of a written line
pub line_fields_back : (line : Line) → line_has_form line ≡ true → fields_of (line_text line) ≡ line_fields line
line_fields_back line h = joined_back (line_fields line) (line_fields_lem line h) (has_field line)

-- written fields, and so a written line, hold no line feed
pub joined_free : (fields : List Field) → All VisibleField fields → Free line_feed (join_fields fields)
unfolding join_fields
joined_free fields a =
    let n : tab ≡ line_feed → ⊥ = λ e. omega arith in
    free_join tab n (map (join space) fields) (fields_free line_feed (omega arith) a)

pub line_free : (line : Line) → line_has_form line ≡ true → Free line_feed (line_text line)
line_free line h = joined_free (line_fields line) (line_fields_lem line h)
