-- A field that is read is the text of what was read, which has form.
use mathlib.Core.Path.{◌≡◌, refl}
use mathlib.Core.Bool.{Bool, true, false, cond, ◌&&◌}
use mathlib.Core.List.{List, [], ◌∷◌, map}
use mathlib.Core.Option.{Option, none, some}
use mathlib.Core.Logic.{◌⊎◌, ⊎_elim, inl, inr}
use Prim.Native.Nat.{ℕ, ◌-◌, ◌≤◌, ◌<◌}
use native.Mathlib.Omega.{arith}
use lib.Dec.{eqb, ltb, leb}
use borrow.Author.Tests.{lt-ltb, le-ltb, ltb-true, leb-true, eqb-true}
use Rattle.listing.specs.Lists.{all}
use Rattle.listing.specs.Bytes.{Bytes, read_figure, figure}
use Rattle.listing.specs.Expressions.{bind, when, each, alone, half_range, word_range, read_literal, read_piece, leaves_one, read_expression}
use Rattle.listing.specs.Form.{Field, next_field_lem, none_left_lem, one_piece_lem, one_to, read_number, read_kind, read_kinds, most_names_awaited, read_names, read_call, read_letter}
use Rattle.listing.specs.Text.{signed_figure, piece_text, kind_text, kinds_text, figure_field, expression_field, call_field}
use Rattle.listing.specs.WellFormed.{piece_has_form, expression_has_form}
use Rattle.listing.specs.Listing.{Piece, literal, value_of, written_mark, plus, minus, times, less, divide, remainder, Expression, Call, Kind, by_reference, by_value}
use Rattle.listing.proofs.Tests.{no_reading, and_left, and_right}
use Rattle.listing.proofs.Figures.{figure-read_figure}

-- ── a reading taken apart ────────────────────────────────────────────────────────
pub record Bound {A B : Type 0} (o : Option A) (next : A → Option B) (b : B) : Type 0 where
  pub got : A
  pub from : o ≡ some got
  pub on : next got ≡ some b

pub bound : {A B : Type 0} (o : Option A) (next : A → Option B) (b : B) → bind o next ≡ some b → Bound o next b
bound none next b e = no_reading e
bound (some a) next b e = record { got = a; from = refl; on = e }

pub passed : {A : Type 0} (t : Bool) (a b : A) → when t a ≡ some b → (t ≡ true) × (a ≡ b)
passed true a b e = (refl, cc)
passed false a b e = no_reading e

pub record NextRead {A B : Type 0} (read : Field → Option A) (fields : List Field) (next : A → List Field → Option B) (b : B) : Type 0 where
  pub got : A
  pub field : Field
  pub rest : List Field
  pub is : fields ≡ field ∷ rest
  pub from : read field ≡ some got
  pub on : next got rest ≡ some b

pub next_read : {A B : Type 0} (read : Field → Option A) (fields : List Field) (next : A → List Field → Option B) (b : B)
    → next_field_lem read fields next ≡ some b → NextRead read fields next b
unfolding next_field_lem
next_read read [] next b e = no_reading e
next_read read (field ∷ fields) next b e =
    let u = bound (read field) (λ a. next a fields) b e in
    record { got = u.got; field = field; rest = fields; is = refl; from = u.from; on = u.on }

pub none_left_read : {A : Type 0} (fields : List Field) (a b : A) → none_left_lem fields a ≡ some b → (fields ≡ []) × (a ≡ b)
unfolding none_left_lem
none_left_read [] a b e = (refl, cc)
none_left_read (field ∷ fields) a b e = no_reading e

alone_read : {A : Type 0} (rest : Bytes) (a b : A) → alone rest a ≡ some b → (rest ≡ []) × (a ≡ b)
unfolding alone
alone_read [] a b e = (refl, cc)
alone_read (byte ∷ rest) a b e = no_reading e

-- a choice by a byte
pub chosen : {A : Type 0} (byte c : ℕ) (x y : Option A) (b : A) → cond (eqb byte c) x y ≡ some b → ((byte ≡ c) × (x ≡ some b)) ⊎ (y ≡ some b)
chosen byte c x y b = go (eqb byte c) refl
  where
    go : (t : Bool) → eqb byte c ≡ t → cond t x y ≡ some b → ((byte ≡ c) × (x ≡ some b)) ⊎ (y ≡ some b)
    go true e h = inl (eqb-true byte c e, h)
    go false e h = inr h

-- ── lists and fields of one piece, by what reads an element ──────────────────────
module _ {A B : Type 0} (read : A → Option B) (text : B → A) (back : (a : A) (b : B) → read a ≡ some b → text b ≡ a) where
  pub each_back : (as' : List A) (bs : List B) → each read as' ≡ some bs → map text bs ≡ as'
  unfolding each
  each_back [] bs e = let z : bs ≡ [] = cc in rw z
  each_back (a ∷ as') bs e =
      let u = bound (read a) _ bs e in
      let v = bound (each read as') _ bs u.on in
      let z : bs ≡ u.got ∷ v.got = cc v.on in
      rw (z, back a u.got u.from, each_back as' v.got v.from)

pub one_piece_back : {A : Type 0} (read : Bytes → Option A) (text : A → Bytes) → ((piece : Bytes) (a : A) → read piece ≡ some a → text a ≡ piece)
    → (field : Field) (a : A) → one_piece_lem read field ≡ some a → text a ∷ [] ≡ field
unfolding one_piece_lem
one_piece_back read text back [] a e = no_reading e
one_piece_back read text back (piece ∷ []) a e = rw (back piece a e)
one_piece_back read text back (piece ∷ next ∷ pieces) a e = no_reading e

-- ── pieces ───────────────────────────────────────────────────────────────────────
pub record PieceBack (piece : Bytes) (p : Piece) : Type 0 where
  pub is : piece_text p ≡ piece
  pub form : piece_has_form p ≡ true

pub literal_back : (rest : Bytes) (p : Piece) → read_literal rest ≡ some p → PieceBack (35 ∷ rest) p
unfolding read_literal piece_text signed_figure piece_has_form
literal_back [] p e = no_reading e
literal_back (byte ∷ rest) p e =
    ⊎_elim (λ h. negative h.0 (bound (read_figure rest) _ p h.1)) (λ h. positive (bound (read_figure (byte ∷ rest)) _ p h)) (chosen byte 45 _ _ p e)
  where
    negative : byte ≡ 45 → Bound (read_figure rest) (λ n. when (leb 1 n && leb n half_range) (literal (word_range - n))) p → PieceBack (35 ∷ byte ∷ rest) p
    negative minus-sign u =
        let n = u.got in
        let q = passed (leb 1 n && leb n half_range) (literal (word_range - n)) p u.on in
        let low : 1 ≤ n = leb-true 1 n (and_left (leb 1 n) (leb n half_range) q.0) in
        let high : n ≤ half_range = leb-true n half_range (and_right (leb 1 n) (leb n half_range) q.0) in
        let back : word_range - (word_range - n) ≡ n = omega arith in
        let large : ltb (word_range - n) half_range ≡ false = le-ltb (word_range - n) half_range (omega arith) in
        rw (← q.1) (record { is = rw (large, back, figure-read_figure rest n u.from, minus-sign); form = lt-ltb (word_range - n) word_range (omega arith) })

    positive : Bound (read_figure (byte ∷ rest)) (λ n. when (ltb n half_range) (literal n)) p → PieceBack (35 ∷ byte ∷ rest) p
    positive u =
        let n = u.got in
        let q = passed (ltb n half_range) (literal n) p u.on in
        let small : n < half_range = ltb-true n half_range q.0 in
        rw (← q.1) (record { is = rw (q.0, figure-read_figure (byte ∷ rest) n u.from); form = lt-ltb n word_range (omega arith) })

operator_back : (byte c : ℕ) (rest : Bytes) (operator p : Piece) → piece_has_form operator ≡ true → piece_text operator ≡ c ∷ []
    → (byte ≡ c) × (alone rest operator ≡ some p) → PieceBack (byte ∷ rest) p
operator_back byte c rest operator p form is h =
    let u = alone_read rest operator p h.1 in
    rw (← u.1, u.0, h.0) (record { is = is; form = form })

piece_back : (piece : Bytes) (p : Piece) → read_piece piece ≡ some p → PieceBack piece p
unfolding read_piece piece_text piece_has_form
piece_back [] p e = no_reading e
piece_back (byte ∷ rest) p e =
    ⊎_elim (λ h. rw h.0 (literal_back rest p h.1)) (λ e.
    ⊎_elim (λ h. marked h) (λ e.
    ⊎_elim (λ h. operator_back byte 43 rest plus p refl refl h) (λ e.
    ⊎_elim (λ h. operator_back byte 45 rest minus p refl refl h) (λ e.
    ⊎_elim (λ h. operator_back byte 42 rest times p refl refl h) (λ e.
    ⊎_elim (λ h. operator_back byte 60 rest less p refl refl h) (λ e.
    ⊎_elim (λ h. operator_back byte 47 rest divide p refl refl h) (λ e.
    ⊎_elim (λ h. operator_back byte 37 rest remainder p refl refl h) (λ e. valued e)
    (chosen byte 37 _ _ p e)) (chosen byte 47 _ _ p e)) (chosen byte 60 _ _ p e)) (chosen byte 42 _ _ p e)) (chosen byte 45 _ _ p e))
    (chosen byte 43 _ _ p e)) (chosen byte 64 _ _ p e)) (chosen byte 35 _ _ p e)
  where
    marked : (byte ≡ 64) × (bind (read_figure rest) (λ n. some (written_mark n)) ≡ some p) → PieceBack (byte ∷ rest) p
    marked h =
        let u = bound (read_figure rest) (λ n. some (written_mark n)) p h.1 in
        let q : written_mark u.got ≡ p = cc u.on in
        rw (← q, h.0) (record { is = rw (figure-read_figure rest u.got u.from); form = refl })

    valued : bind (read_figure (byte ∷ rest)) (λ n. some (value_of n)) ≡ some p → PieceBack (byte ∷ rest) p
    valued h =
        let u = bound (read_figure (byte ∷ rest)) (λ n. some (value_of n)) p h in
        let q : value_of u.got ≡ p = cc u.on in
        rw (← q) (record { is = figure-read_figure (byte ∷ rest) u.got u.from; form = refl })

-- ── fields ───────────────────────────────────────────────────────────────────────
pieces_back : (pieces : Field) (e : Expression) → each read_piece pieces ≡ some e → (expression_field e ≡ pieces) × (all piece_has_form e ≡ true)
unfolding each all
pieces_back [] e h = let z : e ≡ [] = cc in (rw z, rw z)
pieces_back (piece ∷ pieces) e h =
    let u = bound (read_piece piece) _ e h in
    let v = bound (each read_piece pieces) _ e u.on in
    let z : e ≡ u.got ∷ v.got = cc v.on in
    let p = piece_back piece u.got u.from in
    let q = pieces_back pieces v.got v.from in
    (rw (z, p.is, q.0), rw (z, p.form, q.1))

pub expression_back : (field : Field) (e : Expression) → read_expression field ≡ some e → (expression_field e ≡ field) × (expression_has_form e ≡ true)
unfolding read_expression
expression_back field e h =
    let u = bound (each read_piece field) _ e h in
    let t = passed (leaves_one u.got) u.got e u.on in
    let q = pieces_back field u.got u.from in
    rw (← t.1) (q.0, rw (q.1, t.0))

pub number_back : (field : Field) (n : ℕ) → read_number field ≡ some n → figure_field n ≡ field
number_back = one_piece_back read_figure figure figure-read_figure

pub names_back : (field : Field) (names : List ℕ) → read_names field ≡ some names → (map figure names ≡ field) × (one_to most_names_awaited names ≡ true)
unfolding read_names
names_back field names h =
    let u = bound (each read_figure field) _ names h in
    let t = passed (one_to most_names_awaited u.got) u.got names u.on in
    rw (← t.1) (each_back read_figure figure figure-read_figure field u.got u.from, t.0)

pub call_back : (field : Field) (call : Call) → read_call field ≡ some call → call_field call ≡ field
unfolding read_call call_field
call_back [] call h = no_reading h
call_back (piece ∷ pieces) call h =
    let u = bound (read_figure piece) _ call h in
    let v = bound (each read_figure pieces) _ call u.on in
    let z : record { callee = u.got; arguments = v.got } ≡ call = cc v.on in
    rw (← z, figure-read_figure piece u.got u.from, each_back read_figure figure figure-read_figure pieces v.got v.from)

kind_back : (byte : ℕ) (kind : Kind) → read_kind byte ≡ some kind → kind_text kind ≡ byte
unfolding read_kind kind_text
kind_back byte kind h =
    ⊎_elim (λ u. let z : kind ≡ by_reference = cc u.1 in rw (z, u.0)) (λ e.
    ⊎_elim (λ u. let z : kind ≡ by_value = cc u.1 in rw (z, u.0)) (λ n. no_reading n)
    (chosen byte 118 _ _ kind e)) (chosen byte 114 _ _ kind h)

pub kinds_back : (piece : Bytes) (kinds : List Kind) → read_kinds piece ≡ some kinds → kinds_text kinds ≡ piece
unfolding read_kinds kinds_text each
kinds_back [] kinds h = no_reading h
kinds_back (byte ∷ rest) kinds h =
    ⊎_elim (λ u. let v = alone_read rest [] kinds u.1 in rw (← v.1, v.0, u.0))
    (λ e. letters kinds e (each_back read_kind kind_text kind_back (byte ∷ rest) kinds e)) (chosen byte 45 _ _ kinds h)
  where
    letters : (kinds : List Kind) → each read_kind (byte ∷ rest) ≡ some kinds → map kind_text kinds ≡ byte ∷ rest → kinds_text kinds ≡ byte ∷ rest
    letters [] e i = absurd (let z : ◌≡◌ {A = ℕ} 0 1 = cc in omega arith)
    letters (kind ∷ kinds) e i = i

pub letter_back : (piece : Bytes) (letter : ℕ) → read_letter piece ≡ some letter → letter ∷ [] ≡ piece
unfolding read_letter
letter_back [] letter h = no_reading h
letter_back (byte ∷ rest) letter h = let u = alone_read rest byte letter h in rw (u.0, u.1)
