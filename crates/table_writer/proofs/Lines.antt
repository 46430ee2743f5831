-- A line, from its letter to what is written for the fields after it.
use mathlib.Core.Path.{◌≡◌, refl, sym, ap, ◌∙◌}
use mathlib.Core.Bool.{Bool, true, false, cond}
use mathlib.Core.List.{List, [], ◌∷◌}
use mathlib.Core.Option.{Option, none, some}
use Prim.Native.Nat.{ℕ, suc, ◌<◌}
use native.Mathlib.Omega.{arith}
use lib.Dec.{eqb}
use lib.ListN.{length, get_or, drop}
use lib.Seq.{slice, slice-cons}
use borrow.Author.Tests.{ne_eqb}
use Rattle.listing.specs.Expressions.{alone}
use Rattle.listing.specs.Form.{Field, one_piece_lem, read_end, read_letter, read_by_letter, read_record}
use Rattle.listing.specs.Listing as L
use Rattle.text_place.specs.Texts.{first_piece_lem, ends_piece, fields_left, piece_end, line_end, Within}
use Rattle.text_place.specs.Places.{passed, taken_at}
use Rattle.text_place.specs.declared.place.Place.{Place}
use Rattle.text_place.specs.declared.place.Taken.{Taken}
use Rattle.text_place.proofs.Places.{before_slice}
use Rattle.text_jumps.specs.Records.{end_next}
use Rattle.table_lines.specs.Lines.{words_after, Good, line_of, held_for, Writes, rest_at, WritesRest, line_at, WritesLine}
use Rattle.table_lines.specs.declared.line.WrittenLine.{WrittenLine}
use Rattle.table_cells.proofs.Fields.{stop_of, next_of, FieldWas, field_was}
use Rattle.table_lines.proofs.Openings.{one_read, one_stop, one_next, piece_in}

-- ── the fields after the letter ──────────────────────────────────────────────────
-- a `P` or an `R`, which writes no word
pub writes_nothing : (o : Option L.Line) (end : Place) (e a : ℕ) (t : List ℕ) (r : WrittenLine) → t ≡ words_after (line_of o) e a t → r ≡ held_for o end → Writes o end e a t t r
writes_nothing o end e a t r k h = record { answer = h; words = k }

-- where no other letter is left, the fields are read as those of an `E`
pub letter_left : (letter : ℕ) (fields : List Field) → Good (read_by_letter letter fields)
    → (letter ≡ 80 → ⊥) → (letter ≡ 82 → ⊥) → (letter ≡ 83 → ⊥) → (letter ≡ 65 → ⊥) → (letter ≡ 85 → ⊥) → (letter ≡ 71 → ⊥) → (letter ≡ 87 → ⊥) → (letter ≡ 70 → ⊥)
    → read_by_letter letter fields ≡ read_end fields
unfolding read_by_letter
letter_left letter fields g p r s a u j w f = go (eqb letter 69) refl
  where
    left : read_by_letter letter fields ≡ cond (eqb letter 69) (read_end fields) none
    left = rw (ne_eqb letter 80 p, ne_eqb letter 82 r, ne_eqb letter 83 s, ne_eqb letter 65 a, ne_eqb letter 85 u, ne_eqb letter 71 j, ne_eqb letter 87 w, ne_eqb letter 70 f)

    go : (t : Bool) → eqb letter 69 ≡ t → read_by_letter letter fields ≡ read_end fields
    go true i = left ∙ ap (λ (t : Bool). cond t (read_end fields) none) i
    go false i =
        let two : none ≡ some g.line = sym (left ∙ ap (λ (t : Bool). cond t (read_end fields) none) i) ∙ g.reads in
        absurd (let z : ◌≡◌ {A = ℕ} 0 1 = cc in omega arith)

-- ── the letter ───────────────────────────────────────────────────────────────────
letter_alone : (w : List ℕ) (letter : ℕ) → read_letter w ≡ some letter → w ≡ letter ∷ []
unfolding read_letter alone
letter_alone [] letter h = absurd (let z : ◌≡◌ {A = ℕ} 0 1 = cc in omega arith)
letter_alone (b ∷ []) letter h = let z : b ≡ letter = cc in rw z
letter_alone (b ∷ (d ∷ w)) letter h = absurd (let z : ◌≡◌ {A = ℕ} 0 1 = cc in omega arith)

module _ (s : List ℕ) (c : Place) (w : Within s c.offset c.line) (p : Taken) (ep : p ≡ taken_at s c) where
  line_was : (x : L.Line) → line_at s c ≡ some x → FieldWas (one_piece_lem read_letter) s c 9 read_by_letter x
  unfolding read_record fields_left
  line_was x h = field_was (one_piece_lem read_letter) s c 9 read_by_letter x w h

  whole_end : end_next s c 9 ≡ passed s c.line (line_end s c.offset)
  unfolding end_next
  whole_end = refl

  module _ (x : L.Line) (h : line_at s c ≡ some x) where
    abbrev was : FieldWas (one_piece_lem read_letter) s c 9 read_by_letter x
    was = line_was x h

    one_letter : first_piece_lem (drop c.offset s) ≡ was.value ∷ []
    one_letter = letter_alone (first_piece_lem (drop c.offset s)) was.value (one_read read_letter s c was.value was.got.read)

    from_is : p.from ≡ c.offset
    from_is = ap (λ (t : Taken). t.from) ep

    to_is : p.to ≡ piece_end s c.offset
    to_is = ap (λ (t : Taken). t.to) ep

    some_byte : p.from < p.to
    some_byte = omega (arith, from_is, to_is, ap length one_letter)

    letter_is : was.value ≡ get_or s p.from 0
    letter_is =
        let text : slice p.from p.to s ≡ was.value ∷ [] =
        ap (λ (i : ℕ). slice i p.to s) from_is ∙ ap (λ (i : ℕ). slice c.offset i s) to_is ∙ before_slice ends_piece s c.offset w.inside ∙ one_letter in
        let both : was.value ∷ [] ≡ get_or s p.from 0 ∷ slice (suc p.from) p.to s = sym text ∙ slice-cons p.from p.to s 0 some_byte (piece_in s c w p ep).1 in
        cc

    stop_is : stop_of s c ≡ p.stop
    stop_is = sym (one_stop read_letter s c was.value was.got.read p ep)

    next_is_lem : next_of s c ≡ p.next
    next_is_lem = sym (one_next read_letter s c was.value was.got.read p ep)

    rest_is_lem : read_by_letter (get_or s p.from 0) (fields_left p.stop (drop p.next.offset s)) ≡ some x
    rest_is_lem =
        ap (λ (l : ℕ). read_by_letter l (fields_left p.stop (drop p.next.offset s))) (sym letter_is)
        ∙ ap (λ (b : ℕ). read_by_letter was.value (fields_left b (drop p.next.offset s))) (sym stop_is)
        ∙ ap (λ (d : Place). read_by_letter was.value (fields_left (stop_of s c) (drop d.offset s))) (sym next_is_lem) ∙ was.rest

    end_is : end_next s p.next p.stop ≡ passed s c.line (line_end s c.offset)
    end_is = ap (λ (b : ℕ). end_next s p.next b) (sym stop_is) ∙ ap (λ (d : Place). end_next s d (stop_of s c)) (sym next_is_lem) ∙ was.got.nexts ∙ whole_end

  -- what is written for the fields after the letter is written for the line
  module _ (g : Good (line_at s c)) where
    pub letter_in : p.from < length s
    letter_in = omega (arith, some_byte g.line g.reads, (piece_in s c w p ep).1)

    pub rest_good : Good (rest_at (read_by_letter (get_or s p.from 0)) s p.next p.stop)
    rest_good = record { line = g.line; reads = rest_is_lem g.line g.reads; fits = g.fits }

    pub line_written : (e a : ℕ) (t after : List ℕ) (r : WrittenLine) → WritesRest (read_by_letter (get_or s p.from 0)) s p.next p.stop e a t after r → WritesLine s c e a t after r
    line_written e a t after r v =
        let same : rest_at (read_by_letter (get_or s p.from 0)) s p.next p.stop ≡ line_at s c = rest_is_lem g.line g.reads ∙ sym g.reads in
        record {
          answer = v.answer ∙ (ap (λ (o : Option L.Line). held_for o (end_next s p.next p.stop)) same ∙ ap (held_for (line_at s c)) (end_is g.line g.reads));
          words = v.words ∙ ap (λ (o : Option L.Line). words_after (line_of o) e a t) same;
        }
