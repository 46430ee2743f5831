-- A field that was read, from the record that its line was read as; and the words of its cells.
use mathlib.Core.Path.{◌≡◌, refl, sym, ap, ◌∙◌}
use mathlib.Core.Bool.{Bool, true, false, ◌&&◌}
use mathlib.Core.List.{List, [], ◌∷◌}
use mathlib.Core.Option.{Option, none, some}
use Prim.Native.Nat.{ℕ, suc, ◌≤◌, ◌<◌, min}
use native.Mathlib.Omega.{arith}
use lib.Dec.{ltb}
use lib.ListN.{length, get_or, drop}
use borrow.Author.Tests.{lt-ltb, ltb-true}
use Rattle.listing.specs.Lists.{all}
use Rattle.listing.specs.Bytes.{read_figure}
use Rattle.listing.specs.Expressions.{word_range, bind, when, each, read_piece}
use Rattle.listing.specs.Form.{Field, next_field_lem, none_left_lem, read_number}
use Rattle.listing.specs.Questions.{piece_is_there}
use Rattle.listing.specs.Listing as L
use Rattle.table.specs.Areas.{words_of_each, piece_words, name_words}
use Rattle.text_place.specs.Texts.{fields_left, field_end, Within}
use Rattle.text_place.specs.Places.{passed}
use Rattle.text_piece.specs.Pieces.{cap, piece_answer, as_piece}
use Rattle.text_fields.specs.Fields.{as_number, number_answer}
use Rattle.text_place.specs.declared.place.Place.{Place}
use Rattle.text_fields.specs.declared.field.Number.{Number}
use Rattle.text_fields.specs.declared.field.Number.TheVariants as NV
use Rattle.text_fields.proofs.Rows.{Said, said, said_of}
use Rattle.text_jumps.proofs.Chain.{Got, first, got_of, none_of, number_got, end_shut, end_open}
use Rattle.table_cells.specs.Cells.{low_word, cell_kind, cell_value, cells_of}
use Rattle.table_cells.specs.Words.{as_word, word_answer}
use Rattle.text_fields.specs.declared.field.Read.{Read}

pub both_true : (a b : Bool) → (a && b) ≡ true → (a ≡ true) × (b ≡ true)
both_true true b e = (refl, e)
both_true false b e = absurd (let z : ◌≡◌ {A = ℕ} 0 1 = cc in omega arith)

-- a reading that had to pass a test
pub tested_read : {A : Type 0} (test : A → Bool) (o : Option A) (x : A) → bind o (λ y. when (test y) y) ≡ some x → o ≡ some x
tested_read test none x e = e
tested_read {A} test (some y) x e = go (test y) e
  where
    go : (t : Bool) → when t y ≡ some x → some y ≡ some x
    go true e = e
    go false e = absurd (let z : ◌≡◌ {A = ℕ} 0 1 = cc in omega arith)

-- where a field is closed, and the place past it
abbrev pub stop_of : List ℕ → Place → ℕ
stop_of s c = get_or s (field_end s c.offset) 0

abbrev pub next_of : List ℕ → Place → Place
next_of s c = passed s c.line (field_end s c.offset)

-- ── a field in a row ─────────────────────────────────────────────────────────────
module _ {A : Type 0} (f : Field → Option A) (s : List ℕ) (c : Place) (b : ℕ) (k : A → List Field → Option L.Line) (x : L.Line) where
  -- what a row that was read as x, and begins with a field read by f, tells
  pub record FieldWas : Type 0 where
    pub value : A
    pub is : first f s c b ≡ some value
    pub got : Got f s c b value (stop_of s c) (next_of s c)
    pub rest : k value (fields_left (stop_of s c) (drop (next_of s c).offset s)) ≡ some x

  pub field_was : Within s c.offset c.line → next_field_lem f (fields_left b (drop c.offset s)) k ≡ some x → FieldWas
  field_was w h = go (first f s c b) refl
    where
      go : (o : Option A) → first f s c b ≡ o → FieldWas
      go none i = absurd (let y : none ≡ some x = sym (none_of f s c b i k) ∙ h in let z : ◌≡◌ {A = ℕ} 0 1 = cc in omega arith)
      go (some a) i = let g = got_of f s c b a (stop_of s c) (next_of s c) w i refl refl in record { value = a; is = i; got = g; rest = sym (g.on k) ∙ h }

-- a row that ends here
pub shut_was : (s : List ℕ) (at b : ℕ) (y x : L.Line) → none_left_lem (fields_left b (drop at s)) y ≡ some x → b ≡ 9 → ⊥
shut_was s at b y x h i = let e : none ≡ some x = sym (end_open s at b y i) ∙ h in let z : ◌≡◌ {A = ℕ} 0 1 = cc in omega arith

pub last_was : (s : List ℕ) (at b : ℕ) (y x : L.Line) → none_left_lem (fields_left b (drop at s)) y ≡ some x → x ≡ y
last_was s at b y x h = let e : some y ≡ some x = sym (end_shut b (drop at s) y (shut_was s at b y x h)) ∙ h in cc

-- ── a figure as a word ───────────────────────────────────────────────────────────
pub low_word_is : (n : ℕ) → n < word_range → low_word (min n cap) ≡ n
low_word_is n h = let m : min n cap ≡ n = omega arith in rw (m, lt-ltb n word_range h)

pub word_read_is : (s : List ℕ) (c : Place) (b n : ℕ) → first read_number s c b ≡ some n → word_answer s c b ≡ record { value = low_word (min n cap); stop = stop_of s c; next = next_of s c }
word_read_is s c b n e = ap (λ (o : Option ℕ). as_word c (as_number o (stop_of s c) (next_of s c))) e

pub word_read : (s : List ℕ) (c : Place) (b n b' : ℕ) (c' : Place) (v : ℕ) → NV.Read n b' c' ≡ number_answer s c b → v ≡ low_word n
    → record { value = v; stop = b'; next = c' } ≡ word_answer s c b
word_read s c b n b' c' v e l = rw l (ap (as_word c) e)

-- whatever the field holds, the place after it is within the text
pub word_next : (s : List ℕ) (c : Place) (b : ℕ) → Within s c.offset c.line → (r : Read ℕ) → r ≡ word_answer s c b → Within s r.next.offset r.next.line
word_next s c b w r e = rw e (go (number_answer s c b) refl)
  where
    go : (o : Number) → o ≡ number_answer s c b → Within s (as_word c o).next.offset (as_word c o).next.line
    go NV.Bad i = w
    go (NV.Read n b' c') i = (number_got s c b w n b' c' i).1.within

-- what a field of one figure gives
pub record WordIs (s : List ℕ) (c : Place) (n : ℕ) (r : Read ℕ) : Type 0 where
  pub next : r.next ≡ next_of s c
  pub value : n < word_range → r.value ≡ n

pub word_known : (s : List ℕ) (c : Place) (b n : ℕ) (r : Read ℕ) → first read_number s c b ≡ some n → r ≡ word_answer s c b → WordIs s c n r
word_known s c b n r i e =
    let k = e ∙ word_read_is s c b n i in
    record { next = ap (λ (v : Read ℕ). v.next) k; value = λ l. ap (λ (v : Read ℕ). v.value) k ∙ low_word_is n l }

-- ── the cells of an expression ───────────────────────────────────────────────────
pub each_more : {A B : Type 0} (f : A → Option B) (x : A) (xs : List A) (ys : List B) → each f (x ∷ xs) ≡ some ys
    → (z : B) × (zs : List B) × (ys ≡ z ∷ zs) × (f x ≡ some z) × (each f xs ≡ some zs)
unfolding each
each_more {A} {B} f x xs ys h = go (f x) (each f xs) refl refl h
  where
    go : (o : Option B) (p : Option (List B)) → f x ≡ o → each f xs ≡ p → bind o (λ y. bind p (λ zs. some (y ∷ zs))) ≡ some ys
        → (z : B) × (zs : List B) × (ys ≡ z ∷ zs) × (f x ≡ some z) × (each f xs ≡ some zs)
    go none p i j e = absurd (let z : ◌≡◌ {A = ℕ} 0 1 = cc in omega arith)
    go (some z) none i j e = absurd (let z : ◌≡◌ {A = ℕ} 0 1 = cc in omega arith)
    go (some z) (some zs) i j e = (z, zs, cc, i, j)

pub each_none : {A B : Type 0} (f : A → Option B) (ys : List B) → each f [] ≡ some ys → ys ≡ []
unfolding each
each_none f ys h = cc

pub each_length : {A B : Type 0} (f : A → Option B) (xs : List A) (ys : List B) → each f xs ≡ some ys → length ys ≡ length xs
each_length f [] ys h = rw (each_none f ys h)
each_length f (x ∷ xs) ys h = let m = each_more f x xs ys h in rw m.2 (ap suc (each_length f xs m.1 m.4))

module _ (names : ℕ) (h : names ≤ word_range) where
  piece_cell : (p : L.Piece) → piece_is_there names p ≡ true → cell_kind (as_piece (some p)) 1 ∷ (cell_value (as_piece (some p)) ∷ []) ≡ piece_words p
  unfolding piece_is_there piece_words
  piece_cell (L.Piece.literal v) e = refl
  piece_cell (L.Piece.value_of n) e = rw (low_word_is n (let l = ltb-true n names e in omega arith))
  piece_cell (L.Piece.written_mark n) e = rw (low_word_is n (let l = ltb-true n names e in omega arith))
  piece_cell L.Piece.plus e = refl
  piece_cell L.Piece.minus e = refl
  piece_cell L.Piece.times e = refl
  piece_cell L.Piece.less e = refl
  piece_cell L.Piece.divide e = refl
  piece_cell L.Piece.remainder e = refl

  pub pieces_cells : (ws : Field) (x : L.Expression) → each read_piece ws ≡ some x → all (piece_is_there names) x ≡ true → cells_of 1 ws ≡ words_of_each piece_words x
  unfolding cells_of words_of_each all
  pieces_cells [] x e t = rw (each_none read_piece x e)
  pieces_cells (w ∷ ws) x e t =
      let m = each_more read_piece w ws x e in
      let u : all (piece_is_there names) (m.0 ∷ m.1) ≡ true = rw m.2 at t in
      let v = both_true (piece_is_there names m.0) (all (piece_is_there names) m.1) u in
      let i = pieces_cells ws m.1 m.4 v.1 in
      rw (m.2, m.3, i, ← piece_cell m.0 v.0)

  -- names in a row
  pub name_cell : (w : List ℕ) (n : ℕ) → read_figure w ≡ some n → ltb n names ≡ true → cell_kind (piece_answer w) 0 ∷ (cell_value (piece_answer w) ∷ []) ≡ name_words n
  unfolding name_words
  name_cell w n e t = go (read_figure w) e (said_of w)
    where
      go : (o : Option ℕ) → o ≡ some n → Said w o → cell_kind (piece_answer w) 0 ∷ (cell_value (piece_answer w) ∷ []) ≡ 0 ∷ (n ∷ [])
      go none e d = absurd (let z : ◌≡◌ {A = ℕ} 0 1 = cc in omega arith)
      go (some m) e (said a) = let i : m ≡ n = cc in rw (a, i, low_word_is n (let l = ltb-true n names t in omega arith))

  pub names_cells : (ws : Field) (ns : List ℕ) → each read_figure ws ≡ some ns → all (λ n. ltb n names) ns ≡ true → cells_of 0 ws ≡ words_of_each name_words ns
  unfolding cells_of words_of_each all
  names_cells [] ns e t = rw (each_none read_figure ns e)
  names_cells (w ∷ ws) ns e t =
      let m = each_more read_figure w ws ns e in
      let u : all (λ n. ltb n names) (m.0 ∷ m.1) ≡ true = rw m.2 at t in
      let v = both_true (ltb m.0 names) (all (λ n. ltb n names) m.1) u in
      let i = names_cells ws m.1 m.4 v.1 in
      rw (m.2, i, ← name_cell w m.0 m.3 v.0)
