-- A field of one piece: what its place tells of any reading, and what whoever reads on is told.
use mathlib.Core.Path.{◌≡◌, refl, sym, ap, ◌∙◌}
use mathlib.Core.Bool.{Bool, true, false, cond}
use mathlib.Core.List.{List, [], ◌∷◌}
use mathlib.Core.Option.{Option, none, some}
use Prim.Native.Nat.{ℕ, ◌+◌, ◌≤◌}
use Rattle.std.specs.Prelude.{Some, None}
use Rattle.std.specs.Prelude.{Option as Answer}
use native.Mathlib.Omega.{arith}
use lib.Dec.{eqb}
use lib.ListN.{length, get_or, drop}
use lib.Seq.{slice}
use borrow.Author.Tests.{eqb-true, eqb-false}
use Rattle.listing.specs.Bytes.{Bytes}
use Rattle.listing.specs.Expressions.{bind}
use Rattle.listing.specs.Form.{Field, next_field_lem, one_piece_lem}
use Rattle.listing.proofs.Splits.{split_has_part}
use Rattle.text_place.specs.Texts.{first_piece_lem, first_field, ends_piece, fields_left, piece_end, field_end, Within}
use Rattle.text_place.specs.Places.{passed, taken_at}
use Rattle.text_place.specs.declared.place.Taken.{Taken}
use Rattle.text_place.specs.declared.place.Place.{Place}
use Rattle.text_place.proofs.Places.{left_open, pieces_turn, pieces_last, field_last, before_slice, end_in}
use Rattle.text_jumps.specs.Records.{end_stop, end_next}
use Rattle.text_jumps.proofs.Chain as chain
use Rattle.session_trace_lines.specs.Figures.{as_bounded}
use Rattle.session_trace_lines.specs.Fields.{piece_answer, as_figure, figure_answer}
use Rattle.session_trace_lines.specs.declared.figure.Bounded.{Bounded}
use Rattle.session_trace_lines.specs.declared.figure.Bounded.TheVariants as BV
use Rattle.session_trace_lines.specs.declared.field.Figure.{Figure}

-- ── a field of one piece, for any reading of the piece ───────────────────────────
-- a field that was read, and what is left after it
pub record Passed (s : List ℕ) (c : Place) (b : ℕ) (b' : ℕ) (c' : Place) : Type 0 where
  pub within : Within s c'.offset c'.line
  pub stops : end_stop s c' b' ≡ end_stop s c b
  pub nexts : end_next s c' b' ≡ end_next s c b

-- its one piece
pub record Piece (s : List ℕ) (c : Place) (b : ℕ) (t : Taken) : Type 0 where
  pub past : Passed s c b t.stop t.next
  pub rising : t.from ≤ t.to
  pub inside : t.to ≤ length s
  pub stop_is : get_or s (field_end s c.offset) 0 ≡ t.stop
  pub next_is_lem : passed s c.line (field_end s c.offset) ≡ t.next
  pub fields : fields_left b (drop c.offset s) ≡ (slice t.from t.to s ∷ []) ∷ fields_left t.stop (drop t.next.offset s)

module _ (s : List ℕ) (c : Place) (b : ℕ) where
  abbrev end : ℕ
  end = piece_end s c.offset

  -- the piece itself, as a reading
  whole_piece : b ≡ 9 → (get_or s end 0 ≡ 32 → ⊥) → chain.first (one_piece_lem (λ (w : Bytes). some w)) s c b ≡ some (first_piece_lem (drop c.offset s))
  unfolding next_field_lem one_piece_lem
  whole_piece e n = rw (e, left_open s c.offset, pieces_last s c.offset n)

  made : Within s c.offset c.line → b ≡ 9 → (get_or s end 0 ≡ 32 → ⊥) → Piece s c b (taken_at s c)
  made w e n =
      let last = sym (field_last s c.offset n) in
      let stop_is : get_or s (field_end s c.offset) 0 ≡ get_or s end 0 = ap (λ (x : ℕ). get_or s x 0) last in
      let next_is_lem : passed s c.line (field_end s c.offset) ≡ passed s c.line end = ap (passed s c.line) last in
      let g = chain.got_of (one_piece_lem (λ (w : Bytes). some w)) s c b _ _ _ w (whole_piece e n) stop_is next_is_lem in
      record {
        past = record { within = g.within; stops = g.stops; nexts = g.nexts };
        rising = omega arith;
        inside = end_in ends_piece s c.offset w.inside;
        stop_is = stop_is;
        next_is_lem = next_is_lem;
        fields = g.fields ∙ rw (pieces_last s c.offset n, before_slice ends_piece s c.offset w.inside);
      }

  pub piece_got : Within s c.offset c.line → (t : Taken) → Some t ≡ piece_answer s c b → Piece s c b t
  piece_got w t e = go (eqb b 9) (eqb (get_or s end 0) 32) refl refl e
    where
      go : (u v : Bool) → eqb b 9 ≡ u → eqb (get_or s end 0) 32 ≡ v → Some t ≡ cond u (cond v None (Some (taken_at s c))) None → Piece s c b t
      go false v i j e = absurd (let z : ◌≡◌ {A = ℕ} 0 1 = cc in omega arith)
      go true true i j e = absurd (let z : ◌≡◌ {A = ℕ} 0 1 = cc in omega arith)
      go true false i j e = let f : t ≡ taken_at s c = cc in rw f (made w (eqb-true b 9 i) (eqb-false (get_or s end 0) 32 j))

  -- none for any reading
  pub piece_none : {A B : Type 0} → None ≡ piece_answer s c b → (read : Bytes → Option A) (k : A → List Field → Option B)
      → next_field_lem (one_piece_lem read) (fields_left b (drop c.offset s)) k ≡ none
  unfolding next_field_lem one_piece_lem fields_left
  piece_none {A} {B} e read k = go (eqb b 9) (eqb (get_or s end 0) 32) refl refl e
    where
      go : (t u : Bool) → eqb b 9 ≡ t → eqb (get_or s end 0) 32 ≡ u
          → None ≡ cond t (cond u None (Some (taken_at s c))) None
          → next_field_lem (one_piece_lem read) (fields_left b (drop c.offset s)) k ≡ none
      go false u i j e = rw i
      go true true i j e =
          let p = split_has_part 32 (first_field (drop (end + 1) s)) in
          rw (eqb-true b 9 i) (rw (left_open s c.offset, pieces_turn s c.offset (eqb-true (get_or s end 0) 32 j), p.is))
      go true false i j e = absurd (let z : ◌≡◌ {A = ℕ} 0 1 = cc in omega arith)

  -- the piece read, and the fields after it handed on
  pub piece_on : {A B : Type 0} {t : Taken} → Piece s c b t → (read : Bytes → Option A) (k : A → List Field → Option B)
      → next_field_lem (one_piece_lem read) (fields_left b (drop c.offset s)) k ≡ bind (read (slice t.from t.to s)) (λ a. k a (fields_left t.stop (drop t.next.offset s)))
  unfolding next_field_lem one_piece_lem
  piece_on p read k = rw p.fields

-- ── numbers ──────────────────────────────────────────────────────────────────────
abbrev pub figured : Bounded → ℕ → Place → Answer Figure
figured BV.Bad stop next = None
figured (BV.Value n) stop next = Some (record { number = n; stop = stop; next = next })

figured_of : (o : Option ℕ) (b : ℕ) (p : Place) → as_figure (bind o (λ n. some n)) b p ≡ figured (as_bounded o) b p
figured_of none b p = refl
figured_of (some n) b p = refl

module _ (read : Bytes → Option ℕ) (s : List ℕ) (c : Place) (b : ℕ) where
  pub figure_none : None ≡ piece_answer s c b → None ≡ figure_answer read s c b
  figure_none e = rw (piece_none s c b e read (λ n fields. some n))

  pub figure_by : {t : Taken} → Piece s c b t → (r : Bounded) → r ≡ as_bounded (read (slice t.from t.to s))
      → figured r t.stop t.next ≡ figure_answer read s c b
  figure_by {t} p r e =
      let stop = get_or s (field_end s c.offset) 0 in
      let next = passed s c.line (field_end s c.offset) in
      sym (ap (λ (o : Option ℕ). as_figure o stop next) (piece_on s c b p read (λ n fields. some n)) ∙ figured_of (read (slice t.from t.to s)) stop next
      ∙ ap (λ (q : Bounded). figured q stop next) (sym e) ∙ ap (λ (x : ℕ). figured r x next) p.stop_is ∙ ap (figured r t.stop) p.next_is_lem)

  -- what a number that was read tells whoever reads on
  pub figure_got : Within s c.offset c.line → (f : Figure) → Some f ≡ figure_answer read s c b → chain.Got (one_piece_lem read) s c b f.number f.stop f.next
  figure_got w f e = go (chain.first (one_piece_lem read) s c b) refl e
    where
      go : (o : Option ℕ) → chain.first (one_piece_lem read) s c b ≡ o → Some f ≡ as_figure o (get_or s (field_end s c.offset) 0) (passed s c.line (field_end s c.offset))
          → chain.Got (one_piece_lem read) s c b f.number f.stop f.next
      go none i e = absurd (let z : ◌≡◌ {A = ℕ} 0 1 = cc in omega arith)
      go (some x) i e =
          let same : f ≡ record { number = x; stop = get_or s (field_end s c.offset) 0; next = passed s c.line (field_end s c.offset) } = cc in
          chain.got_of (one_piece_lem read) s c b f.number f.stop f.next w (i ∙ ap (λ (g : Figure). some g.number) (sym same)) (ap (λ (g : Figure). g.stop) (sym same)) (ap (λ (g : Figure). g.next) (sym same))

  pub figure_on : {B : Type 0} {n b' : ℕ} {c' : Place} → chain.Got (one_piece_lem read) s c b n b' c' → (k : ℕ → List Field → Option B)
      → next_field_lem (one_piece_lem read) (fields_left b (drop c.offset s)) k ≡ k n (fields_left b' (drop c'.offset s))
  unfolding next_field_lem
  figure_on g k = rw (g.fields, g.read)

  pub figure_unread : {B : Type 0} → None ≡ figure_answer read s c b → (k : ℕ → List Field → Option B)
      → next_field_lem (one_piece_lem read) (fields_left b (drop c.offset s)) k ≡ none
  unfolding next_field_lem
  figure_unread {B} e k = go (fields_left b (drop c.offset s)) e
    where
      bound : (o : Option ℕ) (fs : List Field) (x : ℕ) (p : Place) → None ≡ as_figure (bind o (λ a. some a)) x p → bind o (λ a. k a fs) ≡ none
      bound none fs x p e = refl
      bound (some a) fs x p e = absurd (let z : ◌≡◌ {A = ℕ} 0 1 = cc in omega arith)

      go : (fs : List Field) → None ≡ as_figure (next_field_lem (one_piece_lem read) fs (λ n fields. some n)) (get_or s (field_end s c.offset) 0) (passed s c.line (field_end s c.offset))
          → next_field_lem (one_piece_lem read) fs k ≡ none
      go [] e = refl
      go (f ∷ fs) e = bound (one_piece_lem read f) fs _ _ e
