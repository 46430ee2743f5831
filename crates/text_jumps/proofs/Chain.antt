-- One field after another: what a field that was read tells whoever reads on.
use Rattle.std.specs.Prelude as P
use Rattle.std.specs.Prelude.{Some, None}
use mathlib.Core.Path.{◌≡◌, refl, sym, ap, ◌∙◌}
use mathlib.Core.Bool.{Bool, true, false, cond, ◌&&◌}
use mathlib.Core.List.{List, [], ◌∷◌}
use mathlib.Core.Option.{Option, none, some}
use Prim.Native.Nat.{ℕ, suc, ◌+◌, ◌≤◌, min}
use native.Mathlib.Omega.{arith}
use lib.Dec.{eqb, ltb}
use lib.ListN.{length, get_or, drop, length-append}
use lib.Seq.{get_or-drop}
use borrow.Author.Tests.{lt-ltb, eq-eqb, ne_eqb, eqb-false, eqb-true}
use Rattle.listing.specs.Lists.{all}
use Rattle.listing.specs.Bytes.{Bytes, split, extend, read_figure}
use Rattle.listing.specs.Expressions.{bind, when, each, read_piece, leaves_one, read_expression}
use Rattle.listing.specs.Form.{Field, fields_of, next_field_lem, none_left_lem, one_piece_lem, read_number, read_kinds}
use Rattle.listing.specs.Questions.{piece_is_there, is_by_reference}
use Rattle.listing.specs.Listing as L
use Rattle.listing.proofs.Splits.{split_has_part}
use Rattle.text_place.specs.Texts.{first_field, first_line, ends_field, fields_left, field_end, line_end, field_pieces, Within}
use Rattle.text_place.specs.Places.{passed}
use Rattle.text_piece.specs.Pieces.{cap}
use Rattle.text_fields.specs.Fields.{as_number, number_answer, as_kinds_field, kinds_field_answer}
use Rattle.text_fields.specs.Gather.{nothing, gather_all, as_expression, expression_answer, figures_by, figures_answer}
use Rattle.text_place.specs.declared.place.Place.{Place}
use Rattle.text_fields.specs.declared.gathering.Gathering.{Gathering}
use Rattle.text_fields.specs.declared.field.Number.TheVariants as NV
use Rattle.text_fields.specs.declared.field.Read.{Read}
use Rattle.text_fields.specs.declared.field.Expression.{Expression}
use Rattle.text_fields.specs.declared.kinds.Kinds.{Kinds}
use Rattle.text_place.proofs.Texts.{line_tab, line_field}
use Rattle.text_place.proofs.Places.{left_open, past_in, passed_in, end_in, drop_past}
use Rattle.text_fields.proofs.Rows.{Figures, unread, read, figures_of_lem}
use Rattle.text_jumps.specs.Records.{end_stop, end_next, as_record, as_rest}
use Rattle.text_jumps.specs.declared.scope.Scope.{Scope}
use Rattle.text_jumps.specs.declared.record.Record.{Record}

-- what is gathered from a row of figures, the first n
pub record Row (names : ℕ) (g : Gathering) (n : ℕ) (ns : List ℕ) : Type 0 where
  pub count : g.count ≡ suc (length ns)
  pub first : g.first ≡ min n cap
  pub others : g.others ≡ all (λ m. ltb m names) ns
  pub there : g.there ≡ (ltb n names && all (λ m. ltb m names) ns)

line_on : (s : List ℕ) (at : ℕ) → get_or s (field_end s at) 0 ≡ 9 → line_end s (field_end s at + 1) ≡ line_end s at
line_on s at e =
    let f = line_tab (drop at s) (get_or-drop at s (length (first_field (drop at s))) 0 ∙ e) in
    let g : length (first_line (drop at s)) ≡ length (first_field (drop at s)) + length (9 ∷ first_line (drop (field_end s at + 1) s)) =
    ap length f ∙ length-append (first_field (drop at s)) _ ∙ rw (drop_past s at (length (first_field (drop at s)))) in
    omega arith

line_over : (s : List ℕ) (at : ℕ) → (get_or s (field_end s at) 0 ≡ 9 → ⊥) → field_end s at ≡ line_end s at
line_over s at n = ap (λ (w : List ℕ). at + length w) (sym (line_field (drop at s) (λ e. n (sym (get_or-drop at s (length (first_field (drop at s))) 0) ∙ e))))

-- at a tab the reader stands on the next field, of the same line
tab_next : (s : List ℕ) (n e : ℕ) → get_or s e 0 ≡ 9 → passed s n e ≡ record { offset = e + 1; line = n }
tab_next s n e g = rw (lt-ltb e (length s) (past_in s e 9 (omega arith) g), g)

left_next : (s : List ℕ) (n e : ℕ) → fields_left (get_or s e 0) (drop (passed s n e).offset s) ≡ fields_left (get_or s e 0) (drop (e + 1) s)
unfolding fields_left
left_next s n e = go (eqb (get_or s e 0) 9) refl
  where
    go : (t : Bool) → eqb (get_or s e 0) 9 ≡ t → cond t (fields_of (first_line (drop (passed s n e).offset s))) [] ≡ cond t (fields_of (first_line (drop (e + 1) s))) []
    go true i = ap (λ (p : Place). fields_of (first_line (drop p.offset s))) (tab_next s n e (eqb-true (get_or s e 0) 9 i))
    go false i = refl

module _ (s : List ℕ) (c : Place) where
  stop_next : end_stop s (passed s c.line (field_end s c.offset)) (get_or s (field_end s c.offset) 0) ≡ end_stop s c 9
  unfolding end_stop
  stop_next = go (eqb (get_or s (field_end s c.offset) 0) 9) refl
    where
      p : Place
      p = passed s c.line (field_end s c.offset)

      go : (t : Bool) → eqb (get_or s (field_end s c.offset) 0) 9 ≡ t → cond t (get_or s (line_end s p.offset) 0) (get_or s (field_end s c.offset) 0) ≡ get_or s (line_end s c.offset) 0
      go true i = ap (λ (p : Place). get_or s (line_end s p.offset) 0) (tab_next s c.line (field_end s c.offset) (eqb-true _ 9 i)) ∙ ap (λ (e : ℕ). get_or s e 0) (line_on s c.offset (eqb-true _ 9 i))
      go false i = rw (line_over s c.offset (eqb-false _ 9 i))

  next_next : end_next s (passed s c.line (field_end s c.offset)) (get_or s (field_end s c.offset) 0) ≡ end_next s c 9
  unfolding end_next
  next_next = go (eqb (get_or s (field_end s c.offset) 0) 9) refl
    where
      p : Place
      p = passed s c.line (field_end s c.offset)

      go : (t : Bool) → eqb (get_or s (field_end s c.offset) 0) 9 ≡ t → cond t (passed s p.line (line_end s p.offset)) p ≡ passed s c.line (line_end s c.offset)
      go true i = ap (λ (p : Place). passed s p.line (line_end s p.offset)) (tab_next s c.line (field_end s c.offset) (eqb-true _ 9 i)) ∙ ap (passed s c.line) (line_on s c.offset (eqb-true _ 9 i))
      go false i = ap (passed s c.line) (line_over s c.offset (eqb-false _ 9 i))

-- a field has at most one piece more than bytes
split_count : (x : ℕ) (l : List ℕ) → length (split x l) ≤ length l + 1
unfolding split extend
split_count x [] = omega arith
split_count x (b ∷ l) = go (eqb b x) (split x l) (split_count x l)
  where
    go : (t : Bool) (ps : List (List ℕ)) → length ps ≤ length l + 1 → length (extend t b ps) ≤ length (b ∷ l) + 1
    go true ps h = omega arith
    go false [] h = omega arith
    go false (p ∷ ps) h = omega arith

passed_on : (s : List ℕ) (n e : ℕ) → e ≤ (passed s n e).offset
passed_on s n e = go (ltb e (length s))
  where
    go : (t : Bool) → e ≤ cond t (e + 1) e
    go true = omega arith
    go false = omega arith

-- what a field that was read tells whoever reads on
pub record Got {A : Type 0} (f : List Bytes → Option A) (s : List ℕ) (c : Place) (b : ℕ) (got : A) (b' : ℕ) (c' : Place) : Type 0 where
  pub on : (k : A → List Field → Option L.Line) → next_field_lem f (fields_left b (drop c.offset s)) k ≡ k got (fields_left b' (drop c'.offset s))
  pub within : Within s c'.offset c'.line
  pub stops : end_stop s c' b' ≡ end_stop s c b
  pub nexts : end_next s c' b' ≡ end_next s c b
  pub read : f (field_pieces s c.offset) ≡ some got
  pub opens : b ≡ 9
  pub fields : fields_left b (drop c.offset s) ≡ field_pieces s c.offset ∷ fields_left b' (drop c'.offset s)
  pub moves : length (field_pieces s c.offset) + c.offset ≤ c'.offset + 1
  pub moved : b' ≡ 9 → length (field_pieces s c.offset) + c.offset ≤ c'.offset
  pub after : b' ≡ 9 → 1 ≤ c'.offset

module _ {A : Type 0} (f : List Bytes → Option A) (s : List ℕ) (c : Place) (b : ℕ) where
  abbrev pub first : Option A
  first = next_field_lem f (fields_left b (drop c.offset s)) (λ a fs. some a)

  opened : (a : A) → first ≡ some a → b ≡ 9
  unfolding fields_left next_field_lem
  opened a e = go (eqb b 9) refl e
    where
      go : (t : Bool) → eqb b 9 ≡ t → next_field_lem f (cond t (fields_of (first_line (drop c.offset s))) []) (λ a fs. some a) ≡ some a → b ≡ 9
      go true i e = eqb-true b 9 i
      go false i e = absurd (let z : ◌≡◌ {A = ℕ} 0 1 = cc in omega arith)

  read_first : (a : A) → b ≡ 9 → first ≡ some a → f (field_pieces s c.offset) ≡ some a
  unfolding next_field_lem
  read_first a i e =
      let h : next_field_lem f (fields_left 9 (drop c.offset s)) (λ a fs. some a) ≡ some a = rw i at e in
      let g : bind (f (field_pieces s c.offset)) (λ a. some a) ≡ some a = rw (left_open s c.offset) at h in
      go (f (field_pieces s c.offset)) g
    where
      go : (o : Option A) → bind o (λ a. some a) ≡ some a → o ≡ some a
      go none e = e
      go (some x) e = e

  pub got_of : (a : A) (b' : ℕ) (c' : Place) → Within s c.offset c.line → first ≡ some a → get_or s (field_end s c.offset) 0 ≡ b' → passed s c.line (field_end s c.offset) ≡ c' → Got f s c b a b' c'
  unfolding next_field_lem
  got_of a b' c' w e eb ec =
      let i : b ≡ 9 = opened a e in
      let r : f (field_pieces s c.offset) ≡ some a = read_first a i e in
      rw (← eb, ← ec, i) (record {
        on = λ k. rw (left_open s c.offset, r, left_next s c.line (field_end s c.offset));
        within = passed_in s c.offset c.line (field_end s c.offset) w (omega arith) (end_in ends_field s c.offset w.inside);
        stops = stop_next s c;
        nexts = next_next s c;
        read = r;
        opens = refl;
        fields = left_open s c.offset ∙ rw (left_next s c.line (field_end s c.offset));
        moves = omega (arith, split_count 32 (first_field (drop c.offset s)), passed_on s c.line (field_end s c.offset));
        moved = λ (t : get_or s (field_end s c.offset) 0 ≡ 9). let m : (passed s c.line (field_end s c.offset)).offset ≡ field_end s c.offset + 1 = ap (λ (p : Place). p.offset) (tab_next s c.line (field_end s c.offset) t) in omega (arith, split_count 32 (first_field (drop c.offset s)));
        after = λ (t : get_or s (field_end s c.offset) 0 ≡ 9). let m : (passed s c.line (field_end s c.offset)).offset ≡ field_end s c.offset + 1 = ap (λ (p : Place). p.offset) (tab_next s c.line (field_end s c.offset) t) in omega arith;
      })

  pub none_of : first ≡ none → (k : A → List Field → Option L.Line) → next_field_lem f (fields_left b (drop c.offset s)) k ≡ none
  none_of e k = go (fields_left b (drop c.offset s)) e
    where
      bound : (o : Option A) (fs : List Field) → bind o (λ a. some a) ≡ none → bind o (λ a. k a fs) ≡ none
      bound none fs e = refl
      bound (some a) fs e = absurd (let z : ◌≡◌ {A = ℕ} 0 1 = cc in omega arith)

      go : (fs : List Field) → next_field_lem f fs (λ a fs. some a) ≡ none → next_field_lem f fs k ≡ none
      go [] e = unfold next_field_lem in refl
      go (p ∷ fs) e = unfold next_field_lem in bound (f p) fs e

-- ── the kinds of field ───────────────────────────────────────────────────────────
abbrev the_stop : List ℕ → Place → ℕ
the_stop s c = get_or s (field_end s c.offset) 0

abbrev the_next : List ℕ → Place → Place
the_next s c = passed s c.line (field_end s c.offset)

module _ (s : List ℕ) (c : Place) (b : ℕ) (w : Within s c.offset c.line) where
  pub number_got : (v b' : ℕ) (c' : Place) → NV.Read v b' c' ≡ number_answer s c b → (a : ℕ) × Got read_number s c b a b' c' × (v ≡ min a cap)
  number_got v b' c' e = go (first read_number s c b) refl e
    where
      go : (o : Option ℕ) → first read_number s c b ≡ o → NV.Read v b' c' ≡ as_number o (the_stop s c) (the_next s c) → (a : ℕ) × Got read_number s c b a b' c' × (v ≡ min a cap)
      go none i e = absurd (let z : ◌≡◌ {A = ℕ} 0 1 = cc in omega arith)
      go (some x) i e = (x, got_of read_number s c b x b' c' w i (cc) (cc), cc)

  pub number_none : NV.Bad ≡ number_answer s c b → (k : ℕ → List Field → Option L.Line) → next_field_lem read_number (fields_left b (drop c.offset s)) k ≡ none
  number_none e = go (first read_number s c b) refl e
    where
      go : (o : Option ℕ) → first read_number s c b ≡ o → NV.Bad ≡ as_number o (the_stop s c) (the_next s c) → (k : ℕ → List Field → Option L.Line) → next_field_lem read_number (fields_left b (drop c.offset s)) k ≡ none
      go none i e = none_of read_number s c b i
      go (some n) i e = absurd (let z : ◌≡◌ {A = ℕ} 0 1 = cc in omega arith)

  pub expression_got : (names : ℕ) (r : Read Expression) → Some r ≡ expression_answer names s c b
      → (a : L.Expression) × Got read_expression s c b a r.stop r.next × (r.value.pieces ≡ length a) × (r.value.there ≡ all (piece_is_there names) a)
  expression_got names r e = go (first read_expression s c b) refl e
    where
      go : (o : Option L.Expression) → first read_expression s c b ≡ o → Some r ≡ as_expression names o (the_stop s c) (the_next s c)
          → (a : L.Expression) × Got read_expression s c b a r.stop r.next × (r.value.pieces ≡ length a) × (r.value.there ≡ all (piece_is_there names) a)
      go none i e = absurd (let z : ◌≡◌ {A = ℕ} 0 1 = cc in omega arith)
      go (some x) i e =
          let k : r ≡ record { value = record { pieces = length x; there = all (piece_is_there names) x }; stop = the_stop s c; next = the_next s c } = cc in
          rw k (x, got_of read_expression s c b x (the_stop s c) (the_next s c) w i refl refl, refl, refl)

  pub expression_none : (names : ℕ) → None ≡ expression_answer names s c b → (k : L.Expression → List Field → Option L.Line) → next_field_lem read_expression (fields_left b (drop c.offset s)) k ≡ none
  expression_none names e = go (first read_expression s c b) refl e
    where
      go : (o : Option L.Expression) → first read_expression s c b ≡ o → None ≡ as_expression names o (the_stop s c) (the_next s c) → (k : L.Expression → List Field → Option L.Line) → next_field_lem read_expression (fields_left b (drop c.offset s)) k ≡ none
      go none i e = none_of read_expression s c b i
      go (some n) i e = absurd (let z : ◌≡◌ {A = ℕ} 0 1 = cc in omega arith)

  pub kinds_got : (r : Read Kinds) → Some r ≡ kinds_field_answer s c b
      → (a : List L.Kind) × Got (one_piece_lem read_kinds) s c b a r.stop r.next × (r.value.count ≡ length a) × (r.value.by_reference ≡ all is_by_reference a)
  kinds_got r e = go (first (one_piece_lem read_kinds) s c b) refl e
    where
      go : (o : Option (List L.Kind)) → first (one_piece_lem read_kinds) s c b ≡ o → Some r ≡ as_kinds_field o (the_stop s c) (the_next s c)
          → (a : List L.Kind) × Got (one_piece_lem read_kinds) s c b a r.stop r.next × (r.value.count ≡ length a) × (r.value.by_reference ≡ all is_by_reference a)
      go none i e = absurd (let z : ◌≡◌ {A = ℕ} 0 1 = cc in omega arith)
      go (some x) i e =
          let k : r ≡ record { value = record { count = length x; by_reference = all is_by_reference x }; stop = the_stop s c; next = the_next s c } = cc in
          rw k (x, got_of (one_piece_lem read_kinds) s c b x (the_stop s c) (the_next s c) w i refl refl, refl, refl)

  pub kinds_none : None ≡ kinds_field_answer s c b → (k : List L.Kind → List Field → Option L.Line) → next_field_lem (one_piece_lem read_kinds) (fields_left b (drop c.offset s)) k ≡ none
  kinds_none e = go (first (one_piece_lem read_kinds) s c b) refl e
    where
      go : (o : Option (List L.Kind)) → first (one_piece_lem read_kinds) s c b ≡ o → None ≡ as_kinds_field o (the_stop s c) (the_next s c) → (k : List L.Kind → List Field → Option L.Line) → next_field_lem (one_piece_lem read_kinds) (fields_left b (drop c.offset s)) k ≡ none
      go none i e = none_of (one_piece_lem read_kinds) s c b i
      go (some n) i e = absurd (let z : ◌≡◌ {A = ℕ} 0 1 = cc in omega arith)

-- ── a field of figures: its row ──────────────────────────────────────────────────
module _ (s : List ℕ) (c : Place) (b names : ℕ) (h : names ≤ cap) where
  abbrev gathered_here : Gathering
  gathered_here = gather_all names nothing (field_pieces s c.offset)

  figures_here : Figures names h (field_pieces s c.offset) (each read_figure (field_pieces s c.offset))
  figures_here =
      let part = split_has_part 32 (first_field (drop c.offset s)) in
      rw part.is (figures_of_lem names h part.head part.rest)

  abbrev read_here : Read Gathering
  read_here = record { value = gathered_here; stop = the_stop s c; next = the_next s c }

  row_got : (r : Read Gathering) (o : Option (List ℕ)) → Within s c.offset c.line → Figures names h (field_pieces s c.offset) o
      → each read_figure (field_pieces s c.offset) ≡ o → b ≡ 9
      → Some r ≡ cond gathered_here.figures (Some read_here) None
      → (n : ℕ) × (ns : List ℕ) × Got (each read_figure) s c b (n ∷ ns) r.stop r.next × (r.value ≡ gathered_here) × Row names r.value n ns
  unfolding next_field_lem
  row_got r _ w (unread f) i j e = absurd (let x : Some r ≡ None = e ∙ rw f in let z : ◌≡◌ {A = ℕ} 0 1 = cc in omega arith)
  row_got r _ w (read {n = n} {ns = ns} f l m o t) i j e =
      let x : Some r ≡ Some read_here = e ∙ ap (λ (u : Bool). cond u (Some read_here) None) f in
      let y : r ≡ read_here = cc in
      rw y (n, ns, got_of (each read_figure) s c b (n ∷ ns) (the_stop s c) (the_next s c) w (rw (j, left_open s c.offset, i)) refl refl, refl, record { count = l; first = m; others = o; there = t })

  pub figures_got : Within s c.offset c.line → (r : Read Gathering) → Some r ≡ figures_answer names s c b
      → (n : ℕ) × (ns : List ℕ) × Got (each read_figure) s c b (n ∷ ns) r.stop r.next × (r.value ≡ gathered_here) × Row names r.value n ns
  figures_got w r e = by_stop (eqb b 9) refl e
    where
      by_stop : (t : Bool) → eqb b 9 ≡ t → Some r ≡ figures_by (cond t (Some read_here) None)
          → (n : ℕ) × (ns : List ℕ) × Got (each read_figure) s c b (n ∷ ns) r.stop r.next × (r.value ≡ gathered_here) × Row names r.value n ns
      by_stop false i e = absurd (let z : ◌≡◌ {A = ℕ} 0 1 = cc in omega arith)
      by_stop true i e = row_got r (each read_figure (field_pieces s c.offset)) w figures_here refl (eqb-true b 9 i) e

  row_none : (o : Option (List ℕ)) → Figures names h (field_pieces s c.offset) o → each read_figure (field_pieces s c.offset) ≡ o
      → None ≡ cond gathered_here.figures (Some read_here) None → each read_figure (field_pieces s c.offset) ≡ none
  row_none _ (unread f) i e = i
  row_none _ (read f l m o t) i e =
      absurd (let x : None ≡ Some read_here = e ∙ ap (λ (u : Bool). cond u (Some read_here) None) f in
      let z : ◌≡◌ {A = ℕ} 0 1 = cc in omega arith)

  pub figures_unread : b ≡ 9 → None ≡ figures_answer names s c b → each read_figure (field_pieces s c.offset) ≡ none
  figures_unread j e = row_none (each read_figure (field_pieces s c.offset)) figures_here refl (e ∙ rw (eq-eqb b 9 j))

-- no field is left unless the last byte was a tab
pub end_shut : (b : ℕ) (l : List ℕ) (x : L.Line) → (b ≡ 9 → ⊥) → none_left_lem (fields_left b l) x ≡ some x
unfolding fields_left none_left_lem
end_shut b l x n = rw (ne_eqb b 9 n)

pub end_open : (s : List ℕ) (at b : ℕ) (x : L.Line) → b ≡ 9 → none_left_lem (fields_left b (drop at s)) x ≡ none
unfolding none_left_lem
end_open s at b x e = rw (e, left_open s at)

pub stop_shut : (s : List ℕ) (c : Place) (b : ℕ) → (b ≡ 9 → ⊥) → end_stop s c b ≡ b
unfolding end_stop
stop_shut s c b n = rw (ne_eqb b 9 n)

pub next_shut : (s : List ℕ) (c : Place) (b : ℕ) → (b ≡ 9 → ⊥) → end_next s c b ≡ c
unfolding end_next
next_shut s c b n = rw (ne_eqb b 9 n)

-- ── a whole record ───────────────────────────────────────────────────────────────
module _ (routines : List L.Routine) (scope : Scope) where
  pub rest_is_lem : (s : List ℕ) (c : Place) (b : ℕ) (o : Option L.Line) (x : L.Line) (m : Record) (b' : ℕ) (c' : Place) → o ≡ some x → end_stop s c b ≡ b' → end_next s c b ≡ c' → m ≡ as_record routines scope x
      → ◌≡◌ {A = P.Option (Read Record)} (Some (record { value = m; stop = b'; next = c' })) (as_rest routines scope o (end_stop s c b) (end_next s c b))
  rest_is_lem s c b o x m b' c' e f g h = rw (e, f, g, h)

  pub rest_bad : (b : ℕ) (c : Place) (o : Option L.Line) → o ≡ none → None ≡ as_rest routines scope o b c
  rest_bad b c o e = rw e

-- an expression has fewer pieces than the text has bytes and one
each_length : {A B : Type 0} (f : A → Option B) (xs : List A) (ys : List B) → each f xs ≡ some ys → length ys ≡ length xs
unfolding each
each_length {A} {B} f [] ys e = let z : ys ≡ [] = cc in rw z
each_length {A} {B} f (x ∷ xs) ys e = go (f x) e (λ zs. each_length f xs zs)
  where
    go2 : (b : B) (o : Option (List B)) → bind o (λ zs. some (b ∷ zs)) ≡ some ys → ((zs : List B) → o ≡ some zs → length zs ≡ length xs) → length ys ≡ suc (length xs)
    go2 b none e i = absurd (let z : ◌≡◌ {A = ℕ} 0 1 = cc in omega arith)
    go2 b (some zs) e i = let z : ys ≡ b ∷ zs = cc in rw z (ap suc (i zs refl))

    go : (o : Option B) → bind o (λ a. bind (each f xs) (λ zs. some (a ∷ zs))) ≡ some ys → ((zs : List B) → each f xs ≡ some zs → length zs ≡ length xs) → length ys ≡ suc (length xs)
    go none e i = absurd (let z : ◌≡◌ {A = ℕ} 0 1 = cc in omega arith)
    go (some b) e i = go2 b (each f xs) e i

pub expression_length : (s : List ℕ) (c : Place) (b b' : ℕ) (c' : Place) (a : L.Expression) → Got read_expression s c b a b' c' → length a ≡ length (field_pieces s c.offset)
unfolding read_expression
expression_length s c b b' c' a g = go (each read_piece (field_pieces s c.offset)) refl g.read
  where
    go : (o : Option L.Expression) → each read_piece (field_pieces s c.offset) ≡ o → bind o (λ e. when (leaves_one e) e) ≡ some a → length a ≡ length (field_pieces s c.offset)
    go none i e = absurd (let z : ◌≡◌ {A = ℕ} 0 1 = cc in omega arith)
    go (some x) i e = when_some (leaves_one x) e
      where
        when_some : (t : Bool) → when t x ≡ some a → length a ≡ length (field_pieces s c.offset)
        when_some true e = let z : x ≡ a = cc in rw (← z) (each_length read_piece (field_pieces s c.offset) x i)
        when_some false e = absurd (let z : ◌≡◌ {A = ℕ} 0 1 = cc in omega arith)

pub figures_length : (s : List ℕ) (c : Place) (b b' : ℕ) (c' : Place) (a : List ℕ) → Got (each read_figure) s c b a b' c' → length a ≡ length (field_pieces s c.offset)
figures_length s c b b' c' a g = each_length read_figure (field_pieces s c.offset) a g.read

pub left_none : (b : ℕ) (l : List ℕ) → (b ≡ 9 → ⊥) → fields_left b l ≡ []
unfolding fields_left
left_none b l n = rw (ne_eqb b 9 n)
