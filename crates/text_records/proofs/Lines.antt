-- Lines, one after another: question 2, and what a text that it lets through gives to a pass over its lines.
use Rattle.std.specs.Prelude.{Some, None}
use mathlib.Core.Path.{◌≡◌, refl, sym, ap, ◌∙◌}
use mathlib.Core.Bool.{Bool, true, false, cond, ◌&&◌, ◌||◌}
use mathlib.Core.List.{List, [], ◌∷◌, ◌++◌}
use mathlib.Core.Option.{Option, none, some}
use Prim.Native.Nat.{ℕ, suc, ◌+◌, ◌≤◌, ◌<◌}
use native.Mathlib.Omega.{arith}
use native.Mathlib.Numerals.{add-one}
use lib.Dec.{eqb, ltb}
use lib.ListN.{length, get_or, drop, drop_of_length-le}
use lib.Seq.{drop-cons, get_or-drop}
use borrow.Author.Tests.{lt-ltb, ne_eqb, eqb-false, eqb-true}
use Rattle.listing.specs.Lists.{is_empty, all_but_last, last_or, present, first_no_from}
use Rattle.listing.specs.Bytes.{split}
use Rattle.listing.specs.Expressions.{when}
use Rattle.listing.specs.Form.{fields_of, read_record, may_stand_on, read_line}
use Rattle.listing.specs.Questions.{closed_lines, unclosed, read_lines, is_closed, form_answers, place2, records_of}
use Rattle.listing.specs.Listing as L
use Rattle.listing.proofs.Splits.{split_has_part, split_at, split_free}
use Rattle.text_place.specs.Texts.{before, first_line, ends_line, line_end, Within}
use Rattle.text_place.specs.Places.{passed}
use Rattle.text_place.specs.declared.place.Place.{Place}
use Rattle.text_place.proofs.Texts.{cut_at, no_cut, before_free}
use Rattle.text_place.proofs.Places.{drop_past, past_in}
use Rattle.text_jumps.specs.Records.{as_record, as_rest}
use Rattle.text_records.specs.Lines.{line_answer, stands_on, some_place}
use Rattle.text_records.specs.Onward.{closed_from, place_from, records_from, Formed}
use Rattle.text_jumps.specs.declared.scope.Scope.{Scope}
use Rattle.text_jumps.specs.declared.record.Record.{Record}
use Rattle.text_fields.specs.declared.field.Read.{Read}

-- ── the first line of a text, and those after it ─────────────────────────────────
nowhere : ℕ → Bool
nowhere byte = false

before_nowhere : (l : List ℕ) → before nowhere l ≡ l
unfolding before nowhere
before_nowhere [] = refl
before_nowhere (b ∷ l) = rw (before_nowhere l)

clash : {A : Type 0} → ◌≡◌ {A = Bool} false true → A
clash e = absurd (let z : ◌≡◌ {A = ℕ} 0 1 = cc in omega arith)

module _ (s : List ℕ) (at : ℕ) where
  -- with a line feed
  lines_more : get_or s (line_end s at) 0 ≡ 10 → split 10 (drop at s) ≡ first_line (drop at s) ∷ split 10 (drop (line_end s at + 1) s)
  unfolding nowhere
  lines_more e =
      let c = cut_at ends_line nowhere 10 (omega arith) refl refl (λ b h. clash h) (λ b h n. eqb-true b 10 h) (drop at s) (get_or-drop at s (length (first_line (drop at s))) 0 ∙ e) in
      let d : drop at s ≡ first_line (drop at s) ++ (10 ∷ drop (line_end s at + 1) s) =
      sym (before_nowhere (drop at s)) ∙ c ∙ rw (before_nowhere, drop_past s at (length (first_line (drop at s)))) in
      ap (split 10) d ∙ split_at _ (before_free ends_line 10 refl (drop at s))

  -- and without
  lines_last : (get_or s (line_end s at) 0 ≡ 10 → ⊥) → split 10 (drop at s) ≡ drop at s ∷ []
  unfolding nowhere
  lines_last n =
      let c : before nowhere (drop at s) ≡ first_line (drop at s) = no_cut ends_line nowhere 10 (omega arith) refl refl (λ b h. clash h) (λ b h n. eqb-true b 10 h) (drop at s) (λ e. n (sym (get_or-drop at s (length (first_line (drop at s))) 0) ∙ e)) in
      let d : drop at s ≡ first_line (drop at s) = sym (before_nowhere (drop at s)) ∙ c in
      ap (split 10) d ∙ split_free (before_free ends_line 10 refl (drop at s)) ∙ rw (← d)

  pub closed_more : get_or s (line_end s at) 0 ≡ 10 → closed_lines (drop at s) ≡ first_line (drop at s) ∷ closed_lines (drop (line_end s at + 1) s)
  unfolding closed_lines all_but_last
  closed_more e =
      let p = split_has_part 10 (drop (line_end s at + 1) s) in
      rw (lines_more e, p.is)

  unclosed_more : get_or s (line_end s at) 0 ≡ 10 → unclosed (drop at s) ≡ unclosed (drop (line_end s at + 1) s)
  unfolding unclosed last_or
  unclosed_more e =
      let p = split_has_part 10 (drop (line_end s at + 1) s) in
      rw (lines_more e, p.is)

-- ── question 2, from a line on ───────────────────────────────────────────────────
pub place_whole : (s : List ℕ) → place_from 1 s ≡ place2 s
unfolding place_from closed_from place2 form_answers is_closed
place_whole s = refl

module _ (s : List ℕ) (at k : ℕ) where
  pub place_out : get_or s (line_end s at) 0 ≡ 10 → read_line k (first_line (drop at s)) ≡ none → place_from k (drop at s) ≡ k
  unfolding place_from read_lines first_no_from
  place_out e r = rw (closed_more s at e, r)

  closed_on : 1 ≤ k → get_or s (line_end s at) 0 ≡ 10 → closed_from k (drop at s) ≡ closed_from (suc k) (drop (line_end s at + 1) s)
  unfolding closed_from
  closed_on h e = rw (closed_more s at e, unclosed_more s at e, lt-ltb 1 (suc k) (omega arith)) (go (ltb 1 k))
    where
      go : (t : Bool) → ((t || true) && is_empty (unclosed (drop (line_end s at + 1) s))) ≡ (true && is_empty (unclosed (drop (line_end s at + 1) s)))
      go true = refl
      go false = refl

  pub place_on : (x : L.Line) → 1 ≤ k → get_or s (line_end s at) 0 ≡ 10 → read_line k (first_line (drop at s)) ≡ some x → place_from k (drop at s) ≡ place_from (suc k) (drop (line_end s at + 1) s)
  unfolding place_from read_lines first_no_from
  place_on x h e r = rw (closed_on h e, closed_more s at e, r)

  -- a line without its line feed
  pub place_open : at < length s → (get_or s (line_end s at) 0 ≡ 10 → ⊥) → place_from k (drop at s) ≡ k
  unfolding place_from closed_from closed_lines unclosed all_but_last last_or read_lines first_no_from
  place_open h n = rw (lines_last s at n, drop-cons s at 0 h) (go (ltb 1 k))
    where
      go : (t : Bool) → first_no_from k (((t || false) && false) ∷ []) ≡ k
      go true = refl
      go false = refl

  -- the end
  pub place_end : length s ≤ at → place_from k (drop at s) ≡ cond (ltb 1 k) 0 k
  unfolding place_from closed_from closed_lines unclosed split all_but_last last_or read_lines first_no_from
  place_end h = rw (drop_of_length-le s h) (go (ltb 1 k))
    where
      go : (t : Bool) → first_no_from k (((t || false) && true) ∷ []) ≡ cond t 0 k
      go true = refl
      go false = refl

  pub place_unread : at < length s → read_line k (first_line (drop at s)) ≡ none → place_from k (drop at s) ≡ k
  place_unread h r = go (eqb (get_or s (line_end s at) 0) 10) refl
    where
      go : (t : Bool) → eqb (get_or s (line_end s at) 0) 10 ≡ t → place_from k (drop at s) ≡ k
      go true e = place_out (eqb-true _ 10 e) r
      go false e = place_open h (eqb-false _ 10 e)

-- ── the place of a question ──────────────────────────────────────────────────────
pub place_some : (k p : ℕ) → 1 ≤ k → k ≡ p → Some k ≡ some_place p
place_some k p h e = let n : k ≡ 0 → ⊥ = λ z. omega arith in rw (← e, ne_eqb k 0 n)

pub place_none : (p : ℕ) → p ≡ 0 → None ≡ some_place p
place_none p e = rw e

-- ── a line read at a place ───────────────────────────────────────────────────────
stands_by : (rs : List L.Routine) (scope : Scope) (k : ℕ) (x : L.Line) → stands_on k (as_record rs scope x) ≡ may_stand_on k x
unfolding may_stand_on
stands_by rs scope k (L.Line.ports i o) = refl
stands_by rs scope k (L.Line.opens kinds locals) = refl
stands_by rs scope k (L.Line.instruction i) = refl

feed_next : (s : List ℕ) (n e : ℕ) → get_or s e 0 ≡ 10 → passed s n e ≡ record { offset = e + 1; line = n + 1 }
feed_next s n e g = rw (lt-ltb e (length s) (past_in s e 10 (omega arith) g), g)

pub record LineRead (s : List ℕ) (at k : ℕ) (r : Record) (stop : ℕ) (next : Place) : Type 0 where
  pub stop_is : get_or s (line_end s at) 0 ≡ stop
  pub next_is_lem : passed s k (line_end s at) ≡ next
  pub refused : stands_on k r ≡ false → read_line k (first_line (drop at s)) ≡ none
  pub taken : stands_on k r ≡ true → (x : L.Line) × (read_line k (first_line (drop at s)) ≡ some x)

module _ (rs : List L.Routine) (scope : Scope) (s : List ℕ) (at k : ℕ) where
  abbrev here : Place
  here = record { offset = at; line = k }

  pub line_read : (l : Read Record) → Some l ≡ line_answer rs scope s here → LineRead s at k l.value l.stop l.next
  unfolding read_line
  line_read l e = go (read_record (fields_of (first_line (drop at s)))) refl e
    where
      go : (o : Option L.Line) → read_record (fields_of (first_line (drop at s))) ≡ o → Some l ≡ as_rest rs scope o (get_or s (line_end s at) 0) (passed s k (line_end s at)) → LineRead s at k l.value l.stop l.next
      go none i e = absurd (let z : ◌≡◌ {A = ℕ} 0 1 = cc in omega arith)
      go (some x) i e =
          let m : l ≡ record { value = as_record rs scope x; stop = get_or s (line_end s at) 0; next = passed s k (line_end s at) } = cc in
          let st : may_stand_on k x ≡ stands_on k l.value = sym (ap (λ (l : Read Record). stands_on k l.value) m ∙ stands_by rs scope k x) in
          record {
            stop_is = ap (λ (l : Read Record). l.stop) (sym m);
            next_is_lem = ap (λ (l : Read Record). l.next) (sym m);
            refused = λ (f : stands_on k l.value ≡ false). rw (i, st, f);
            taken = λ (f : stands_on k l.value ≡ true). (x, rw (i, st, f));
          }

  pub line_unread : None ≡ line_answer rs scope s here → read_line k (first_line (drop at s)) ≡ none
  unfolding read_line
  line_unread e = go (read_record (fields_of (first_line (drop at s)))) refl e
    where
      go : (o : Option L.Line) → read_record (fields_of (first_line (drop at s))) ≡ o → None ≡ as_rest rs scope o (get_or s (line_end s at) 0) (passed s k (line_end s at)) → read_line k (first_line (drop at s)) ≡ none
      go none i e = rw i
      go (some x) i e = absurd (let z : ◌≡◌ {A = ℕ} 0 1 = cc in omega arith)

-- ── the pass of question 2 ───────────────────────────────────────────────────────
pub record Pass (s : List ℕ) (at k : ℕ) : Type 0 where
  pub within : Within s at k
  pub some_line : 1 ≤ k
  pub same : place_from k (drop at s) ≡ place2 s

pub pass_begun : (s : List ℕ) → Pass s 0 1
pass_begun s = record { within = record { inside = omega arith; counted = omega arith }; some_line = omega arith; same = place_whole s }

module _ (s : List ℕ) (at k : ℕ) (r : Record) (next : Place) (p : Pass s at k) (l : LineRead s at k r 10 next) (st : stands_on k r ≡ true) where
  pub pass_moved : at < next.offset
  pass_moved = let m : (passed s k (line_end s at)).offset ≡ line_end s at + 1 = ap (λ (c : Place). c.offset) (feed_next s k (line_end s at) l.stop_is) in omega (arith, ap (λ (c : Place). c.offset) l.next_is_lem)

  pub pass_on : Pass s next.offset next.line
  pass_on =
      let x = l.taken st in
      let e : record { offset = line_end s at + 1; line = k + 1 } ≡ next = sym (feed_next s k (line_end s at) l.stop_is) ∙ l.next_is_lem in
      let lt : line_end s at < length s = past_in s (line_end s at) 10 (omega arith) l.stop_is in
      let q : place_from (k + 1) (drop (line_end s at + 1) s) ≡ place2 s = rw (add-one k) (sym (place_on s at k x.0 p.some_line l.stop_is x.1) ∙ p.same) in
      rw (← e) (record { within = record { inside = omega arith; counted = omega (arith, p.within.counted) }; some_line = omega arith; same = q })

-- ── passes over a text that question 2 lets through ──────────────────────────────
pub records_whole : (s : List ℕ) → records_from 1 s ≡ records_of s
unfolding records_from records_of
records_whole s = refl

pub formed_whole : (s : List ℕ) → place2 s ≡ 0 → Formed s 0 1
formed_whole s e = record { within = record { inside = omega arith; counted = omega arith }; some_line = omega arith; place = place_whole s ∙ e }

-- what the next line of such a text is
pub record NextLine (s : List ℕ) (at k : ℕ) : Type 0 where
  pub line : L.Line
  pub stands : may_stand_on k line ≡ true
  pub answer : (rs : List L.Routine) (scope : Scope)
      → line_answer rs scope s (record { offset = at; line = k }) ≡ Some (record { value = as_record rs scope line; stop = 10; next = record { offset = line_end s at + 1; line = k + 1 } })
  pub read : read_record (fields_of (first_line (drop at s))) ≡ some line
  pub records : records_from k (drop at s) ≡ line ∷ records_from (k + 1) (drop (line_end s at + 1) s)
  pub texts : closed_lines (drop at s) ≡ first_line (drop at s) ∷ closed_lines (drop (line_end s at + 1) s)
  pub formed : Formed s (line_end s at + 1) (k + 1)

when_true : {A : Type 0} (t : Bool) (a b : A) → when t a ≡ some b → (t ≡ true) × (a ≡ b)
when_true true a b e = (refl, cc)
when_true false a b e = absurd (let z : ◌≡◌ {A = ℕ} 0 1 = cc in omega arith)

module _ (s : List ℕ) (at k : ℕ) (f : Formed s at k) where
  pub next_line : at < length s → NextLine s at k
  unfolding records_from read_lines present read_line
  next_line h = closed (eqb (get_or s (line_end s at) 0) 10) refl
    where
      refuse : {A : Type 0} → place_from k (drop at s) ≡ k → A
      refuse e = absurd (let z : ⊥ = omega (arith, e, f.place, f.some_line) in z)

      made : get_or s (line_end s at) 0 ≡ 10 → (x : L.Line) → read_record (fields_of (first_line (drop at s))) ≡ some x → may_stand_on k x ≡ true → NextLine s at k
      made e x i st =
          let r : read_line k (first_line (drop at s)) ≡ some x = rw (i, st) in
          let lt : line_end s at < length s = past_in s (line_end s at) 10 (omega arith) e in
          record {
            line = x;
            stands = st;
            answer = λ rs scope. rw (i, feed_next s k (line_end s at) e, e);
            read = i;
            records = rw (closed_more s at e, r, add-one k);
            texts = closed_more s at e;
            formed = record {
              within = record { inside = omega arith; counted = omega (arith, f.within.counted) };
              some_line = omega arith;
              place = rw (add-one k) (sym (place_on s at k x f.some_line e r) ∙ f.place);
            };
          }

      stood : get_or s (line_end s at) 0 ≡ 10 → (x : L.Line) → read_record (fields_of (first_line (drop at s))) ≡ some x → (t : Bool) → may_stand_on k x ≡ t → NextLine s at k
      stood e x i true st = made e x i st
      stood e x i false st = refuse (place_out s at k e (rw (i, st)))

      shaped : get_or s (line_end s at) 0 ≡ 10 → (o : Option L.Line) → read_record (fields_of (first_line (drop at s))) ≡ o → NextLine s at k
      shaped e none i = refuse (place_out s at k e (rw i))
      shaped e (some x) i = stood e x i (may_stand_on k x) refl

      closed : (t : Bool) → eqb (get_or s (line_end s at) 0) 10 ≡ t → NextLine s at k
      closed true e = shaped (eqb-true _ 10 e) (read_record (fields_of (first_line (drop at s)))) refl
      closed false e = refuse (place_open s at k h (eqb-false _ 10 e))

-- nothing is left at the end
pub records_end : (s : List ℕ) (at k : ℕ) → length s ≤ at → records_from k (drop at s) ≡ []
unfolding records_from closed_lines split all_but_last read_lines present
records_end s at k h = rw (drop_of_length-le s h)

pub texts_end : (s : List ℕ) (at : ℕ) → length s ≤ at → closed_lines (drop at s) ≡ []
unfolding closed_lines split all_but_last
texts_end s at h = rw (drop_of_length-le s h)
