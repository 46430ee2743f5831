-- What is gathered from a field's pieces, as an expression and as a row of figures.
use Rattle.std.specs.Prelude as P
use Rattle.std.specs.Prelude.{Some, None}
use mathlib.Core.Path.{◌≡◌, refl, sym, ap, ◌∙◌}
use mathlib.Core.Bool.{Bool, true, false, cond, ◌&&◌}
use mathlib.Core.List.{List, [], ◌∷◌}
use mathlib.Core.Option.{Option, none, some}
use Prim.Native.Nat.{ℕ, suc, ◌+◌, ◌≤◌, min}
use native.Mathlib.Omega.{arith}
use lib.Dec.{eqb, ltb}
use lib.ListN.{length, get_or}
use lib.Seq.{slice}
use borrow.Author.Tests.{lt-ltb, le-ltb, le-leb, ne_eqb, ltb-true, ltb-false, eqb-false, eqb-true}
use Rattle.listing.specs.Lists.{all}
use Rattle.listing.specs.Expressions.{bind, when, each, read_piece, most_values_held, effect_of, may_come, held_with, leaves_one_from, leaves_one, read_expression}
use Rattle.listing.proofs.Effects.{held_most}
use Rattle.listing.specs.Form.{next_field_lem}
use Rattle.listing.specs.Questions.{piece_is_there}
use Rattle.listing.specs.Listing as L
use Rattle.text_place.specs.Texts.{fields_left, field_end, field_pieces}
use Rattle.text_place.specs.Places.{passed, taken_at}
use Rattle.listing_effect.specs.Held.{held_by, held_after, as_effect}
use Rattle.listing_effect.proofs.Held.{after_effect, nine_stays}
use Rattle.text_piece.specs.Pieces.{cap, as_piece, piece_answer, effect_in}
use Rattle.text_fields.specs.Gather.{is_there_by, nothing, gather_one, gather_all, pieces_answer, as_expression, expression_answer}
use Rattle.text_place.specs.declared.place.Place.{Place}
use Rattle.text_piece.specs.declared.piece.Piece.{Piece}
use Rattle.text_fields.specs.declared.gathering.Gathering.{Gathering}
use Rattle.text_fields.specs.declared.field.Expression.{Expression}
use Rattle.text_fields.specs.declared.field.Read.{Read}
use Rattle.text_place.specs.declared.place.Taken.{Taken}
use Rattle.text_place.proofs.Places.{left_open}
use Rattle.text_fields.proofs.OnField.{OnField, begun, more_pieces, moved_on, still_on, last_piece, stop_at_end, next_at_end}

absurd_read : {A B : Type 0} {b : B} → none ≡ some b → A
absurd_read e = absurd (let z : ◌≡◌ {A = ℕ} 0 1 = cc in omega arith)

-- ── the values held ──────────────────────────────────────────────────────────────
unfoldable pub held_over : L.Expression → ℕ → ℕ
held_over [] n = n
held_over (p ∷ e) n = held_over e (held_after n (effect_in (as_piece (some p))))

effect_read_lem : (p : L.Piece) → effect_in (as_piece (some p)) ≡ as_effect (effect_of p)
unfolding effect_of
effect_read_lem (L.Piece.literal v) = refl
effect_read_lem (L.Piece.value_of n) = refl
effect_read_lem (L.Piece.written_mark n) = refl
effect_read_lem L.Piece.plus = refl
effect_read_lem L.Piece.minus = refl
effect_read_lem L.Piece.times = refl
effect_read_lem L.Piece.less = refl
effect_read_lem L.Piece.divide = refl
effect_read_lem L.Piece.remainder = refl

held_read : (n : ℕ) (p : L.Piece) → held_after n (effect_in (as_piece (some p))) ≡ held_by n (effect_of p)
held_read n p = ap (held_after n) (effect_read_lem p) ∙ after_effect n (effect_of p)

after_nine : (p : L.Piece) → held_after 9 (effect_in (as_piece (some p))) ≡ 9
after_nine p = held_read 9 p ∙ nine_stays (effect_of p)

over_nine : (e : L.Expression) → held_over e 9 ≡ 9
unfolding held_over
over_nine [] = refl
over_nine (p ∷ e) = rw (after_nine p) (over_nine e)

-- an expression leaves one value exactly if one is held after it
after_piece : (p : L.Piece) (e : L.Expression) (n : ℕ) → n ≤ most_values_held → ((m : ℕ) → m ≤ most_values_held → leaves_one_from m e ≡ eqb (held_over e m) 1)
    → leaves_one_from n (p ∷ e) ≡ eqb (held_over (p ∷ e) n) 1
unfolding leaves_one_from held_over
after_piece p e n h i = rw (held_read n p, le-leb n most_values_held h) (go (may_come n (effect_of p)) refl)
  where
    go : (t : Bool) → may_come n (effect_of p) ≡ t
        → (t && leaves_one_from (held_with n (effect_of p)) e) ≡ eqb (held_over e (cond (t && true) (held_with n (effect_of p)) 9)) 1
    go true f = i (held_with n (effect_of p)) (held_most n (effect_of p) f h)
    go false f = rw (over_nine e)

leaves_held : (e : L.Expression) (n : ℕ) → n ≤ most_values_held → leaves_one_from n e ≡ eqb (held_over e n) 1
unfolding leaves_one_from held_over
leaves_held [] n h = refl
leaves_held (p ∷ e) n h = after_piece p e n h (leaves_held e)

-- ── names that are there ─────────────────────────────────────────────────────────
pub capped_below : (n names : ℕ) → names ≤ cap → ltb (min n cap) names ≡ ltb n names
capped_below n names h = go (ltb n names) refl
  where
    go : (t : Bool) → ltb n names ≡ t → ltb (min n cap) names ≡ t
    go true e = lt-ltb (min n cap) names (omega (arith, ltb-true n names e))
    go false e = le-ltb (min n cap) names (omega (arith, ltb-false n names e))

pub there_by : (names : ℕ) → names ≤ cap → (p : L.Piece) → is_there_by names (as_piece (some p)) ≡ piece_is_there names p
unfolding piece_is_there
there_by names h (L.Piece.literal v) = refl
there_by names h (L.Piece.value_of n) = capped_below n names h
there_by names h (L.Piece.written_mark n) = capped_below n names h
there_by names h L.Piece.plus = refl
there_by names h L.Piece.minus = refl
there_by names h L.Piece.times = refl
there_by names h L.Piece.less = refl
there_by names h L.Piece.divide = refl
there_by names h L.Piece.remainder = refl

and_assoc : (a b c : Bool) → ((a && b) && c) ≡ (a && (b && c))
and_assoc true b c = refl
and_assoc false b c = refl

-- an expression that was read
abbrev pub expression_with : ℕ → Bool → ℕ → Place → P.Option (Read Expression)
expression_with pieces there stop next = Some (record { value = record { pieces = pieces; there = there }; stop = stop; next = next })

-- ── a field's pieces as an expression ────────────────────────────────────────────
held_nine : (names : ℕ) (g : Gathering) (ws : List (List ℕ)) → g.held ≡ 9 → (gather_all names g ws).held ≡ 9
unfolding gather_all
held_nine names g [] e = e
held_nine names g (w ∷ ws) e = held_nine names (gather_one names g (piece_answer w)) ws (go (read_piece w))
  where
    go : (o : Option L.Piece) → held_after g.held (effect_in (as_piece o)) ≡ 9
    go none = refl
    go (some p) = ap (λ (n : ℕ). held_after n (effect_in (as_piece (some p)))) e ∙ after_nine p

module _ (names : ℕ) where
  pub data Run (g : Gathering) (ws : List (List ℕ)) : Option L.Expression → Type 0 where
    out : (gather_all names g ws).held ≡ 9 → Run g ws none
    ran : {e : L.Expression} → (gather_all names g ws).held ≡ held_over e g.held → (gather_all names g ws).count ≡ g.count + length e
        → (gather_all names g ws).there ≡ (g.there && all (piece_is_there names) e) → Run g ws (some e)

  module _ (h : names ≤ cap) where
    run_more : (g : Gathering) (w : List ℕ) (ws : List (List ℕ)) (p : L.Piece) (o : Option L.Expression) → read_piece w ≡ some p
        → Run (gather_one names g (piece_answer w)) ws o → Run g (w ∷ ws) (bind o (λ e. some (p ∷ e)))
    unfolding gather_all held_over all
    run_more g w ws p none i (out e) = out e
    run_more g w ws p (some ps) i (ran e l t) =
        let a : piece_answer w ≡ as_piece (some p) = ap as_piece i in
        ran {e = p ∷ ps} (e ∙ ap (λ (q : Piece). held_over ps (held_after g.held (effect_in q))) a) (l ∙ (let m : g.count + 1 + length ps ≡ g.count + suc (length ps) = omega arith in m))
        (t ∙ ap (λ (q : Piece). (g.there && is_there_by names q) && all (piece_is_there names) ps) a ∙ rw (there_by names h p, and_assoc))

    run_step : (g : Gathering) (w : List ℕ) (ws : List (List ℕ)) (o : Option L.Piece) → read_piece w ≡ o
        → Run (gather_one names g (piece_answer w)) ws (each read_piece ws) → Run g (w ∷ ws) (bind o (λ p. bind (each read_piece ws) (λ e. some (p ∷ e))))
    unfolding gather_all
    run_step g w ws none e r = out (held_nine names (gather_one names g (piece_answer w)) ws (ap (λ (o : Option L.Piece). held_after g.held (effect_in (as_piece o))) e))
    run_step g w ws (some p) e r = run_more g w ws p (each read_piece ws) e r

    pub run_of : (g : Gathering) (ws : List (List ℕ)) → Run g ws (each read_piece ws)
    unfolding each gather_all held_over all
    run_of g [] = ran {e = []} refl (let m : g.count ≡ g.count + 0 = omega arith in m) (and_true g.there)
      where
        and_true : (t : Bool) → t ≡ (t && true)
        and_true true = refl
        and_true false = refl
    run_of g (w ∷ ws) = run_step g w ws (read_piece w) refl (run_of (gather_one names g (piece_answer w)) ws)

    said_of : (ws : List (List ℕ)) (o : Option L.Expression) (stop : ℕ) (next : Place) → Run nothing ws o
        → as_expression names (bind o (λ e. when (leaves_one e) e)) stop next
        ≡ cond (eqb (gather_all names nothing ws).held 1) (expression_with (gather_all names nothing ws).count (gather_all names nothing ws).there stop next) None
    said_of ws none stop next (out e) = rw e
    said_of ws (some x) stop next (ran e l t) = rw (e, l, t, ← leaves_held x 0 (omega arith)) (go (leaves_one_from 0 x))
      where
        go : (u : Bool) → as_expression names (when u x) stop next ≡ cond u (expression_with (0 + length x) (all (piece_is_there names) x) stop next) None
        go true = let z : 0 + length x ≡ length x = omega arith in rw z
        go false = refl

    bind_some : {A : Type 0} (o : Option A) → bind o (λ a. some a) ≡ o
    bind_some none = refl
    bind_some (some a) = refl

    pub expression_open : (s : List ℕ) (p : Place) (stop : ℕ) → stop ≡ 9
        → expression_answer names s p stop ≡ cond (eqb (gather_all names nothing (field_pieces s p.offset)).held 1)
        (expression_with (gather_all names nothing (field_pieces s p.offset)).count (gather_all names nothing (field_pieces s p.offset)).there
        (get_or s (field_end s p.offset) 0) (passed s p.line (field_end s p.offset))) None
    unfolding next_field_lem read_expression
    expression_open s p stop e =
        rw (e, left_open s p.offset, bind_some (bind (each read_piece (field_pieces s p.offset)) (λ x. when (leaves_one x) x)))
        (said_of (field_pieces s p.offset) (each read_piece (field_pieces s p.offset)) _ _ (run_of nothing (field_pieces s p.offset)))

  pub expression_shut : (s : List ℕ) (p : Place) (stop : ℕ) → (stop ≡ 9 → ⊥) → expression_answer names s p stop ≡ None
  unfolding fields_left next_field_lem
  expression_shut s p stop n = rw (ne_eqb stop 9 n)

-- by the field's pieces
abbrev pub expression_by : P.Option (Read Gathering) → P.Option (Read Expression)
expression_by None = None
expression_by (Some f) = cond (eqb f.value.held 1) (expression_with f.value.count f.value.there f.stop f.next) None

pub expression_by_lem : (names : ℕ) → names ≤ cap → (s : List ℕ) (p : Place) (stop : ℕ) (r : P.Option (Read Gathering)) → r ≡ pieces_answer names s p stop → expression_by r ≡ expression_answer names s p stop
expression_by_lem names h s p stop r e = ap expression_by e ∙ go (eqb stop 9) refl
  where
    go : (t : Bool) → eqb stop 9 ≡ t
        → expression_by (cond t (Some (record { value = gather_all names nothing (field_pieces s p.offset); stop = get_or s (field_end s p.offset) 0; next = passed s p.line (field_end s p.offset) })) None)
        ≡ expression_answer names s p stop
    go true i = sym (expression_open names h s p stop (eqb-true stop 9 i))
    go false i = sym (expression_shut names s p stop (eqb-false stop 9 i))

-- ── the loop over a field ────────────────────────────────────────────────────────
-- what is gathered up to an offset and then from there on is what the whole field gives
pub record Gathered (names : ℕ) (s : List ℕ) (at₀ line at : ℕ) (g : Gathering) : Type 0 where
  pub place : OnField s at₀ line at
  pub few : g.count ≤ at
  pub same : gather_all names g (field_pieces s at) ≡ gather_all names nothing (field_pieces s at₀)

module _ (names : ℕ) (s : List ℕ) (at₀ line : ℕ) where
  pub gathering_begun : at₀ ≤ length s → Gathered names s at₀ line at₀ nothing
  gathering_begun h = record { place = begun s at₀ line h; few = omega arith; same = refl }

  module _ (at : ℕ) (g : Gathering) (v : Gathered names s at₀ line at g) (r : Taken) (ens : r ≡ taken_at s (record { offset = at; line = line }))
      (g' : Gathering) (one : g' ≡ gather_one names g (piece_answer (slice r.from r.to s))) where
    pub gathering_on : r.stop ≡ 32 → Gathered names s at₀ line r.next.offset g'
    unfolding gather_all
    gathering_on e =
        record {
          place = still_on s at₀ line at v.place r ens e;
          few = omega (arith, ap (λ (g : Gathering). g.count) one, v.few, moved_on s at₀ line at v.place r ens e);
          same = sym (sym v.same ∙ ap (gather_all names g) (more_pieces s at₀ line at v.place r ens e)
              ∙ ap (λ (h : Gathering). gather_all names h (field_pieces s r.next.offset)) (sym one));
        }

    pub gathering_done : (r.stop ≡ 32 → ⊥) → gather_all names nothing (field_pieces s at₀) ≡ g'
    unfolding gather_all
    gathering_done n = sym v.same ∙ ap (gather_all names g) (last_piece s at₀ line at v.place r ens n) ∙ sym one

    pub gathering_read : (place : Place) → place.offset ≡ at₀ → place.line ≡ line → (stop : ℕ) → stop ≡ 9 → (r.stop ≡ 32 → ⊥) → ◌≡◌ {A = P.Option (Read Gathering)} (Some (record { value = g'; stop = r.stop; next = r.next })) (pieces_answer names s place stop)
    gathering_read place i j stop e n =
        let a = gathering_done n in
        let b = stop_at_end s at₀ line at v.place r ens n in
        let d = next_at_end s at₀ line at v.place r ens n in
        rw (e, i, j, a, d, b)
