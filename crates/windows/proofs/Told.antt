-- A call goes through or is turned away, each in its cases and in no other. Letters: text the schedule's text, s the schedule, es the edges of the span, m, i and
-- v the lists before and m', i' and v' after, r the answer.
use mathlib.Core.Path.{◌≡◌, refl, ap, ◌∙◌}
use mathlib.Core.Bool.{Bool, true, false, ◌&&◌}
use mathlib.Core.List.{List, ◌++◌, map}
use mathlib.Core.Option.{Option, none, some}
use mathlib.Core.Logic.{◌⊎◌, inl, inr, ⊎_elim}
use Prim.Native.Nat.{ℕ}
use native.Mathlib.Omega.{arith}
use lib.Dec.{leb}
use lib.ListN.{length, take, drop, length-map}
use lib.Seq.{take_at, drop_at}
use borrow.Author.Tests.{leb-false}
use Rattle.listing.specs.Bytes.{Bytes}
use Rattle.schedule.specs.Schedule.{Schedule}
use Rattle.schedule.specs.Form.{read_schedule}
use Rattle.schedule.specs.Edges.{Edge, edges_in}
use Rattle.schedule_laws.proofs.Determine.{one_schedule}
use Rattle.schedule_laws.proofs.Sentence.{edges_of_lem}
use Rattle.windows.specs.Call.{long_enough, if_long_enough, of_schedule, windows_call, refused, listed, outcome_number, outcome_listed, list_after, ListedAs, WindowsFigures}
use Rattle.windows.specs.Told.{listed_edges, GoneThrough, TooShort, TurnedAway}
use Rattle.windows.specs.declared.answer.Listed.{Listed}

-- ── question 1 ────────────────────────────────────────────────────────────────────────────────────
short_list : (es : List Edge) (m i v : List ℕ) → long_enough es m i v ≡ false → TooShort (length es) m i v
unfolding long_enough
short_list es m i v e = go (leb (length es) (length m)) (leb (length es) (length i)) (leb (length es) (length v)) refl refl refl e
  where
    go : (a b c : Bool) → leb (length es) (length m) ≡ a → leb (length es) (length i) ≡ b → leb (length es) (length v) ≡ c → (a && (b && c)) ≡ false → TooShort (length es) m i v
    go false b c p q r e = inl (leb-false _ _ p)
    go true false c p q r e = inr (inl (leb-false _ _ q))
    go true true false p q r e = inr (inr (leb-false _ _ r))
    go true true true p q r e = absurd (let z : ◌≡◌ {A = ℕ} 0 1 = cc in omega arith)

-- ── what the lists hold ───────────────────────────────────────────────────────────────────────────
front : (f : Edge → ℕ) (es : List Edge) (l : List ℕ) → take (length es) (map f es ++ drop (length es) l) ≡ map f es
front f es l = take_at (map f es) (drop (length es) l) (length es) (length-map es f)

behind : (f : Edge → ℕ) (es : List Edge) (l : List ℕ) → drop (length es) (map f es ++ drop (length es) l) ≡ drop (length es) l
behind f es l = drop_at (map f es) (drop (length es) l) (length es) (length-map es f)

module _ (text : Bytes) (from to : ℕ) (m i v m' i' v' : List ℕ) (r : Listed) where
  abbrev Told : Type 0
  Told = GoneThrough text from to m i v m' i' v' r ⊎ TurnedAway text from to m i v m' i' v' r

  through : (s : Schedule) → read_schedule text ≡ some s → long_enough (edges_in s from to) m i v ≡ true → ListedAs (listed (edges_in s from to)) m i v m' i' v' r → GoneThrough text from to m i v m' i' v' r
  unfolding outcome_number outcome_listed list_after
  through s e l t =
      let es = edges_in s from to in
      let n = t.listed_is in
      let a : take (length es) m' ≡ map (λ x. x.moment) es = rw t.moments_are (front (λ x. x.moment) es m) in
      let b : take (length es) i' ≡ map (λ x. x.input) es = rw t.inputs_are_lem (front (λ x. x.input) es i) in
      let c : take (length es) v' ≡ map (λ x. x.value) es = rw t.values_are (front (λ x. x.value) es v) in
      record {
        schedule = s;
        reads = e;
        long = l;
        number_is = t.number_is_lem;
        place_is = t.place_is_lem;
        counted = n;
        listed_are = rw (n, a, b, c) (edges_of_lem es);
        moments_stay = rw (n, t.moments_are) (behind (λ x. x.moment) es m);
        inputs_stay = rw (n, t.inputs_are_lem) (behind (λ x. x.input) es i);
        values_stay = rw (n, t.values_are) (behind (λ x. x.value) es v);
      }

  short : (s : Schedule) → read_schedule text ≡ some s → long_enough (edges_in s from to) m i v ≡ false → ListedAs (refused 1) m i v m' i' v' r → TurnedAway text from to m i v m' i' v' r
  unfolding outcome_number outcome_listed list_after
  short s e l t =
      record {
        cause = inr (t.number_is_lem, (s, e, short_list (edges_in s from to) m i v l));
        place_is = t.place_is_lem;
        none_listed = t.listed_is;
        moments_stay = t.moments_are;
        inputs_stay = t.inputs_are_lem;
        values_stay = t.values_are;
      }

  bad : read_schedule text ≡ none → ListedAs (refused 19) m i v m' i' v' r → TurnedAway text from to m i v m' i' v' r
  unfolding outcome_number outcome_listed list_after
  bad e t =
      record {
        cause = inl (t.number_is_lem, e);
        place_is = t.place_is_lem;
        none_listed = t.listed_is;
        moments_stay = t.moments_are;
        inputs_stay = t.inputs_are_lem;
        values_stay = t.values_are;
      }

  -- the number of an answer decides: 0, or one of the two questions
  pub told : WindowsFigures text from to m i v m' i' v' r → Told
  unfolding windows_call
  told t = by_text (read_schedule text) refl t
    where
      by_length : (s : Schedule) → read_schedule text ≡ some s → (b : Bool) → long_enough (edges_in s from to) m i v ≡ b → ListedAs (if_long_enough b (edges_in s from to)) m i v m' i' v' r → Told
      by_length s e true l t = inl (through s e l (unfold if_long_enough in t))
      by_length s e false l t = inr (short s e l (unfold if_long_enough in t))

      by_text : (o : Option Schedule) → read_schedule text ≡ o → ListedAs (of_schedule o from to m i v) m i v m' i' v' r → Told
      by_text none e t = inr (bad e (unfold of_schedule in t))
      by_text (some s) e t = by_length s e (long_enough (edges_in s from to) m i v) refl (unfold of_schedule in t)

  pub goes_through : WindowsFigures text from to m i v m' i' v' r → r.number ≡ 0 → GoneThrough text from to m i v m' i' v' r
  goes_through t z = ⊎_elim (λ g. g) (λ a. ⊎_elim (λ c. absurd (omega (arith, c.0))) (λ c. absurd (omega (arith, c.0))) a.cause) (told t)

  -- the edges listed, of the schedule that the text reads as
  pub listed_are : WindowsFigures text from to m i v m' i' v' r → r.number ≡ 0 → (s : Schedule) → read_schedule text ≡ some s → listed_edges r.listed m' i' v' ≡ edges_in s from to
  listed_are t z s e =
      let g = goes_through t z in
      g.listed_are ∙ ap (λ (x : Schedule). edges_in x from to) (one_schedule text g.schedule s g.reads e)
