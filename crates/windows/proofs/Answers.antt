-- What the call gives and leaves, by its outcome. Letters: es the edges of the span, m, i and v the three lists.
use mathlib.Core.Path.{◌≡◌, refl, ap, ◌∙◌}
use mathlib.Core.Bool.{true, false, and-false}
use mathlib.Core.List.{List, [], ◌++◌, map}
use mathlib.Core.Option.{none, some}
use Prim.Native.Nat.{ℕ, ◌+◌, ◌≤◌, ◌<◌}
use native.Mathlib.Omega.{arith}
use lib.Dec.{leb}
use lib.ListN.{length, drop, length-map}
use lib.Seq.{sets, sets-eq}
use borrow.Author.Tests.{le-leb, lt-leb}
use Rattle.schedule.specs.Schedule.{Schedule}
use Rattle.schedule.specs.Form.{read_schedule}
use Rattle.schedule.specs.Edges.{Edge, edges_in}
use Rattle.schedule_list.specs.Lists.{Fits, Written}
use Rattle.windows.specs.Call.{long_enough, if_long_enough, of_schedule, windows_call, outcome_number, outcome_listed, list_after, ListedAs, WindowsFigures, refusal}
use Rattle.windows.specs.declared.answer.Listed.{Listed}

-- ── question 1 ────────────────────────────────────────────────────────────────────────────────────
module _ (es : List Edge) (m i v : List ℕ) where
  abbrev Told : List ℕ → List ℕ → List ℕ → Listed → Type 0
  Told m' i' v' r = ListedAs (if_long_enough (long_enough es m i v) es) m i v m' i' v' r

  too_short : long_enough es m i v ≡ false → (r : Listed) → r ≡ refusal 1 → Told m i v r
  unfolding if_long_enough outcome_number outcome_listed list_after
  too_short e r f = rw (e, f) (record { number_is_lem = refl; place_is_lem = refl; listed_is = refl; moments_are = refl; inputs_are_lem = refl; values_are = refl })

  pub moments_short : length m < length es → (r : Listed) → r ≡ refusal 1 → Told m i v r
  moments_short h = too_short (unfold long_enough in rw (lt-leb (length es) (length m) h))

  pub inputs_short : length i < length es → (r : Listed) → r ≡ refusal 1 → Told m i v r
  inputs_short h = too_short (unfold long_enough in rw (lt-leb (length es) (length i) h, and-false (leb (length es) (length m))))

  pub values_short : length v < length es → (r : Listed) → r ≡ refusal 1 → Told m i v r
  values_short h = too_short (unfold long_enough in rw (lt-leb (length es) (length v) h, and-false (leb (length es) (length i)), and-false (leb (length es) (length m))))

  long : Fits es 0 m i v → long_enough es m i v ≡ true
  unfolding long_enough
  long f =
      rw (
        le-leb (length es) (length m) (omega (arith, f.moments_long)),
        le-leb (length es) (length i) (omega (arith, f.inputs_long)),
        le-leb (length es) (length v) (omega (arith, f.values_long)),
      )

  -- edges at a list's beginning
  written_front : (f : Edge → ℕ) (l : List ℕ) → length es ≤ length l → sets l 0 (map f es) ≡ map f es ++ drop (length es) l
  written_front f l h =
      let n = length-map es f in
      let e : 0 + length (map f es) ≡ length es = omega arith in
      sets-eq (map f es) l 0 (omega arith) ∙ ap (λ (x : ℕ). map f es ++ drop x l) e

  pub all_told : Fits es 0 m i v → {m' i' v' : List ℕ} {n : ℕ} → Written es 0 m i v m' i' v' n → (r : Listed) → r ≡ record { number = 0; place = 0; listed = n } → Told m' i' v' r
  unfolding if_long_enough outcome_number outcome_listed list_after
  all_told f {n = n} w r e =
      let k : n ≡ length es = w.next_is_lem ∙ omega arith in
      rw (long f, e) (record {
        number_is_lem = refl;
        place_is_lem = refl;
        listed_is = k;
        moments_are = w.moments_are_lem ∙ written_front (λ x. x.moment) m (omega (arith, f.moments_long));
        inputs_are_lem = w.inputs_are ∙ written_front (λ x. x.input) i (omega (arith, f.inputs_long));
        values_are = w.values_are_lem ∙ written_front (λ x. x.value) v (omega (arith, f.values_long));
      })

pub nothing_told : (es : List Edge) (m i v : List ℕ) → es ≡ [] → (r : Listed) → r ≡ record { number = 0; place = 0; listed = 0 } → ListedAs (if_long_enough (long_enough es m i v) es) m i v m i v r
nothing_told es m i v e r f =
    rw e (all_told [] m i v (record { moments_long = omega arith; inputs_long = omega arith; values_long = omega arith })
    (record { moments_are_lem = refl; inputs_are = refl; values_are_lem = refl; next_is_lem = refl }) r f)

-- ── question 19 ───────────────────────────────────────────────────────────────────────────────────
module _ (text : List ℕ) (from to : ℕ) (m i v : List ℕ) where
  pub out_of_form_lem : read_schedule text ≡ none → (r : Listed) → r ≡ refusal 19 → WindowsFigures text from to m i v m i v r
  unfolding windows_call of_schedule outcome_number outcome_listed list_after
  out_of_form_lem e r f = rw (e, f) (record { number_is_lem = refl; place_is_lem = refl; listed_is = refl; moments_are = refl; inputs_are_lem = refl; values_are = refl })

  pub in_form : (s : Schedule) (es : List Edge) → read_schedule text ≡ some s → edges_in s from to ≡ es → {m' i' v' : List ℕ} {r : Listed} →
      ListedAs (if_long_enough (long_enough es m i v) es) m i v m' i' v' r → WindowsFigures text from to m i v m' i' v' r
  unfolding windows_call of_schedule
  in_form s es e f t = rw (e, f) t
