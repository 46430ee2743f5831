-- What a call leaves in lists of 960 places, for a span of at most an hour: all inputs of it, or nothing if the schedule is turned away.
use mathlib.Core.Path.{◌≡◌, refl, sym, ap, subst, ◌∙◌}
use mathlib.Core.Bool.{Bool, true}
use mathlib.Core.List.{List, [], ◌++◌, map}
use mathlib.Core.Option.{Option, none, some}
use Prim.Native.Nat.{ℕ, ◌+◌, ◌≤◌}
use native.Mathlib.Omega.{arith}
use lib.ListN.{length, take, drop, length-map}
use lib.Seq.{take-append_seam}
use borrow.Author.Tests.{le-leb}
use Rattle.listing.specs.Bytes.{Bytes}
use Rattle.schedule.specs.Schedule.{Schedule}
use Rattle.schedule.specs.Form.{read_schedule}
use Rattle.schedule.specs.Edges.{Edge, edges_in}
use Rattle.schedule.specs.Sentence.{edges_of}
use Rattle.schedule_laws.proofs.Places.{reading}
use Rattle.schedule_laws.proofs.Sentence.{edges_of_lem}
use Rattle.windows.specs.Call.{refused, listed, long_enough, if_long_enough, of_schedule, windows_call, outcome_listed, list_after, ListedAs, WindowsFigures}
use Rattle.windows.specs.declared.answer.Listed.{Listed}
use Rattle.windows_trace.specs.Trace.{edges_read}
use Rattle.windows_trace.proofs.FewEdges.{in_an_hour}
use Rattle.windows_trace.proofs.PutLines.{edges_to}

-- there are few of them, and their first places hold these edges
pub record Hold (ms is vs : List ℕ) (count : ℕ) (edges : List Edge) : Type 0 where
  pub few : count ≤ 960
  pub are : edges_to ms is vs count ≡ edges

-- ── lists that hold edges ─────────────────────────────────────────────────────────
taken : (f : Edge → ℕ) (es : List Edge) (l : List ℕ) (n : ℕ) → n ≡ length es → take n (map f es ++ l) ≡ map f es
taken f es l n e =
    let k : n ≡ length (map f es) = e ∙ sym (simp length-map) in
    ap (λ (j : ℕ). take j (map f es ++ l)) k ∙ take-append_seam (map f es) l

nothing : (ms is vs : List ℕ) (n : ℕ) → n ≡ 0 → edges_to ms is vs n ≡ []
unfolding edges_of
nothing ms is vs n e = rw e refl

module _ (ms is vs ms' is' vs' : List ℕ) (r : Listed) where
  all_held : (es : List Edge) → length es ≤ 960 → ListedAs (listed es) ms is vs ms' is' vs' r → Hold ms' is' vs' r.listed es
  unfolding list_after outcome_listed
  all_held es h g =
      let n = g.listed_is in
      record {
        few = omega arith;
        are =
            rw (
              g.moments_are,
              g.inputs_are_lem,
              g.values_are,
              taken (λ e. e.moment) es (drop (length es) ms) r.listed n,
              taken (λ e. e.input) es (drop (length es) is) r.listed n,
              taken (λ e. e.value) es (drop (length es) vs) r.listed n,
            ) (edges_of_lem es);
      }

  none_held : (number : ℕ) → ListedAs (refused number) ms is vs ms' is' vs' r → Hold ms' is' vs' r.listed []
  unfolding outcome_listed
  none_held number g =
      let n = g.listed_is in record { few = omega arith; are = nothing ms' is' vs' r.listed n }

  long : (es : List Edge) → length es ≤ 960 → length ms ≡ 960 → length is ≡ 960 → length vs ≡ 960 → long_enough es ms is vs ≡ true
  unfolding long_enough
  long es h a b c =
      rw (le-leb (length es) (length ms) (omega arith), le-leb (length es) (length is) (omega arith), le-leb (length es) (length vs) (omega arith)) refl

  enough : (es : List Edge) → length es ≤ 960 → length ms ≡ 960 → length is ≡ 960 → length vs ≡ 960
      → ListedAs (if_long_enough (long_enough es ms is vs) es) ms is vs ms' is' vs' r → Hold ms' is' vs' r.listed es
  unfolding if_long_enough
  enough es h a b c g =
      all_held es h (subst (λ (t : Bool). ListedAs (if_long_enough t es) ms is vs ms' is' vs' r) (long es h a b c) g)

  none_read : (from to : ℕ) → ListedAs (of_schedule none from to ms is vs) ms is vs ms' is' vs' r → Hold ms' is' vs' r.listed (edges_read none from to)
  unfolding of_schedule edges_read
  none_read from to g = none_held 19 g

  some_read : (s : Schedule) (from to : ℕ) → length (edges_in s from to) ≤ 960 → length ms ≡ 960 → length is ≡ 960 → length vs ≡ 960
      → ListedAs (of_schedule (some s) from to ms is vs) ms is vs ms' is' vs' r → Hold ms' is' vs' r.listed (edges_read (some s) from to)
  unfolding of_schedule edges_read
  some_read s from to h a b c g = enough (edges_in s from to) h a b c g

  -- ── the call ──────────────────────────────────────────────────────────────────────
  pub hour_held : (text : Bytes) (from to : ℕ) → to ≤ from + 3600000 → length ms ≡ 960 → length is ≡ 960 → length vs ≡ 960
      → WindowsFigures text from to ms is vs ms' is' vs' r → Hold ms' is' vs' r.listed (edges_read (read_schedule text) from to)
  unfolding windows_call
  hour_held text from to h a b c g = by (read_schedule text) refl g
    where
      by : (o : Option Schedule) → read_schedule text ≡ o → ListedAs (of_schedule o from to ms is vs) ms is vs ms' is' vs' r
          → Hold ms' is' vs' r.listed (edges_read o from to)
      by none e g = none_read from to g
      by (some s) e g = some_read s from to (in_an_hour s (reading text s e).is_schedule from to h) a b c g
