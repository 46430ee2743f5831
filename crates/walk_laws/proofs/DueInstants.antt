-- "The program makes every due instant between": where the due instants before t go through, nothing due before t is left, so the bound on
-- their number is never met. Letters: s and u states, m the next moment due, bound how many may still be made, o an outcome, d what was done.
use mathlib.Core.Path.{◌≡◌, refl, sym, ap, ◌∙◌, subst}
use mathlib.Core.Bool.{Bool, true, false, not}
use mathlib.Core.List.{List, [], ◌∷◌}
use Prim.Native.Nat.{ℕ, zero, suc, ◌+◌, ◌-◌, ◌≤◌, ◌<◌}
use lib.Dec.{ltb}
use borrow.Author.Tests.{le-ltb, ltb-true, ltb-false}
use native.Mathlib.Omega.{arith}
use Rattle.listing.specs.Listing.{Listing}
use Rattle.walk.specs.State.{State, Result, stop, ok}
use Rattle.walk.specs.Instant.{NextDue, never, moment, next_due, Done, instant}
use Rattle.walk.specs.Question7.{IsState}
use Rattle.walk.specs.Calls.{Outcome, refused, stopped, done, ask, answered, due_before, instant_from}
use Rattle.walk.specs.Session.{Then, goes_on_lem, ends, Played, played, after_then, and_then, call_from, due_next, due_or, due_instants_before, all_due_before, session_allowance}
use Rattle.walk_laws.proofs.AtRest.{LiteralsAreWords}
use Rattle.walk_laws.proofs.Due.{next_due_after_now}
use Rattle.walk_laws.proofs.Stays.{LeavesState, instant_leaves_state, values_are_words}

-- ── a call that went through ──────────────────────────────────────────────────────────────────────
ask_done : (n : ℕ) (b : Bool) (next : Outcome) (d : Done) → ask n b next ≡ done d → next ≡ done d
unfolding ask
ask_done n true next d e = e
ask_done n false next d e = let z : ◌≡◌ {A = ℕ} 0 1 = cc in absurd (let y : ⊥ = omega arith in y)

answered_done : (r : Result Done) (d : Done) → answered r ≡ done d → r ≡ ok d
unfolding answered
answered_done (stop k) d e = let z : ◌≡◌ {A = ℕ} 0 1 = cc in absurd (let y : ⊥ = omega arith in y)
answered_done (ok d') d e = cc

went_through : (listing : Listing) (s : State) (m allowance : ℕ) (d : Done) → instant_from listing s m [] allowance ≡ done d → instant listing s m [] allowance ≡ ok d
unfolding instant_from
went_through listing s m allowance d e = answered_done _ d (ask_done _ _ _ d (ask_done _ _ _ d (ask_done _ _ _ d (ask_done _ _ _ d e))))

-- ── what is due ───────────────────────────────────────────────────────────────────────────────────
nor_before_less : (x : NextDue) (n t : ℕ) → t ≤ n → due_before x n ≡ false → due_before x t ≡ false
unfolding due_before
nor_before_less never n t h e = refl
nor_before_less (moment m) n t h e = let l : n ≤ m = ltb-false m n e in le-ltb m t (omega arith)

no_inputs : values_are_words [] ≡ true
unfolding values_are_words
no_inputs = refl

goes_on_same : (s u : State) → goes_on_lem s ≡ goes_on_lem u → s ≡ u
goes_on_same s u e = cc

never_goes_on : (k n : ℕ) (u : State) → ends k n ≡ goes_on_lem u → ⊥
never_goes_on k n u e = let z : ◌≡◌ {A = ℕ} 0 1 = cc in omega arith

module _ (listing : Listing) (words : LiteralsAreWords listing) (t : ℕ) (fits : t ≤ 18446744073709551616) where
  -- What is claimed of a way on from a state.
  abbrev Clears : ℕ → (State → Played) → Type 0
  Clears bound rest = (s u : State) → IsState listing s → t ≤ s.now + bound → (rest s).next ≡ goes_on_lem u → due_before (next_due u) t ≡ false

  after_call : (bound : ℕ) (rest : State → Played) → Clears bound rest → (s u : State) (m : ℕ) → IsState listing s → t ≤ s.now + suc bound → next_due s ≡ moment m → m < t →
      (o : Outcome) → instant_from listing s m [] session_allowance ≡ o → (and_then (played s.now m o) rest).next ≡ goes_on_lem u → due_before (next_due u) t ≡ false
  unfolding and_then after_then played due_before
  after_call bound rest clears s u m h b n l (refused k) e g = absurd (never_goes_on k s.now u g)
  after_call bound rest clears s u m h b n l (stopped k) e g = absurd (never_goes_on k s.now u g)
  after_call bound rest clears s u m h b n l (done d) e g =
      let later : suc s.now ≤ m = ltb-false m (suc s.now) (ap (λ (x : NextDue). due_before x (suc s.now)) (sym n) ∙ next_due_after_now listing s h) in
      let now-due : due_before (next_due s) m ≡ false = ap (λ (x : NextDue). due_before x m) n ∙ le-ltb m m (omega arith) in
      let left = instant_leaves_state listing s m [] session_allowance words h (omega arith) now-due no_inputs d (went_through listing s m session_allowance d e) in
      clears d.state u left.is_state (omega (arith, left.moved)) g

  at_moment : (bound : ℕ) (rest : State → Played) → Clears bound rest → (s u : State) (m : ℕ) → IsState listing s → t ≤ s.now + suc bound → next_due s ≡ moment m →
      (x : Bool) → ltb m t ≡ x → (due_next listing x m rest s).next ≡ goes_on_lem u → due_before (next_due u) t ≡ false
  unfolding due_next call_from
  at_moment bound rest clears s u m h b n true e g =
      after_call bound rest clears s u m h b n (ltb-true m t e) (instant_from listing s m [] session_allowance) refl g
  at_moment bound rest clears s u m h b n false e g =
      subst (λ (v : State). due_before (next_due v) t ≡ false) (goes_on_same s u g) (ap (λ (x : NextDue). due_before x t) n ∙ (unfold due_before in e))

  by_due : (bound : ℕ) (rest : State → Played) → Clears bound rest → (s u : State) → IsState listing s → t ≤ s.now + suc bound →
      (x : NextDue) → next_due s ≡ x → (due_or listing x t rest s).next ≡ goes_on_lem u → due_before (next_due u) t ≡ false
  unfolding due_or due_before
  by_due bound rest clears s u h b never n g = subst (λ (v : State). due_before (next_due v) t ≡ false) (goes_on_same s u g) (ap (λ (x : NextDue). due_before x t) n)
  by_due bound rest clears s u h b (moment m) n g = at_moment bound rest clears s u m h b n (ltb m t) refl g

  bounded_clears : (bound : ℕ) → Clears bound (due_instants_before listing bound t)
  unfolding due_instants_before
  bounded_clears zero s u h b g =
      subst (λ (v : State). due_before (next_due v) t ≡ false) (goes_on_same s u g) (nor_before_less (next_due s) (suc s.now) t (omega arith) (next_due_after_now listing s h))
  bounded_clears (suc bound) s u h b g = by_due bound (due_instants_before listing bound t) (bounded_clears bound) s u h b (next_due s) refl g

  -- Where the due instants before t all go through, none is left.
  pub none_due_is_left : (s u : State) → IsState listing s → (all_due_before listing t s).next ≡ goes_on_lem u → due_before (next_due u) t ≡ false
  unfolding all_due_before
  none_due_is_left s u h g = bounded_clears (t - s.now) s u h (omega arith) g
