-- The due instants before a moment, one at a time: the bound on their number is never met, since moments rise.
-- Letters: s and u states, m the next moment due, b and c bounds, o an outcome, d what was done.
use mathlib.Core.Path.{◌≡◌, refl, sym, ap, ◌∙◌}
use mathlib.Core.Bool.{Bool, true, false}
use mathlib.Core.List.{List, []}
use Prim.Native.Nat.{ℕ, zero, suc, ◌+◌, ◌-◌, ◌≤◌, ◌<◌}
use lib.Dec.{ltb}
use borrow.Author.Tests.{le-ltb, lt-ltb, ltb-true, ltb-false}
use native.Mathlib.Omega.{arith}
use Rattle.listing.specs.Listing.{Listing}
use Rattle.walk.specs.State.{State, Result, stop, ok}
use Rattle.walk.specs.Instant.{NextDue, never, moment, next_due, Done, instant}
use Rattle.walk.specs.Question7.{IsState}
use Rattle.walk.specs.Calls.{Outcome, refused, stopped, done, ask, answered, due_before, instant_from}
use Rattle.walk.specs.Session.{Then, goes_on_lem, ends, Played, played, after_then, and_then, call_from, due_next, due_or, due_instants_before, all_due_before, session_allowance}
use Rattle.walk_laws.proofs.AtRest.{LiteralsAreWords}
use Rattle.walk_laws.proofs.Due.{next_due_after_now}
use Rattle.walk_laws.proofs.Stays.{LeavesState, instant_leaves_state, values_are_words}

-- ── a call that went through ──────────────────────────────────────────────────────────────────────
ask_done : (n : ℕ) (b : Bool) (next : Outcome) (d : Done) → ask n b next ≡ done d → next ≡ done d
unfolding ask
ask_done n true next d e = e
ask_done n false next d e = let z : ◌≡◌ {A = ℕ} 0 1 = cc in absurd (let y : ⊥ = omega arith in y)

answered_done : (r : Result Done) (d : Done) → answered r ≡ done d → r ≡ ok d
unfolding answered
answered_done (stop k) d e = let z : ◌≡◌ {A = ℕ} 0 1 = cc in absurd (let y : ⊥ = omega arith in y)
answered_done (ok d') d e = cc

went_through : (listing : Listing) (s : State) (m allowance : ℕ) (d : Done) → instant_from listing s m [] allowance ≡ done d → instant listing s m [] allowance ≡ ok d
unfolding instant_from
went_through listing s m allowance d e = answered_done _ d (ask_done _ _ _ d (ask_done _ _ _ d (ask_done _ _ _ d (ask_done _ _ _ d e))))

no_inputs : values_are_words [] ≡ true
unfolding values_are_words
no_inputs = refl

module _ (listing : Listing) (words : LiteralsAreWords listing) (t : ℕ) (fits : t ≤ 18446744073709551616) where
  due_after_now : (s : State) (m : ℕ) → IsState listing s → next_due s ≡ moment m → suc s.now ≤ m
  unfolding due_before
  due_after_now s m h n = ltb-false m (suc s.now) (ap (λ (x : NextDue). due_before x (suc s.now)) (sym n) ∙ next_due_after_now listing s h)

  -- What the call at the next moment due leaves.
  left_by_due : (s : State) (m : ℕ) (d : Done) → IsState listing s → next_due s ≡ moment m → m < t → instant_from listing s m [] session_allowance ≡ done d → LeavesState listing m d
  unfolding due_before
  left_by_due s m d h n l e =
      let now-due : due_before (next_due s) m ≡ false = ap (λ (x : NextDue). due_before x m) n ∙ le-ltb m m (omega arith) in
      instant_leaves_state listing s m [] session_allowance words h (omega arith) now-due no_inputs d (went_through listing s m session_allowance d e)

  -- Two ways on from a state are the same, where their bounds are large enough.
  abbrev Same : ℕ → ℕ → Type 0
  Same b c = (s : State) → IsState listing s → t ≤ s.now + b → t ≤ s.now + c → due_instants_before listing b t s ≡ due_instants_before listing c t s

  after_call : (f g : State → Played) (now m : ℕ) (o : Outcome) → ((d : Done) → o ≡ done d → f d.state ≡ g d.state) →
      and_then (played now m o) f ≡ and_then (played now m o) g
  unfolding and_then after_then played
  after_call f g now m (refused k) same = refl
  after_call f g now m (stopped k) same = refl
  after_call f g now m (done d) same = rw (same d refl)

  at_moment : (f g : State → Played) (s : State) (m : ℕ) →
      ((d : Done) → m < t → instant_from listing s m [] session_allowance ≡ done d → f d.state ≡ g d.state) →
      (x : Bool) → ltb m t ≡ x → due_next listing x m f s ≡ due_next listing x m g s
  unfolding due_next call_from
  at_moment f g s m same true e = after_call f g s.now m (instant_from listing s m [] session_allowance) (λ d. same d (ltb-true m t e))
  at_moment f g s m same false e = refl

  by_due : (f g : State → Played) (s : State) → ((m : ℕ) (d : Done) → next_due s ≡ moment m → m < t → instant_from listing s m [] session_allowance ≡ done d → f d.state ≡ g d.state) →
      (x : NextDue) → next_due s ≡ x → due_or listing x t f s ≡ due_or listing x t g s
  unfolding due_or
  by_due f g s same never n = refl
  by_due f g s same (moment m) n = at_moment f g s m (λ d. same m d n) (ltb m t) refl

  -- Nothing is due before t where t has come.
  none_left : (s : State) (f : State → Played) → IsState listing s → t ≤ s.now → (x : NextDue) → next_due s ≡ x → due_or listing x t f s ≡ record { writes = []; next = goes_on_lem s }
  unfolding due_or due_next
  none_left s f h l never n = refl
  none_left s f h l (moment m) n = rw (le-ltb m t (let a = due_after_now s m h n in omega arith))

  bounds_same : (b c : ℕ) → Same b c
  unfolding due_instants_before
  bounds_same zero zero s h p q = refl
  bounds_same zero (suc c) s h p q = sym (none_left s (due_instants_before listing c t) h (omega arith) (next_due s) refl)
  bounds_same (suc b) zero s h p q = none_left s (due_instants_before listing b t) h (omega arith) (next_due s) refl
  bounds_same (suc b) (suc c) s h p q =
      by_due (due_instants_before listing b t) (due_instants_before listing c t) s
      (λ m d n l e.
      let left = left_by_due s m d h n l e in
      let a = due_after_now s m h n in
      bounds_same b c d.state left.is_state (omega (arith, left.moved)) (omega (arith, left.moved)))
      (next_due s) refl

  -- All due instants before t: the next of them and then all due instants before t, or none.
  one_due_lem : (b : ℕ) (s : State) → IsState listing s → t ≤ s.now + b → due_instants_before listing b t s ≡ due_or listing (next_due s) t (all_due_before listing t) s
  unfolding due_instants_before all_due_before
  one_due_lem zero s h p = sym (none_left s (all_due_before listing t) h (omega arith) (next_due s) refl)
  one_due_lem (suc b) s h p =
      by_due (due_instants_before listing b t) (all_due_before listing t) s
      (λ m d n l e.
      let left = left_by_due s m d h n l e in
      let a = due_after_now s m h n in
      bounds_same b (t - d.state.now) d.state left.is_state (omega (arith, left.moved)) (omega arith))
      (next_due s) refl

  pub next_due_first : (s : State) → IsState listing s → all_due_before listing t s ≡ due_or listing (next_due s) t (all_due_before listing t) s
  unfolding all_due_before
  next_due_first s h = one_due_lem (t - s.now) s h (omega arith)
