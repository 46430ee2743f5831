-- A run's calls, seen from one grower: those with number 0 turn its part one after another, all others leave it; and after a stop
-- every call is refused.
-- Letters: g the grower, listing the run's; s a state, p the grower's part of it, n the present moment, k a call, ks calls, o an outcome.
use mathlib.Core.Path.{◌≡◌, refl, sym, ap, ap₂, ◌∙◌, subst}
use mathlib.Core.Bool.{Bool, true, false, not}
use mathlib.Core.List.{List, [], ◌∷◌, ◌++◌}
use Prim.Native.Nat.{ℕ, suc, ◌<◌}
use native.Mathlib.Omega.{arith}
use borrow.Author.Tests.{ltb-true, not-true}
use lib.Dec.{ltb}
use Rattle.listing.specs.Listing.{Listing}
use Rattle.walk.specs.State.{State, Result, stop, ok}
use Rattle.walk.specs.Instant.{next_due, Done, instant}
use Rattle.walk.specs.Calls.{Machine, halted, running, Outcome, refused, stopped, done, ask, unstopped, due_before, inputs_rise, allowed, answered, instant_from, no_figures, outcome_figures}
use Rattle.walk.specs.Events.{Event, events_at}
use Rattle.walk.specs.Runs.{InstantCall, call_on, machine_after, Answered, answers_from, accepted_by, accepted, reported, time_after, time_from}
use Rattle.walk_halves.specs.Halves.{only_of, machine_from}
use Rattle.walk_halves.proofs.Due.{NotBefore, none_due_before}
use Rattle.walk_halves.proofs.Lent.{own_writes, only_events, only_both}
use Rattle.walk_halves.proofs.Part.{Grower, args, Part, next_of, Turned, determined, undisturbed}
use Rattle.walk_halves.proofs.Standing.{Standing}
use Rattle.walk_halves.proofs.Instants.{Setting, Stepped, instant_steps}
use Rattle.walk_halves.proofs.Merge as Merge
use Rattle.walk_halves.proofs.Merge.{all_inputs, all_reports, end_of, last_part}

-- ── a call with number 0 passed every question ────────────────────────────────────────────────────
refused_not_done : {A : Type 0} {k : ℕ} {d : Done} → refused k ≡ done d → A
refused_not_done e = absurd (let z : ◌≡◌ {A = ℕ} 0 1 = cc in let impossible : ⊥ = omega arith in impossible)

asked : (k : ℕ) (b : Bool) (next : Outcome) (d : Done) → ask k b next ≡ done d → (b ≡ true) × (next ≡ done d)
unfolding ask
asked k true next d e = (refl, e)
asked k false next d e = refused_not_done e

went_through : (o : Result Done) (d : Done) → answered o ≡ done d → o ≡ ok d
unfolding answered
went_through (stop k) d e = absurd (let z : ◌≡◌ {A = ℕ} 0 1 = cc in let impossible : ⊥ = omega arith in impossible)
went_through (ok a) d e = ap ok (cc)

pub record Passed (listing : Listing) (s : State) (k : InstantCall) (d : Done) : Type 0 where
  pub after : s.now < k.time
  pub none_due : NotBefore k.time (next_due s)
  pub rise : inputs_rise listing.inputs 0 k.inputs ≡ true
  pub went : instant listing s k.time k.inputs k.allowance ≡ ok d

pub passed : (listing : Listing) (s : State) (k : InstantCall) (d : Done) → call_on listing (running s) k ≡ done d → Passed listing s k d
unfolding call_on unstopped instant_from
passed listing s k d e =
    let (long, e₁) = asked 1 k.long_enough _ d e in
    let (after, e₂) = asked 9 (ltb s.now k.time) _ d e₁ in
    let (due, e₃) = asked 10 (not (due_before (next_due s) k.time)) _ d e₂ in
    let (rise, e₄) = asked 11 (inputs_rise listing.inputs 0 k.inputs) _ d e₃ in
    let (steps, e₅) = asked 12 (allowed k.allowance) _ d e₄ in
    record {
      after = ltb-true s.now k.time after;
      none_due = none_due_before k.time (next_due s) (not-true _ due);
      rise = rise;
      went = went_through _ d e₅;
    }

pub passed_start : (b : Bool) (o : Result Done) (d : Done) → ask 12 b (answered o) ≡ done d → o ≡ ok d
passed_start b o d e = went_through o d (asked 12 b (answered o) d e).1

-- ── the calls of a run ────────────────────────────────────────────────────────────────────────────
module _ (g : Grower) where
  abbrev pub Accepted : Type 0
  Accepted = Merge.Accepted Part next_of (Turned g) (determined g) (undisturbed g)

  abbrev pub Follow : ℕ → Part → List Accepted → Type 0
  Follow n p ss = Merge.Follow Part next_of (Turned g) (determined g) (undisturbed g) n p ss

  abbrev pub inputs_of : List Accepted → List Event
  inputs_of ss = all_inputs Part next_of (Turned g) (determined g) (undisturbed g) ss

  abbrev pub reports_of : List Accepted → List Event
  reports_of ss = all_reports Part next_of (Turned g) (determined g) (undisturbed g) ss

  abbrev pub end_from : ℕ → List Accepted → ℕ
  end_from n ss = end_of Part next_of (Turned g) (determined g) (undisturbed g) n ss

  abbrev pub last_from : Part → List Accepted → Part
  last_from p ss = last_part Part next_of (Turned g) (determined g) (undisturbed g) p ss

  -- What the grower has of the answers xs to a run's calls from the machine m on; its last part stands in the state that they leave, if they leave one.
  pub record Traced (listing : Listing) (m : Machine) (n : ℕ) (p : Part) (xs : List Answered) : Type 0 where
    pub steps : List Accepted
    pub follow : Follow n p steps
    pub inputs : inputs_of steps ≡ only_of g.field (accepted xs)
    pub reports : reports_of steps ≡ only_of g.field (reported xs)
    pub end : end_from n steps ≡ time_from n xs
    pub stands : (s : State) → machine_from m xs ≡ running s → Standing g listing s (last_from p steps)

  no_more : (listing : Listing) (m : Machine) (n : ℕ) (p : Part) → ((s : State) → m ≡ running s → Standing g listing s p) → Traced listing m n p []
  unfolding all_inputs all_reports end_of last_part only_of accepted reported time_from machine_from
  no_more listing m n p st = record { steps = []; follow = tt; inputs = refl; reports = refl; end = refl; stands = st }

  after_refusal : (listing : Listing) (m : Machine) (n j : ℕ) (p : Part) (k : InstantCall) (xs : List Answered) → Traced listing m n p xs →
      Traced listing m n p (record { call = k; outcome = refused j } ∷ xs)
  unfolding accepted accepted_by reported no_figures outcome_figures events_at time_from time_after machine_from machine_after
  after_refusal listing m n j p k xs rest =
      record { steps = rest.steps; follow = rest.follow; inputs = rest.inputs; reports = rest.reports; end = rest.end; stands = rest.stands }

  after_stop : (listing : Listing) (m : Machine) (n j : ℕ) (p : Part) (k : InstantCall) (xs : List Answered) → Traced listing (halted j) n p xs →
      Traced listing m n p (record { call = k; outcome = stopped j } ∷ xs)
  unfolding accepted accepted_by reported no_figures outcome_figures events_at time_from time_after machine_from machine_after
  after_stop listing m n j p k xs rest =
      record { steps = rest.steps; follow = rest.follow; inputs = rest.inputs; reports = rest.reports; end = rest.end; stands = rest.stands }

  module _ (listing : Listing) (setting : Setting g listing) where
    after_done : (s : State) (p : Part) (k : InstantCall) (d : Done) (xs : List Answered) → Passed listing s k d →
        (step : Stepped g listing k.time k.inputs p d) → Traced listing (running d.state) k.time step.part xs →
        Traced listing (running s) s.now p (record { call = k; outcome = done d } ∷ xs)
    unfolding all_inputs all_reports end_of last_part accepted accepted_by reported no_figures outcome_figures time_from time_after machine_from machine_after
    after_done s p k d xs through step rest =
        let listed = events_at k.time d.listed in
        record {
          steps = record {
            time = k.time;
            inputs = own_writes (args g) k.inputs;
            part = step.part;
            reports = only_of g.field listed;
          } ∷ rest.steps;
          follow = (
            record {
              after = through.after;
              none_missed = step.turned.none_missed;
              turned = step.turned;
              all_made = subst (λ n. NotBefore (suc n) (next_of step.part)) step.now step.standing.later;
            },
            rest.follow,
          );
          inputs = ap₂ ◌++◌ (sym (only_events g.field k.time k.inputs)) rest.inputs ∙
              sym (only_both g.field (events_at k.time k.inputs) (accepted xs));
          reports = ap (λ l. only_of g.field listed ++ l) rest.reports ∙ sym (only_both g.field listed (reported xs));
          end = rest.end;
          stands = rest.stands;
        }

    -- A stopped machine refuses every call from then on.
    halted_refuses : (b : Bool) → (i : ℕ) × (ask 1 b (refused 8) ≡ refused i)
    unfolding ask
    halted_refuses true = (8, refl)
    halted_refuses false = (1, refl)

    refused_halted : (j i n : ℕ) (p : Part) (k : InstantCall) (ks : List InstantCall) (o : Outcome) → o ≡ refused i →
        Traced listing (halted j) n p (answers_from listing (halted j) ks) →
        Traced listing (halted j) n p (record { call = k; outcome = o } ∷ answers_from listing (machine_after (halted j) o) ks)
    unfolding machine_after
    refused_halted j i n p k ks o e rest = rw e (after_refusal listing (halted j) n i p k _ rest)

    halted_is_no_state : {A : Type 0} {j : ℕ} {s : State} → halted j ≡ running s → A
    halted_is_no_state e = absurd (let z : ◌≡◌ {A = ℕ} 0 1 = cc in let impossible : ⊥ = omega arith in impossible)

    after_halt : (j n : ℕ) (p : Part) (ks : List InstantCall) → Traced listing (halted j) n p (answers_from listing (halted j) ks)
    unfolding answers_from call_on unstopped
    after_halt j n p [] = no_more listing (halted j) n p (λ s e. halted_is_no_state e)
    after_halt j n p (k ∷ ks) = let r = halted_refuses k.long_enough in refused_halted j r.0 n p k ks _ r.1 (after_halt j n p ks)

    abbrev Rest : List InstantCall → Type 0
    Rest ks = (s : State) (p : Part) → Standing g listing s p → Traced listing (running s) s.now p (answers_from listing (running s) ks)

    traced_call : (s : State) (p : Part) (k : InstantCall) (ks : List InstantCall) → Standing g listing s p → Rest ks → (o : Outcome) →
        call_on listing (running s) k ≡ o →
        Traced listing (running s) s.now p (record { call = k; outcome = o } ∷ answers_from listing (machine_after (running s) o) ks)
    unfolding machine_after
    traced_call s p k ks st rest (refused j) e = after_refusal listing (running s) s.now j p k _ (rest s p st)
    traced_call s p k ks st rest (stopped j) e = after_stop listing (running s) s.now j p k _ (after_halt j s.now p ks)
    traced_call s p k ks st rest (done d) e =
        let through = passed listing s k d e in
        let step = instant_steps g listing setting s p k.time k.inputs k.allowance d st through.none_due through.rise through.went in
        let from = rest d.state step.part step.standing in
        after_done s p k d _ through step (subst (λ n. Traced listing (running d.state) n step.part (answers_from listing (running d.state) ks)) step.now from)

    pub traced : (ks : List InstantCall) → Rest ks
    unfolding answers_from
    traced [] s p st = no_more listing (running s) s.now p (λ s' e. let same : s ≡ s' = cc in rw (← same) st)
    traced (k ∷ ks) s p st = traced_call s p k ks st (traced ks) (call_on listing (running s) k) refl
