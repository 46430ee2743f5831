-- What a board's results tell of its calls is what the walk's answers tell: number 0 means that the call went through.
-- Letters: o an outcome, k a call, j a number, t a moment, m what the machine stands for, cs a board's calls, xs the walk's answers to them.
use mathlib.Core.Path.{◌≡◌, refl, sym, ap, ap₂, ◌∙◌}
use mathlib.Core.Bool.{Bool, true, false}
use mathlib.Core.List.{List, [], ◌∷◌, ◌++◌}
use mathlib.Core.Option.{Option, some}
use Prim.Native.Nat.{ℕ, zero, suc, ◌≤◌}
use native.Mathlib.Omega.{arith}
use Rattle.listing.specs.Listing.{Listing}
use Rattle.walk.specs.State.{Result, stop, ok}
use Rattle.walk.specs.Instant.{Done}
use Rattle.walk.specs.Calls.{Layout, first_words, Machine, halted, running, is_stop, Outcome, refused, stopped, done, outcome_number, ask, unstopped, answered, instant_from}
use Rattle.walk.specs.Events.{events_at}
use Rattle.walk.specs.Runs.{InstantCall, call_on, machine_after, found_after_lem, Answered, answers_from, accepted_by, accepted, time_after, time_from}
use Rattle.walk.specs.Promises.{result_of}
use Rattle.walk.specs.Promises as Promises
use Rattle.walk.specs.Boards.{BoardCall, as_instant_call, as_instant_calls}
use Rattle.board_promises.specs.Sessions.{results_of, results_on, StopsAreNumbered, one_answer, LeavesTheWalks, no_call, one_call}
use Rattle.board_halves.specs.Boards.{if_zero, board_accepted, board_time, words_left}
use Rattle.walk_halves.specs.Halves.{machine_from}
use Rattle.walk_laws.proofs.Answers.{stop_is_not_0}

-- ── numbers other than 0 ──────────────────────────────────────────────────────────────────────────
number_of_question : (n j : ℕ) (b : Bool) (next : Outcome) → ask (suc n) b next ≡ refused j → (next ≡ refused j → 1 ≤ j) → 1 ≤ j
unfolding ask
number_of_question n j true next e h = h e
number_of_question n j false next e h = let same : suc n ≡ j = cc in omega arith

answer_not_refused : (j : ℕ) (r : Result Done) → answered r ≡ refused j → 1 ≤ j
unfolding answered
answer_not_refused j (stop k) e = absurd (let z : ◌≡◌ {A = ℕ} 0 1 = cc in let impossible : ⊥ = omega arith in impossible)
answer_not_refused j (ok d) e = absurd (let z : ◌≡◌ {A = ℕ} 0 1 = cc in let impossible : ⊥ = omega arith in impossible)

refused_is_not_0 : (listing : Listing) (m : Machine) (k : InstantCall) (j : ℕ) → call_on listing m k ≡ refused j → 1 ≤ j
unfolding call_on unstopped instant_from
refused_is_not_0 listing (halted i) k j e = number_of_question 0 j _ _ e λ f. let same : 8 ≡ j = cc in omega arith
refused_is_not_0 listing (running s) k j e =
    number_of_question 0 j _ _ e λ e₁. number_of_question 8 j _ _ e₁ λ e₂. number_of_question 9 j _ _ e₂ λ e₃.
    number_of_question 10 j _ _ e₃ λ e₄. number_of_question 11 j _ _ e₄ λ e₅. answer_not_refused j _ e₅

-- ── one call ──────────────────────────────────────────────────────────────────────────────────────
otherwise : {A : Type 0} (number : ℕ) (a b : A) → 1 ≤ number → if_zero number a b ≡ b
unfolding if_zero
otherwise zero a b h = absurd (omega arith)
otherwise (suc number) a b h = refl

module _ (k : InstantCall) where
  accepted_told : (o : Outcome) → ((j : ℕ) → o ≡ refused j → 1 ≤ j) → ((j : ℕ) → o ≡ stopped j → is_stop j ≡ true) →
      accepted_by k o ≡ if_zero (outcome_number o) (events_at k.time k.inputs) []
  unfolding accepted_by outcome_number if_zero
  accepted_told (refused j) h s = sym (otherwise j _ [] (h j refl))
  accepted_told (stopped j) h s = sym (otherwise j _ [] (stop_is_not_0 j (s j refl)))
  accepted_told (done d) h s = refl

  time_told : (t : ℕ) (o : Outcome) → ((j : ℕ) → o ≡ refused j → 1 ≤ j) → ((j : ℕ) → o ≡ stopped j → is_stop j ≡ true) →
      time_after t k o ≡ if_zero (outcome_number o) k.time t
  unfolding time_after outcome_number if_zero
  time_told t (refused j) h s = sym (otherwise j _ t (h j refl))
  time_told t (stopped j) h s = sym (otherwise j _ t (stop_is_not_0 j (s j refl)))
  time_told t (done d) h s = refl

-- ── the whole list ────────────────────────────────────────────────────────────────────────────────
pub record Told (cs : List BoardCall) (xs : List Answered) : Type 0 where
  pub accepts : accepted xs ≡ board_accepted cs
  pub times : (t : ℕ) → time_from t xs ≡ board_time t cs

head_result : (r r' : Promises.Result) (rs rs' : List Promises.Result) → r ∷ rs ≡ r' ∷ rs' → r ≡ r'
head_result r r' rs rs' e = cc

tail_results : (r r' : Promises.Result) (rs rs' : List Promises.Result) → r ∷ rs ≡ r' ∷ rs' → rs ≡ rs'
tail_results r r' rs rs' e = cc

first_stops : (a : Answered) (xs : List Answered) → StopsAreNumbered (a ∷ xs) → (j : ℕ) → a.outcome ≡ stopped j → is_stop j ≡ true
first_stops a xs (one_answer h rest) = h

later_stops : (a : Answered) (xs : List Answered) → StopsAreNumbered (a ∷ xs) → StopsAreNumbered xs
later_stops a xs (one_answer h rest) = rest

pub calls_told : (listing : Listing) (table machine : List ℕ) (m : Machine) (cs : List BoardCall) →
    results_on cs ≡ results_of (answers_from listing m (as_instant_calls table machine cs)) →
    StopsAreNumbered (answers_from listing m (as_instant_calls table machine cs)) → Told cs (answers_from listing m (as_instant_calls table machine cs))
unfolding answers_from as_instant_calls as_instant_call results_on results_of accepted time_from board_accepted board_time
calls_told listing table machine m [] e s = record { accepts = refl; times = λ t. refl }
calls_told listing table machine m (c ∷ cs) e s =
    let k = as_instant_call table machine c in
    let o = call_on listing m k in
    let a : Answered = record { call = k; outcome = o } in
    let xs = answers_from listing (machine_after m o) (as_instant_calls table c.machine_after cs) in
    let number : outcome_number o ≡ c.result.number =
    unfold result_of in ap (λ (r : Promises.Result). r.number) (sym (head_result c.result (result_of o) (results_on cs) (results_of xs) e)) in
    let refusals = refused_is_not_0 listing m k in
    let stops = first_stops a xs s in
    let rest = calls_told listing table c.machine_after (machine_after m o) cs
    (tail_results c.result (result_of o) (results_on cs) (results_of xs) e) (later_stops a xs s) in
    record {
      accepts = ap₂ ◌++◌ (accepted_told k o refusals stops ∙ ap (λ n. if_zero n (events_at k.time k.inputs) []) number) rest.accepts;
      times = λ t. ap (λ n. time_from n xs) (time_told k t o refusals stops ∙ ap (λ n. if_zero n k.time t) number) ∙ rest.times _;
    }

-- The words that the calls left stand for the machine that the walk's answers leave.
found_after : (m : Machine) (o : Outcome) → found_after_lem (some m) o ≡ some (machine_after m o)
unfolding found_after_lem machine_after
found_after m (refused k) = refl
found_after m (stopped k) = refl
found_after m (done d) = refl

pub left_told : (layout : Layout) (listing : Listing) (machine : List ℕ) (m : Machine) {found : Option Machine} {cs : List BoardCall} {xs : List Answered} →
    LeavesTheWalks layout listing found cs xs → found ≡ some m → layout.read_machine listing (first_words machine) ≡ some m →
    layout.read_machine listing (first_words (words_left machine cs)) ≡ some (machine_from m xs)
unfolding words_left machine_from
left_told layout listing machine m no_call f e = e
left_told layout listing machine m (one_call {c = c} {a = a} here rest) f e =
    let after = ap (λ (x : Option Machine). found_after_lem x a.outcome) f ∙ found_after m a.outcome in
    left_told layout listing c.machine_after (machine_after m a.outcome) rest after (here ∙ after)
