-- From what a call promises and tells to the walk's state. Letters: l the listing, o the outcome, d what was done.
use mathlib.Core.Path.{◌≡◌, refl, sym, ap, subst, ◌∙◌}
use mathlib.Core.List.{List, [], ◌∷◌, ◌++◌, map}
use mathlib.Core.Option.{some}
use Prim.Native.Nat.{ℕ, ◌≤◌}
use lib.ListN.{length, take, drop}
use native.Mathlib.Omega.{arith}
use Rattle.listing.specs.Listing.{Listing}
use Rattle.walk.specs.State.{State}
use Rattle.walk.specs.Instant.{Write, next_due, Done}
use Rattle.walk.specs.Calls.{Words32, Outcome, refused, stopped, done, outcome_number, no_figures, outcome_figures, MachineAfter, runs, numbers_after, values_after, inputs_of, first_words, running, start_on, instant_from, start_call, instant_call}
use Rattle.walk.specs.Promises.{Result, Keeps}
use Rattle.walk.specs.Promises as promises
use Rattle.walk.specs.Session.{session_allowance}
use Rattle.layout.specs.Layout.{layout}
use Rattle.session_calls.specs.Clock.{Runs}
use Rattle.session_calls.specs.Calls.{Tells, Goes, refuses, stops, Made}
use Rattle.session_calls.specs.Calls as specs
use Rattle.session_calls.specs.declared.clock.Clock.{Clock}
use Rattle.session_calls.specs.declared.calls.Called.{Called}
use Rattle.session_calls.specs.declared.calls.Called.TheVariants.{Ended, Went}
use Rattle.session_calls.proofs.Lawful.{is_state}
use Rattle.session_calls.proofs.Outcomes.{Numbered, by_refusal, by_stop, without, Moved, moves, start_numbered, instant_numbered, start_moves, instant_moves, start_is, instant_is}

-- ── the lists' first places are the listed writes ─────────────────────────────────────────────────
writes_back : (ws : List Write) (ns vs : List ℕ) →
    inputs_of (take (length ws) (map (λ (w : Write). w.number) ws ++ ns)) (take (length ws) (map (λ (w : Write). w.value) ws ++ vs)) ≡ ws
unfolding inputs_of
writes_back [] ns vs = refl
writes_back (w ∷ ws) ns vs = rw (writes_back ws ns vs)

same_listing : (table : List ℕ) (l k : Listing) → layout.read_table (first_words table) ≡ some l → layout.read_table (first_words table) ≡ some k → k ≡ l
same_listing table l k e f = cc

module _ (table before machine numbers_before values_before numbers values : List ℕ) (l : Listing) (result : Result) (t : ℕ)
    (reads : layout.read_table (first_words table) ≡ some l) (words : Words32 machine) where
  -- ── with a number ───────────────────────────────────────────────────────────────────────────────
  ends_with : (k : ℕ) (o : Outcome) (called : Called) → 1 ≤ k → result.number ≡ k → Goes table machine numbers values l t o (Ended k) → Tells result t called →
      Goes table machine numbers values l t o called
  ends_with k o _ least e g (specs.Tells.ended {k = n} is nonzero) = subst (λ (x : ℕ). Goes table machine numbers values l t o (Ended x)) (sym e ∙ sym is) g
  ends_with k o _ least e g (specs.Tells.went none at due listed) = absurd (let y : ⊥ = omega arith in y)

  -- ── without one ─────────────────────────────────────────────────────────────────────────────────
  goes_on : (d : Done) (called : Called) → d.state.now ≡ t → layout.read_machine l (first_words machine) ≡ some (running d.state) → result.number ≡ 0 →
      result.due ≡ next_due d.state → inputs_of (take result.listed numbers) (take result.listed values) ≡ d.listed → Tells result t called →
      Goes table machine numbers values l t (done d) called
  goes_on d _ moved stands none due listed (specs.Tells.ended is nonzero) = absurd (nonzero (is ∙ none))
  goes_on d _ moved stands none due listed (specs.Tells.went {clock = clock} {listed = n} zero at told same) =
      specs.Goes.goes {d = d} {clock = clock} {listed = n} moved at (record { of_table = reads; of_machine = stands; words = words; present = at ∙ sym moved; due = told ∙ due })
      (ap (λ (k : ℕ). inputs_of (take k numbers) (take k values)) same ∙ listed)

  done_goes : (d : Done) (called : Called) → Keeps layout table before numbers_before values_before machine numbers values (done d) result → Moved t (done d) →
      MachineAfter layout table before machine (done d) → Tells result t called → Goes table machine numbers values l t (done d) called
  unfolding promises.result_of outcome_number no_figures outcome_figures numbers_after values_after
  done_goes d called keeps (moves at) (runs {listing = k} of_table of_machine zero size past) tells =
      let same : k ≡ l = same_listing table l k reads of_table in
      let stands : layout.read_machine l (first_words machine) ≡ some (running d.state) = subst (λ (x : Listing). layout.read_machine x (first_words machine) ≡ some (running d.state)) same of_machine in
      let listed : inputs_of (take result.listed numbers) (take result.listed values) ≡ d.listed =
      rw (keeps.result, keeps.numbers_are, keeps.values_are) (writes_back d.listed (drop (length d.listed) numbers_before) (drop (length d.listed) values_before)) in
      goes_on d called at stands (ap (λ (x : Result). x.number) keeps.result) (ap (λ (x : Result). x.due) keeps.result) listed tells

  call_goes : (o : Outcome) (called : Called) → Keeps layout table before numbers_before values_before machine numbers values o result → Numbered o → Moved t o → Tells result t called →
      Goes table machine numbers values l t o called
  unfolding promises.result_of outcome_number
  call_goes _ called keeps (by_refusal {k} least) m tells = ends_with k (refused k) called least (ap (λ (x : Result). x.number) keeps.result) (refuses least) tells
  call_goes _ called keeps (by_stop {k} least) m tells = ends_with k (stopped k) called least (ap (λ (x : Result). x.number) keeps.result) (stops least) tells
  call_goes _ called keeps (without {d}) m tells = done_goes d called keeps m keeps.machine_is tells

pub made_of : {o : Outcome} {t : ℕ} {table before numbers_before values_before machine numbers values : List ℕ} {called : Called} (result : Result) →
    Keeps layout table before numbers_before values_before machine numbers values o result → Words32 machine → Tells result t called →
    Made o t table before numbers_before values_before machine numbers values called
made_of result promise words tells = record { result = result; promise = promise; words = words; tells = tells }

-- ── the two calls, with memories that are long enough ─────────────────────────────────────────────
module _ {table before numbers_before values_before machine numbers values : List ℕ} {called : Called}
    (t-long : 12288 ≤ length table) (m-long : 12288 ≤ length before) (n-long : 16 ≤ length numbers_before) (v-long : 16 ≤ length values_before) where
  pub start_walks : Made (start_call layout table before numbers_before values_before session_allowance) 0 table before numbers_before values_before machine numbers values called →
      (l : Listing) → layout.read_table (first_words table) ≡ some l → Goes table machine numbers values l 0 (start_on l session_allowance) called
  start_walks c l reads =
      let same = start_is layout table before numbers_before values_before l t-long m-long n-long v-long reads session_allowance in
      call_goes table before machine numbers_before values_before numbers values l c.result 0 reads c.words (start_on l session_allowance) called
      (subst (λ (o : Outcome). Keeps layout table before numbers_before values_before machine numbers values o c.result) same c.promise)
      (start_numbered l session_allowance) (start_moves l session_allowance) c.tells

  pub instant_walks : (t : ℕ) (in_numbers in_values : List ℕ) → length in_numbers ≡ length in_values →
      Made (instant_call layout table before t in_numbers in_values numbers_before values_before session_allowance) t table before numbers_before values_before machine numbers values called →
      (l : Listing) (s : State) (clock : Clock) → Runs table before clock l s →
      Goes table machine numbers values l t (instant_from l s t (inputs_of in_numbers in_values) session_allowance) called
  instant_walks t in_numbers in_values e c l s clock standing =
      let inputs = inputs_of in_numbers in_values in
      let same = instant_is layout table before numbers_before values_before l t-long m-long n-long v-long standing.of_table s t in_numbers in_values session_allowance e standing.of_machine in
      call_goes table before machine numbers_before values_before numbers values l c.result t standing.of_table c.words (instant_from l s t inputs session_allowance) called
      (subst (λ (o : Outcome). Keeps layout table before numbers_before values_before machine numbers values o c.result) same c.promise)
      (instant_numbered l s t inputs session_allowance (is_state standing)) (instant_moves l s t inputs session_allowance) c.tells
