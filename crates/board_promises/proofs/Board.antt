-- A board's whole session: its listing was loaded, its start answered as the walk's start does, and its calls answered as the walk.
-- Letters: run a board's session, listing what its table stands for, o the start's outcome.
use mathlib.Core.Path.{◌≡◌, refl, sym, ap, ◌∙◌, subst}
use mathlib.Core.Bool.{Bool, true, false}
use mathlib.Core.List.{List, [], ◌∷◌}
use mathlib.Core.Option.{Option, none, some}
use Prim.Native.Nat.{ℕ, zero, suc, ◌≤◌}
use native.Mathlib.Omega.{arith}
use Rattle.listing.specs.Listing.{Listing}
use Rattle.listing.specs.Load.{Loading, loading_number, loading, questions2to5, Loads, is_long_enough}
use Rattle.listing.specs.Load as Load
use Rattle.listing.specs.Questions.{place2, place3, place4, place5, listing_in}
use Rattle.walk.specs.State.{Result}
use Rattle.walk.specs.Instant.{Done, start}
use Rattle.walk.specs.Calls.{Layout, Machine, is_stop, first_words, Outcome, refused, stopped, done, outcome_number, MachineAfter, numbers_after, values_after, ask, found, answered, start_on, start_call, start_long_enough, allowed}
use Rattle.walk.specs.Runs.{InstantCall, call_on, call_on_found, machine_after, found_after_lem, answers_from, answers_from_found}
use Rattle.walk.specs.Promises.{result_of, TableAfter}
use Rattle.walk.specs.Promises as Promises
use Rattle.walk.specs.Boards.{BoardRun}
use Rattle.walk_laws.proofs.Answers as Answers
use Rattle.walk_laws.proofs.Answers.{start_answers}
use Rattle.board_promises.specs.Exact.{Exact}
use Rattle.board_promises.specs.Sessions.{BoardSession}
use Rattle.board_promises.proofs.Session.{ask_stopped, answered_stopped, machine_after_lem, calls_are_the_walks, left_lists_hold_the_writes}

-- ── loading with number 0 ─────────────────────────────────────────────────────────────────────────
not_zero : (k : ℕ) {A : Type 0} → suc k ≡ 0 → A
not_zero k e = absurd (let z : ⊥ = omega arith in z)

-- all four places are 0
asks_pass : (p2 p3 p4 p5 : ℕ) (listing : Listing) → loading_number (Load.ask 2 p2 (Load.ask 3 p3 (Load.ask 4 p4 (Load.ask 5 p5 (Load.loaded listing))))) ≡ 0 →
    Load.ask 2 p2 (Load.ask 3 p3 (Load.ask 4 p4 (Load.ask 5 p5 (Load.loaded listing)))) ≡ Load.loaded listing
unfolding loading_number
asks_pass (suc p2) p3 p4 p5 listing e = not_zero 1 e
asks_pass zero (suc p3) p4 p5 listing e = not_zero 2 e
asks_pass zero zero (suc p4) p5 listing e = not_zero 3 e
asks_pass zero zero zero (suc p5) listing e = not_zero 4 e
asks_pass zero zero zero zero listing e = refl

pub record LoadedAs (text : List ℕ) (answer : Loading) : Type 0 where
  pub listing : Listing
  pub loads : Loads text listing
  pub is : answer ≡ Load.loaded listing

number_0_is_loaded : (b : Bool) (text : List ℕ) (answer : Loading) → answer ≡ loading b text → loading_number answer ≡ 0 → LoadedAs text answer
unfolding loading questions2to5 loading_number
number_0_is_loaded false text answer e z = absurd (let y : ◌≡◌ {A = ℕ} 1 0 = sym (ap loading_number e) ∙ z in omega arith)
number_0_is_loaded true text answer e z =
    let q : questions2to5 text ≡ Load.loaded (listing_in text) = asks_pass (place2 text) (place3 text) (place4 text) (place5 text) (listing_in text) (sym (ap loading_number e) ∙ z) in
    record { listing = listing_in text; loads = q; is = e ∙ q }

-- ── the start ─────────────────────────────────────────────────────────────────────────────────────
-- Its answer is the walk's, on a table that stands for the listing.
start_call_lem : (layout : Layout) (table machine numbers values : List ℕ) (allowance : ℕ) (listing : Listing) → layout.read_table (first_words table) ≡ some listing →
    start_call layout table machine numbers values allowance ≡ ask 1 (start_long_enough table machine numbers values) (start_on listing allowance)
unfolding start_call found
start_call_lem layout table machine numbers values allowance listing e = rw e

start_stops_numbered : (listing : Listing) (allowance k : ℕ) (b : Bool) → ask 1 b (start_on listing allowance) ≡ stopped k → is_stop k ≡ true
unfolding start_on
start_stops_numbered listing allowance k b e = answered_stopped k (start_answers listing allowance) (ask_stopped 12 k _ _ (ask_stopped 1 k b _ e))

-- ── the whole session ─────────────────────────────────────────────────────────────────────────────
module _ (layout : Layout) (exact : Exact layout) (run : BoardRun layout) where
  table_reads : (listing : Listing) {answer : Loading} → TableAfter layout run.table_before run.table answer → answer ≡ Load.loaded listing →
      layout.read_table (first_words run.table) ≡ some listing
  table_reads listing (Promises.untouched e) q = let z : ◌≡◌ {A = ℕ} 0 1 = cc in absurd (let y : ⊥ = omega arith in y)
  table_reads listing (Promises.holds {listing = l} r a b) q = let e : l ≡ listing = cc in rw e at r

  pub board_session : BoardSession layout run
  board_session =
      let l = number_0_is_loaded (is_long_enough run.table_before) run.text run.answer run.loads.0 run.loaded in
      on_listing_lem l.listing l.loads (table_reads l.listing run.loads.1 l.is)
    where
      on_listing_lem : (listing : Listing) → Loads run.text listing → layout.read_table (first_words run.table) ≡ some listing → BoardSession layout run
      on_listing_lem listing loads t =
          let k = run.starts in
          let e = exact.machine listing (record { text = run.text; loads = loads }) in
          let o = ask 1 (start_long_enough run.table run.machine_before run.numbers_before run.values_before) (start_on listing run.allowance) in
          let s : start_call layout run.table run.machine_before run.numbers_before run.values_before run.allowance ≡ o =
          start_call_lem layout run.table run.machine_before run.numbers_before run.values_before run.allowance listing t in
          let after : MachineAfter layout run.table run.machine_before run.machine o = subst (MachineAfter layout run.table run.machine_before run.machine) s k.machine_is in
          record {
            listing = listing;
            loads = loads;
            outcome = o;
            starts = refl;
            start_result = k.result ∙ ap result_of s;
            start_writes = left_lists_hold_the_writes 0 o run.numbers_before run.values_before run.numbers run.values run.result
                (k.result ∙ ap result_of s) (k.numbers_are ∙ ap (λ (x : Outcome). numbers_after x run.numbers_before) s)
                (k.values_are ∙ ap (λ (x : Outcome). values_after x run.values_before) s);
            start_machine = machine_after_lem layout listing e run.table t run.machine_before run.machine o after (λ j. start_stops_numbered listing run.allowance j _);
            calls = calls_are_the_walks layout listing e run.table t run.machine run.calls run.words32 run.answered;
          }

-- ── a start with number 0 ─────────────────────────────────────────────────────────────────────────
-- It went through, and did d.
pub record WentThrough (listing : Listing) (allowance : ℕ) (o : Outcome) : Type 0 where
  pub d : Done
  pub starts : start_on listing allowance ≡ done d
  pub is : o ≡ done d

answered_0_is_done : {r : Result Done} → Answers.Answered r → outcome_number (answered r) ≡ 0 → (d : Done) × (answered r ≡ done d)
unfolding answered outcome_number
answered_0_is_done (Answers.done {a = d}) e = (d, refl)
answered_0_is_done (Answers.stopped k h) e = absurd (let positive = Answers.stop_is_not_0 k h in let z : ⊥ = omega arith in z)

ask_0_goes_on : (n : ℕ) (b : Bool) (next : Outcome) → outcome_number (ask (suc n) b next) ≡ 0 → ask (suc n) b next ≡ next
unfolding ask outcome_number
ask_0_goes_on n true next e = refl
ask_0_goes_on n false next e = not_zero n e

pub start_went_through : (listing : Listing) (allowance : ℕ) (b : Bool) (o : Outcome) → o ≡ ask 1 b (start_on listing allowance) → outcome_number o ≡ 0 →
    WentThrough listing allowance o
unfolding start_on
start_went_through listing allowance b o e z =
    let first = ask_0_goes_on 0 b _ (sym (ap outcome_number e) ∙ z) in
    let second = ask_0_goes_on 11 (allowed allowance) _ (sym (ap outcome_number (e ∙ first)) ∙ z) in
    let w = answered_0_is_done (start_answers listing allowance) (sym (ap outcome_number (e ∙ first ∙ second)) ∙ z) in
    record { d = w.0; starts = second ∙ w.1; is = e ∙ first ∙ second ∙ w.1 }

-- A machine that is known is found.
after_known : (m : Machine) (o : Outcome) → found_after_lem (some m) o ≡ some (machine_after m o)
unfolding found_after_lem machine_after
after_known m (refused k) = refl
after_known m (stopped k) = refl
after_known m (done d) = refl

pub answers_of_known : (listing : Listing) (m : Machine) (cs : List InstantCall) → answers_from_found listing (some m) cs ≡ answers_from listing m cs
unfolding answers_from_found answers_from call_on_found
answers_of_known listing m [] = refl
answers_of_known listing m (c ∷ cs) =
    ap (λ rest. record { call = c; outcome = call_on listing m c } ∷ rest)
    (ap (λ x. answers_from_found listing x cs) (after_known m (call_on listing m c)) ∙ answers_of_known listing (machine_after m (call_on listing m c)) cs)
