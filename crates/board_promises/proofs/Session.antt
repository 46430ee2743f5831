-- Demand 2 over any list of calls: a board's list of calls, refused ones among them, has the walk's results, lists and states.
-- Letters: table and machine are words, listing what the table stands for, m what the machine stands for, if for anything, c a call, o an outcome, k a number.
use mathlib.Core.Path.{◌≡◌, refl, sym, ap, ap₂, ◌∙◌, subst}
use mathlib.Core.Bool.{Bool, true, false, ◌&&◌}
use mathlib.Core.List.{List, [], ◌∷◌, ◌++◌, map}
use mathlib.Core.Option.{Option, none, some}
use Prim.Native.Nat.{ℕ, zero, suc, ◌+◌, ◌≤◌, ◌<◌}
use lib.Dec.{ltb, leb, eqb}
use lib.ListN.{length, take, drop, replicate, get_or, length-replicate, length-append, length-take, length-drop, get_or-eq_default, length-map}
use lib.Seq.{take_at, get_or-take}
use borrow.Author.Tests.{leb-true}
use native.Mathlib.Omega.{arith}
use native.Mathlib.Decide.{dec_lt}
use Rattle.listing.specs.Listing.{Listing}
use Rattle.walk.specs.State.{State, Result, stop, ok}
use Rattle.walk.specs.Instant.{Write, NextDue, Done, instant, start}
use Rattle.walk.specs.Question7.{IsState}
use Rattle.walk.specs.Calls.{Words32, Layout, Machine, halted, running, is_stop, halted_words, first_words, later_words, memory_words, Outcome, refused, stopped, done, outcome_listed, outcome_number, MachineAfter, untouched, halts, runs, numbers_after, values_after, ask, found, unstopped, answered, inputs_of, instant_from, instant_call, instant_long_enough, start_on, start_call}
use Rattle.walk.specs.Calls as Calls
use Rattle.walk.specs.Runs.{InstantCall, call_on, call_on_found, found_after_lem, answers_from_found, reported}
use Rattle.walk.specs.Promises.{result_of, Keeps}
use Rattle.walk.specs.Promises as Promises
use Rattle.walk.specs.Boards.{BoardCall, BoardCalls, no_more, and_then, as_instant_call, as_instant_calls, board_reported, listed_by}
use Rattle.walk.specs.Events.{Event, events_at}
use Rattle.walk_laws.proofs.Answers as Answers
use Rattle.walk_laws.proofs.Answers.{instant_answers, start_answers}
use Rattle.board_promises.specs.Exact.{ExactMachine}
use Rattle.board_promises.specs.Sessions.{results_of, results_on, no_answer, one_answer, no_call, one_call, AsTheWalk, CallsAreTheWalks}

-- ── the numbers of stops ────────────────────────────────────────────────────────────────────────────
never_equal : (j k : ℕ) → refused j ≡ stopped k → ⊥
never_equal j k e = let z : ◌≡◌ {A = ℕ} 0 1 = cc in omega arith

pub ask_stopped : (n k : ℕ) (b : Bool) (next : Outcome) → ask n b next ≡ stopped k → next ≡ stopped k
unfolding ask
ask_stopped n k true next e = e
ask_stopped n k false next e = absurd (never_equal n k e)

pub answered_stopped : (k : ℕ) {r : Result Done} → Answers.Answered r → answered r ≡ stopped k → is_stop k ≡ true
unfolding answered
answered_stopped k Answers.done e = let z : ◌≡◌ {A = ℕ} 0 1 = cc in absurd (omega arith)
answered_stopped k (Answers.stopped j h) e = let q : j ≡ k = cc in rw q at h

module _ (listing : Listing) where
  pub instant_stops_numbered : (s : State) → IsState listing s → (t : ℕ) (inputs : List Write) (allowance k : ℕ) →
      instant_from listing s t inputs allowance ≡ stopped k → is_stop k ≡ true
  unfolding instant_from
  instant_stops_numbered s h t inputs allowance k e =
      answered_stopped k (instant_answers listing s t inputs allowance h)
      (ask_stopped _ k _ _ (ask_stopped _ k _ _ (ask_stopped _ k _ _ (ask_stopped _ k _ _ e))))

  call_stops_numbered : (m : Option Machine) (c : InstantCall) (k : ℕ) → ((s : State) → m ≡ some (running s) → IsState listing s) →
      call_on_found listing m c ≡ stopped k → is_stop k ≡ true
  unfolding call_on_found call_on unstopped
  call_stops_numbered none c k h e = absurd (never_equal 7 k (ask_stopped 1 k _ _ e))
  call_stops_numbered (some (halted j)) c k h e = absurd (never_equal 8 k (ask_stopped 1 k _ _ e))
  call_stops_numbered (some (running s)) c k h e =
      instant_stops_numbered s (h s refl) c.time c.inputs c.allowance k (ask_stopped 1 k _ _ e)

-- ── one call ──────────────────────────────────────────────────────────────────────────────────────
length_and_zeros : (k n m : ℕ) → suc n ≡ m → length (k ∷ replicate n 0) ≡ m
length_and_zeros k n m e = ap suc (length-replicate {A = ℕ} n 0) ∙ e

length_halted : (k : ℕ) → length (halted_words k) ≡ 12288
unfolding halted_words
length_halted k = length_and_zeros k 12287 12288 refl

-- A call on a board answers as the walk: on a table that stands for the listing, whatever the machine's words stand for, if for anything.
pub call_answers_as_the_walk : (layout : Layout) (listing : Listing) (table : List ℕ) → layout.read_table (first_words table) ≡ some listing →
    (machine : List ℕ) (c : BoardCall) →
    instant_call layout table machine c.time c.in_numbers c.in_values c.numbers c.values c.allowance ≡
    call_on_found listing (layout.read_machine listing (first_words machine)) (as_instant_call table machine c)
unfolding instant_call as_instant_call call_on_found call_on found
call_answers_as_the_walk layout listing table reads machine c = rw reads (by_found (layout.read_machine listing (first_words machine)))
  where
    by_found : (m : Option Machine) →
        ask 1 (instant_long_enough table machine c.in_numbers c.in_values c.numbers c.values)
        (found 7 m λ (n : Machine). unstopped n λ (s : State). instant_from listing s c.time (inputs_of c.in_numbers c.in_values) c.allowance) ≡
        call_on_found listing m (as_instant_call table machine c)
    by_found none = refl
    by_found (some n) = refl

module _ (layout : Layout) (listing : Listing) (exact : ExactMachine layout listing) (table : List ℕ)
    (reads : layout.read_table (first_words table) ≡ some listing)
  where
    -- The call leaves the walk's machine.
    pub machine_after_lem : (machine machine' : List ℕ) (o : Outcome) → MachineAfter layout table machine machine' o →
        ((k : ℕ) → o ≡ stopped k → is_stop k ≡ true) →
        layout.read_machine listing (first_words machine') ≡ found_after_lem (layout.read_machine listing (first_words machine)) o
    unfolding found_after_lem
    machine_after_lem machine machine' _ (untouched e) stops = ap (λ (w : List ℕ). layout.read_machine listing (first_words w)) e
    machine_after_lem machine machine' _ (halts {k = k} e) stops =
        let first : take 12288 (halted_words k ++ later_words machine) ≡ halted_words k = take_at (halted_words k) (later_words machine) 12288 (length_halted k) in
        ap (λ (w : List ℕ). layout.read_machine listing (first_words w)) e ∙ ap (λ (w : List ℕ). layout.read_machine listing w) first ∙ exact.halted_every k (stops k refl)
    machine_after_lem machine machine' _ (runs {d = d} {listing = l} e r z a b) stops =
        let q : l ≡ listing = cc in rw q at r

-- ── what a call listed, read off the lists it left ────────────────────────────────────────────────
pub words_of_a_part : (n : ℕ) (words : List ℕ) → Words32 words → Words32 (take n words)
words_of_a_part n words small k = go (dec_lt k n)
  where
    go : Dec (k < n) → get_or (take n words) k 0 < 4294967296
    go (yes h) = rw (get_or-take n words k 0 h) (small k)
    go (no h) =
        let l : length (take n words) ≤ k = simp length-take (omega (arith, h)) in
        rw (get_or-eq_default (take n words) 0 l) (omega arith)

lists_side_by_side : (ws : List Write) → inputs_of (map (λ (w : Write). w.number) ws) (map (λ (w : Write). w.value) ws) ≡ ws
unfolding inputs_of
lists_side_by_side [] = refl
lists_side_by_side (w ∷ ws) = ap (λ (l : List Write). w ∷ l) (lists_side_by_side ws)

pub lists_hold_the_writes : (t : ℕ) (o : Outcome) (numbers values : List ℕ) →
    listed_by t (result_of o) (numbers_after o numbers) (values_after o values) ≡ events_at t (outcome_listed o)
unfolding listed_by result_of numbers_after values_after
lists_hold_the_writes t o numbers values =
    rw (
      take_at (map (λ (w : Write). w.number) (outcome_listed o)) (drop (length (outcome_listed o)) numbers) (length (outcome_listed o)) (length-map (outcome_listed o) (λ (w : Write). w.number)),
      take_at (map (λ (w : Write). w.value) (outcome_listed o)) (drop (length (outcome_listed o)) values) (length (outcome_listed o)) (length-map (outcome_listed o) (λ (w : Write). w.value)),
      lists_side_by_side (outcome_listed o),
    )

pub left_lists_hold_the_writes : (t : ℕ) (o : Outcome) (numbers values numbers' values' : List ℕ) (r : Promises.Result) → r ≡ result_of o →
    numbers' ≡ numbers_after o numbers → values' ≡ values_after o values → listed_by t r numbers' values' ≡ events_at t (outcome_listed o)
left_lists_hold_the_writes t o numbers values numbers' values' r e n v = rw (e, n, v) (lists_hold_the_writes t o numbers values)

-- ── the whole list ────────────────────────────────────────────────────────────────────────────────
module _ (layout : Layout) (listing : Listing) (exact : ExactMachine layout listing) (table : List ℕ)
    (reads : layout.read_table (first_words table) ≡ some listing)
  where
    -- from words that stand for what was found
    calls_from : (machine : List ℕ) (m : Option Machine) (cs : List BoardCall) → layout.read_machine listing (first_words machine) ≡ m → Words32 machine →
        BoardCalls layout table machine cs → AsTheWalk layout listing m cs (answers_from_found listing m (as_instant_calls table machine cs))
    unfolding answers_from_found as_instant_calls as_instant_call results_of results_on board_reported reported
    calls_from machine m _ st small no_more = record { results = refl; writes = refl; states = no_call; stops = no_answer }
    calls_from machine m _ st small (and_then {c = c} {cs = cs} p small' rest) =
        let k = as_instant_call table machine c in
        let o = call_on_found listing m k in
        let e = call_answers_as_the_walk layout listing table reads machine c ∙ ap (λ (x : Option Machine). call_on_found listing x k) st in
        let after : MachineAfter layout table machine c.machine_after o = subst (MachineAfter layout table machine c.machine_after) e p.machine_is in
        let states : (s : State) → m ≡ some (running s) → IsState listing s = λ s q. exact.state_only (first_words machine) s (words_of_a_part 12288 machine small) (st ∙ q) in
        let stops : (j : ℕ) → o ≡ stopped j → is_stop j ≡ true = λ j. call_stops_numbered listing m k j states in
        let left = machine_after_lem layout listing exact table reads machine c.machine_after o after stops ∙ ap (λ (x : Option Machine). found_after_lem x o) st in
        let next = calls_from c.machine_after (found_after_lem m o) cs left small' rest in
        let r : c.result ≡ result_of o = p.result ∙ ap result_of e in
        let ns : c.numbers_after ≡ numbers_after o c.numbers = p.numbers_are ∙ ap (λ (x : Outcome). numbers_after x c.numbers) e in
        let vs : c.values_after ≡ values_after o c.values = p.values_are ∙ ap (λ (x : Outcome). values_after x c.values) e in
        let w : listed_by c.time c.result c.numbers_after c.values_after ≡ events_at c.time (outcome_listed o) =
        left_lists_hold_the_writes c.time o c.numbers c.values c.numbers_after c.values_after c.result r ns vs in
        record {
          results = ap₂ ◌∷◌ r next.results;
          writes = ap₂ ◌++◌ w next.writes;
          states = one_call left next.states;
          stops = one_answer stops next.stops;
        }

    -- Any list of calls from any machine memory (a lent word is a u32), one that passes question 7 or not.
    pub calls_are_the_walks : (machine : List ℕ) (cs : List BoardCall) → Words32 machine → BoardCalls layout table machine cs →
        CallsAreTheWalks layout listing table machine cs
    calls_are_the_walks machine cs small calls = calls_from machine (layout.read_machine listing (first_words machine)) cs refl small calls
