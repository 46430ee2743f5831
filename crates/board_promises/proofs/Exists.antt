-- The claims on boards are not empty: on an exact layout every text that loads, with any memories and any list of call arguments, has a session.
-- Letters: machine a machine's words, m what they stand for, if for anything, a what a call is handed, o an outcome.
use mathlib.Core.Path.{◌≡◌, refl, sym, ap, ap₂, ◌∙◌}
use mathlib.Core.Bool.{Bool, true, false, ◌&&◌}
use mathlib.Core.List.{List, [], ◌∷◌, ◌++◌, map}
use mathlib.Core.Option.{Option, none, some}
use Prim.Native.Nat.{ℕ, ◌+◌, ◌≤◌, ◌<◌}
use lib.Dec.{leb, eqb}
use lib.ListN.{length, length-append, length-drop}
use lib.Seq.{take_at, drop_at}
use borrow.Author.Tests.{leb-true, le-leb}
use native.Mathlib.Omega.{arith}
use Rattle.words.specs.Moments.{moment_range}
use Rattle.listing.specs.Listing.{Listing}
use Rattle.listing.specs.Load.{Loads, loading, is_long_enough, loading_number}
use Rattle.listing.specs.Load as Load
use Rattle.listing.proofs.Determine.{loads_exactly_if, well_formed_parts}
use Rattle.walk.specs.State.{State, Result, stop, ok}
use Rattle.walk.specs.Question7.{IsState}
use Rattle.walk.specs.Instant.{Write, Done, start}
use Rattle.walk.specs.Calls.{Words32, Layout, Machine, halted, running, memory_words, first_words, later_words, halted_words, Outcome, refused, stopped, done, is_stop, MachineAfter, untouched, halts, runs, numbers_after, values_after, instant_long_enough, start_long_enough, inputs_of, instant_call, start_call, answered}
use Rattle.walk.specs.Promises.{result_of, TableAfter, holds, StartPromise, InstantPromise}
use Rattle.walk.specs.Boards.{BoardCall, BoardCalls, no_more, and_then, CallArguments, arguments_of, AllFit, none_fits, one_fits}
use Rattle.walk_laws.specs.Causes.{StateCause, InstantCause, StartCause}
use Rattle.walk_laws.specs.Causes as Causes
use Rattle.walk_laws.proofs.Booleans.{and_left, and_right}
use Rattle.walk_laws.proofs.AtRest.{LiteralsAreWords}
use Rattle.walk_laws.proofs.Literals.{form_gives_words, inputs_are_words}
use Rattle.walk_laws.proofs.Stays.{start_leaves_state, instant_leaves_state}
use Rattle.walk_laws.proofs.Answers.{instant_answers, start_answers}
use Rattle.walk_laws.proofs.StopCauses.{start_stops_exactly_if, instant_stops_exactly_if}
use Rattle.walk_laws.proofs.Causes.{start_exactly_if}
use Rattle.board_promises.specs.Exact.{Exact, LoadedFrom}
use Rattle.board_promises.specs.Sessions.{SessionOf}
use Rattle.board_promises.proofs.Session.{answered_stopped, words_of_a_part}
use Rattle.board_promises.proofs.Causes.{instant_has_one_cause}
use Rattle.board_promises.proofs.Words.{words_of_both, words_behind, halted_are_words, Holding, memory_holds}

loaded_words : (text : List ℕ) (listing : Listing) → Loads text listing → LiteralsAreWords listing
loaded_words text listing h = form_gives_words listing (well_formed_parts listing ((loads_exactly_if text listing).0 h).1).form

answered_as : {k : ℕ} {r : Result Done} → r ≡ stop k → answered r ≡ stopped k
unfolding answered
answered_as e = rw e

-- ── what a call leaves ────────────────────────────────────────────────────────────────────────────
-- Words that a call with this outcome may leave in the machine.
record Left (layout : Layout) (table before : List ℕ) (o : Outcome) : Type 0 where
  after : List ℕ
  is : MachineAfter layout table before after o
  words32 : Words32 after

machine_is_long : (table machine in_numbers in_values outNumbers outValues : List ℕ) →
    instant_long_enough table machine in_numbers in_values outNumbers outValues ≡ true → memory_words ≤ length machine
unfolding instant_long_enough start_long_enough
machine_is_long table machine in_numbers in_values outNumbers outValues e =
    leb-true memory_words (length machine) (and_left (leb memory_words (length machine)) _ (and_right (leb memory_words (length table)) _ (and_left _ (eqb (length in_numbers) (length in_values)) e)))

machine_is_long_at_start : (table machine outNumbers outValues : List ℕ) → start_long_enough table machine outNumbers outValues ≡ true → memory_words ≤ length machine
unfolding start_long_enough
machine_is_long_at_start table machine outNumbers outValues e =
    leb-true memory_words (length machine) (and_left (leb memory_words (length machine)) _ (and_right (leb memory_words (length table)) _ e))

module _ (layout : Layout) (exact : Exact layout) (text : List ℕ) (listing : Listing) (loads : Loads text listing)
    (table : List ℕ) (reads : layout.read_table (first_words table) ≡ some listing)
  where
    from : LoadedFrom listing
    from = record { text = text; loads = loads }

    halting : (machine : List ℕ) (k : ℕ) → Words32 machine → is_stop k ≡ true → Left layout table machine (stopped k)
    halting machine k small e =
        record { after = halted_words k ++ later_words machine; is = halts refl; words32 = words_of_both (halted_words k) _ (halted_are_words k e) (words_behind memory_words machine small) }

    going_on : (machine : List ℕ) (d : Done) → Words32 machine → memory_words ≤ length machine → IsState listing d.state → Left layout table machine (done d)
    going_on machine d small enough h =
        let w = memory_holds layout listing (exact.machine listing from) machine d.state enough small h in
        record { after = w.after; is = runs reads w.reads w.first w.long w.later; words32 = w.words32 }

    same_listing : (l : Listing) → layout.read_table (first_words table) ≡ some l → l ≡ listing
    same_listing l f = cc

    untouched_by : (machine : List ℕ) (k : ℕ) → Words32 machine → Left layout table machine (refused k)
    untouched_by machine k small = record { after = machine; is = untouched refl; words32 = small }

    -- ── one call ────────────────────────────────────────────────────────────────────────────────────
    module _ (machine : List ℕ) (small : Words32 machine) (a : CallArguments) (fits : a.time < moment_range) (values32 : Words32 a.in_values) where
      abbrev inputs : List Write
      inputs = inputs_of a.in_numbers a.in_values

      from_state : {s : State} {o : Outcome} → memory_words ≤ length machine → IsState listing s →
          StateCause listing s a.time inputs a.allowance o → Left layout table machine o
      from_state enough h (Causes.not_after p) = untouched_by machine 9 small
      from_state enough h (Causes.due_before_lem p q) = untouched_by machine 10 small
      from_state enough h (Causes.not_rising_lem p q r) = untouched_by machine 11 small
      from_state enough h (Causes.not_allowed p q r x) = untouched_by machine 12 small
      from_state {s = s} enough h (Causes.stops {k = k} p q r x y) =
          let stops = (instant_stops_exactly_if listing s h a.time inputs a.allowance k).1 y in
          halting machine k small (answered_stopped k (instant_answers listing s a.time inputs a.allowance h) (answered_as stops))
      from_state {s = s} enough h (Causes.goes_through {d = d} p q r x y) =
          going_on machine d small enough
          (instant_leaves_state listing s a.time inputs a.allowance (loaded_words text listing loads) h fits q (inputs_are_words a.in_numbers a.in_values values32) d y).is_state

      abbrev Cause : Outcome → Type 0
      Cause = InstantCause layout table machine a.time a.in_numbers a.in_values a.numbers a.values a.allowance

      left_by : {o : Outcome} → Cause o → Left layout table machine o
      left_by (Causes.too_short e) = untouched_by machine 1 small
      left_by (Causes.no_table e f) = untouched_by machine 6 small
      left_by (Causes.no_state e f g) = untouched_by machine 7 small
      left_by (Causes.stopped_before e f g) = untouched_by machine 8 small
      left_by (Causes.from_state {l = l} {s = s} {o = o} e f g c) =
          let q = same_listing l f in
          let g' : layout.read_machine listing (first_words machine) ≡ some (running s) = rw q at g in
          let c' : StateCause listing s a.time inputs a.allowance o = rw q at c in
          let h : IsState listing s = (exact.machine listing from).state_only (first_words machine) s (words_of_a_part memory_words machine small) g' in
          from_state (machine_is_long table machine a.in_numbers a.in_values a.numbers a.values e) h c'

      call_left : Left layout table machine (instant_call layout table machine a.time a.in_numbers a.in_values a.numbers a.values a.allowance)
      call_left = left_by
          ((instant_has_one_cause layout exact table machine small a.time a.in_numbers a.in_values a.numbers a.values a.allowance _).0 refl)

    abbrev call_of : CallArguments → List ℕ → Outcome → BoardCall
    call_of a after o =
        record {
          time = a.time;
          in_numbers = a.in_numbers;
          in_values = a.in_values;
          numbers = a.numbers;
          values = a.values;
          allowance = a.allowance;
          machine_after = after;
          numbers_after = numbers_after o a.numbers;
          values_after = values_after o a.values;
          result = result_of o;
        }

    -- ── a list of calls ─────────────────────────────────────────────────────────────────────────────
    record CallsOf (machine : List ℕ) (handed : List CallArguments) : Type 0 where
      calls : List BoardCall
      answered : BoardCalls layout table machine calls
      handed_is : map arguments_of calls ≡ handed

    calls_exist : (machine : List ℕ) (handed : List CallArguments) → Words32 machine → AllFit handed → CallsOf machine handed
    unfolding arguments_of
    calls_exist machine _ small none_fits = record { calls = []; answered = no_more; handed_is = refl }
    calls_exist machine _ small (one_fits {a = a} {rest = rest} fits values32 more) =
        let w = call_left machine small a fits values32 in
        let o = instant_call layout table machine a.time a.in_numbers a.in_values a.numbers a.values a.allowance in
        let r = calls_exist w.after rest w.words32 more in
        record {
          calls = call_of a w.after o ∷ r.calls;
          answered = and_then (record { result = refl; machine_is = w.is; numbers_are = refl; values_are = refl }) w.words32 r.answered;
          handed_is = ap (λ (xs : List CallArguments). a ∷ xs) r.handed_is;
        }

    -- ── the start ───────────────────────────────────────────────────────────────────────────────────
    start_left_by : (machine numbers values : List ℕ) (allowance : ℕ) {o : Outcome} → Words32 machine →
        StartCause layout table machine numbers values allowance o → Left layout table machine o
    start_left_by machine numbers values allowance small (Causes.too_short e) = untouched_by machine 1 small
    start_left_by machine numbers values allowance small (Causes.no_table e f) = untouched_by machine 6 small
    start_left_by machine numbers values allowance small (Causes.not_allowed e f g) = untouched_by machine 12 small
    start_left_by machine numbers values allowance small (Causes.stops {l = l} {k = k} e f g h) =
        halting machine k small (answered_stopped k (start_answers l allowance) (answered_as ((start_stops_exactly_if l allowance k).1 h)))
    start_left_by machine numbers values allowance small (Causes.goes_through {l = l} {d = d} e f g h) =
        let q = same_listing l f in
        let h' : start listing allowance ≡ ok d = rw q at h in
        going_on machine d small (machine_is_long_at_start table machine numbers values e)
        (start_leaves_state listing allowance (loaded_words text listing loads) d h').is_state

    start_left : (machine numbers values : List ℕ) (allowance : ℕ) → Words32 machine →
        Left layout table machine (start_call layout table machine numbers values allowance)
    start_left machine numbers values allowance small =
        start_left_by machine numbers values allowance small ((start_exactly_if layout table machine numbers values allowance _).0 refl)

-- ── the whole session ─────────────────────────────────────────────────────────────────────────────
-- A table that is long enough: words for the listing, and behind them what stood there.
record Loaded (layout : Layout) (before : List ℕ) (listing : Listing) : Type 0 where
  after : List ℕ
  reads : layout.read_table (first_words after) ≡ some listing
  is : TableAfter layout before after (Load.loaded listing)

module _ (layout : Layout) (exact : Exact layout) where
  table_left_lem : (text : List ℕ) (listing : Listing) → Loads text listing → (before : List ℕ) → memory_words ≤ length before → Loaded layout before listing
  table_left_lem text listing loads before enough =
      let w = exact.table.every text listing loads in
      let back : first_words (w.words ++ later_words before) ≡ w.words = take_at w.words (later_words before) memory_words w.long in
      let reads : layout.read_table (first_words (w.words ++ later_words before)) ≡ some listing = rw back w.reads in
      let behind = length-drop memory_words before in
      let sum : length w.words + length (later_words before) ≡ length before = let l = w.long in omega (arith, behind, l, enough) in
      record {
        after = w.words ++ later_words before;
        reads = reads;
        is = holds reads (length-append w.words (later_words before) ∙ sum) (drop_at w.words (later_words before) memory_words w.long);
      }

  pub every_session_exists : (text : List ℕ) (listing : Listing) → Loads text listing → (table_before : List ℕ) → memory_words ≤ length table_before →
      (machine_before numbers_before values_before : List ℕ) → Words32 machine_before → (allowance : ℕ) (handed : List CallArguments) → AllFit handed →
      SessionOf layout text table_before machine_before numbers_before values_before allowance handed
  unfolding loading_number
  every_session_exists text listing loads table_before enough machine_before numbers_before values_before small allowance handed fit =
      let t = table_left_lem text listing loads table_before enough in
      let w = start_left layout exact text listing loads t.after t.reads machine_before numbers_before values_before allowance small in
      let o = start_call layout t.after machine_before numbers_before values_before allowance in
      let c = calls_exist layout exact text listing loads t.after t.reads w.after handed w.words32 fit in
      let long : is_long_enough table_before ≡ true = le-leb memory_words (length table_before) enough in
      let answer : Load.loaded listing ≡ loading (is_long_enough table_before) text = rw long (sym loads) in
      record {
        run = record {
          text = text;
          table_before = table_before;
          table = t.after;
          answer = Load.loaded listing;
          loads = (answer, t.is);
          loaded = refl;
          machine_before = machine_before;
          numbers_before = numbers_before;
          values_before = values_before;
          allowance = allowance;
          machine = w.after;
          numbers = numbers_after o numbers_before;
          values = values_after o values_before;
          result = result_of o;
          starts = record { result = refl; machine_is = w.is; numbers_are = refl; values_are = refl };
          words32 = w.words32;
          calls = c.calls;
          answered = c.answered;
        };
        text_is = refl;
        table_is = refl;
        machine_is_lem = refl;
        numbers_is = refl;
        values_is = refl;
        allowance_is_lem = refl;
        handed_is = c.handed_is;
      }
