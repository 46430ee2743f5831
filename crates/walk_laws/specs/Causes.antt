-- The one cause of each outcome of a call: the questions before its own pass and its own fails, or all pass and the walk has its answer.
-- Letters: l the table's listing, s the machine's state, t the call's moment, k a question's number, d what an instant gives.
use Rattle.std.specs.Prelude.{◌≡◌, Bool, true, false, ◌&&◌, List, ℕ, ltb, leb, length}
use Rattle.std.proofs.Math.Option.{none, some}
use Rattle.listing.specs.Listing.{Listing}
use Rattle.walk.specs.State.{State, ok}
use Rattle.walk.specs.Instant.{Write, next_due, Done, start, instant}
use Rattle.walk.specs.Calls.{Layout, Machine, halted, running, memory_words, first_words, Outcome, refused, stopped, done, due_before, inputs_rise, allowed, start_long_enough, instant_long_enough, inputs_of}
use Rattle.walk.specs.Comparison.{Compared, not_compared, compared, alike}
use Rattle.walk_laws.specs.Stops.{StartStops, InstantStops}

-- ── an instant from a state: 9 to 12, then 13 to 18 ───────────────────────────────────────────────
module _ (l : Listing) (s : State) (t : ℕ) (inputs : List Write) (allowance : ℕ) where
  pub data StateCause : Outcome → Type 0 where
    not_after : ltb s.now t ≡ false → StateCause (refused 9)
    due_before_lem : ltb s.now t ≡ true → due_before (next_due s) t ≡ true → StateCause (refused 10)
    not_rising_lem : ltb s.now t ≡ true → due_before (next_due s) t ≡ false → inputs_rise l.inputs 0 inputs ≡ false → StateCause (refused 11)
    not_allowed : ltb s.now t ≡ true → due_before (next_due s) t ≡ false → inputs_rise l.inputs 0 inputs ≡ true → allowed allowance ≡ false →
        StateCause (refused 12)
    -- 13 to 18, each by its own cause (Stops)
    stops : {k : ℕ} → ltb s.now t ≡ true → due_before (next_due s) t ≡ false → inputs_rise l.inputs 0 inputs ≡ true → allowed allowance ≡ true →
        InstantStops l s t inputs allowance k → StateCause (stopped k)
    goes_through : {d : Done} → ltb s.now t ≡ true → due_before (next_due s) t ≡ false → inputs_rise l.inputs 0 inputs ≡ true →
        allowed allowance ≡ true → instant l s t inputs allowance ≡ ok d → StateCause (done d)

-- ── the instant call: 1, 6, 7, 8, then from the state ─────────────────────────────────────────────
module _ (layout : Layout) (table machine : List ℕ) (t : ℕ) (in_numbers in_values outNumbers outValues : List ℕ) (allowance : ℕ) where
  abbrev long : Bool
  long = instant_long_enough table machine in_numbers in_values outNumbers outValues

  pub data InstantCause : Outcome → Type 0 where
    too_short : long ≡ false → InstantCause (refused 1)
    no_table : long ≡ true → layout.read_table (first_words table) ≡ none → InstantCause (refused 6)
    no_state : {l : Listing} → long ≡ true → layout.read_table (first_words table) ≡ some l → layout.read_machine l (first_words machine) ≡ none →
        InstantCause (refused 7)
    stopped_before : {l : Listing} {k : ℕ} → long ≡ true → layout.read_table (first_words table) ≡ some l →
        layout.read_machine l (first_words machine) ≡ some (halted k) → InstantCause (refused 8)
    from_state : {l : Listing} {s : State} {o : Outcome} → long ≡ true → layout.read_table (first_words table) ≡ some l →
        layout.read_machine l (first_words machine) ≡ some (running s) → StateCause l s t (inputs_of in_numbers in_values) allowance o → InstantCause o

-- ── the start: 1, 6, 12, then 13 to 18 ────────────────────────────────────────────────────────────
module _ (layout : Layout) (table machine outNumbers outValues : List ℕ) (allowance : ℕ) where
  abbrev long_at_start : Bool
  long_at_start = start_long_enough table machine outNumbers outValues

  pub data StartCause : Outcome → Type 0 where
    too_short : long_at_start ≡ false → StartCause (refused 1)
    no_table : long_at_start ≡ true → layout.read_table (first_words table) ≡ none → StartCause (refused 6)
    not_allowed : {l : Listing} → long_at_start ≡ true → layout.read_table (first_words table) ≡ some l → allowed allowance ≡ false → StartCause (refused 12)
    stops : {l : Listing} {k : ℕ} → long_at_start ≡ true → layout.read_table (first_words table) ≡ some l → allowed allowance ≡ true →
        StartStops l allowance k → StartCause (stopped k)
    goes_through : {l : Listing} {d : Done} → long_at_start ≡ true → layout.read_table (first_words table) ≡ some l → allowed allowance ≡ true →
        start l allowance ≡ ok d → StartCause (done d)

-- ── the comparison: "1, 6, then 7 for both machines, then 8 for both" ─────────────────────────────
module _ (layout : Layout) (table a b : List ℕ) where
  abbrev all_long : Bool
  all_long = leb memory_words (length table) && (leb memory_words (length a) && leb memory_words (length b))

  pub data ComparedCause : Compared → Type 0 where
    too_short : all_long ≡ false → ComparedCause (not_compared 1)
    no_table : all_long ≡ true → layout.read_table (first_words table) ≡ none → ComparedCause (not_compared 6)
    no_first_state : {l : Listing} → all_long ≡ true → layout.read_table (first_words table) ≡ some l →
        layout.read_machine l (first_words a) ≡ none → ComparedCause (not_compared 7)
    no_second_state : {l : Listing} {m : Machine} → all_long ≡ true → layout.read_table (first_words table) ≡ some l →
        layout.read_machine l (first_words a) ≡ some m → layout.read_machine l (first_words b) ≡ none → ComparedCause (not_compared 7)
    first_stopped : {l : Listing} {k : ℕ} {m : Machine} → all_long ≡ true → layout.read_table (first_words table) ≡ some l →
        layout.read_machine l (first_words a) ≡ some (halted k) → layout.read_machine l (first_words b) ≡ some m → ComparedCause (not_compared 8)
    second_stopped : {l : Listing} {s : State} {k : ℕ} → all_long ≡ true → layout.read_table (first_words table) ≡ some l →
        layout.read_machine l (first_words a) ≡ some (running s) → layout.read_machine l (first_words b) ≡ some (halted k) → ComparedCause (not_compared 8)
    both_run : {l : Listing} {s u : State} → all_long ≡ true → layout.read_table (first_words table) ≡ some l →
        layout.read_machine l (first_words a) ≡ some (running s) → layout.read_machine l (first_words b) ≡ some (running u) →
        ComparedCause (compared (alike s u))
