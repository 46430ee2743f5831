-- Each number of the start and of the instant call has one cause: the outcome is o exactly if o's cause holds (specs Causes).
-- Asked of the instant call: what its machine's words stand for is a state of the walk (question 7; of every exact layout, promises Causes).
-- Letters: o an outcome, l the table's listing, m what the machine stands for, s its state, k a question's number, d what an instant gives.
use mathlib.Core.Path.{◌≡◌, refl, subst}
use mathlib.Core.Bool.{Bool, true, false, not}
use mathlib.Core.List.{List}
use mathlib.Core.Option.{Option, none, some}
use mathlib.Core.Logic.{◌↔◌}
use Prim.Native.Nat.{ℕ}
use lib.Dec.{ltb}
use Rattle.listing.specs.Listing.{Listing}
use Rattle.walk.specs.State.{State, Result, stop, ok}
use Rattle.walk.specs.Instant.{Write, next_due, Done, start, instant}
use Rattle.walk.specs.Question7.{IsState}
use Rattle.walk.specs.Calls.{Layout, Machine, halted, running, first_words, Outcome, ask, found, unstopped, due_before, inputs_rise, allowed, answered, start_long_enough, instant_long_enough, inputs_of, start_on, instant_from, start_call, instant_call}
use Rattle.walk_laws.specs.Causes.{StateCause, InstantCause, StartCause}
use Rattle.walk_laws.specs.Causes as Causes
use Rattle.walk_laws.proofs.StopCauses.{start_stops_exactly_if, instant_stops_exactly_if}

-- ── from a state: 9 to 18 ─────────────────────────────────────────────────────────────────────────
module _ (l : Listing) (s : State) (isState : IsState l s) (t : ℕ) (inputs : List Write) (allowance : ℕ) where
  state_has_a_cause : StateCause l s t inputs allowance (instant_from l s t inputs allowance)
  unfolding instant_from ask answered
  state_has_a_cause =
      go (ltb s.now t) (due_before (next_due s) t) (inputs_rise l.inputs 0 inputs) (allowed allowance) (instant l s t inputs allowance) refl refl refl refl refl
    where
      go : (a b c d : Bool) (r : Result Done) → ltb s.now t ≡ a → due_before (next_due s) t ≡ b → inputs_rise l.inputs 0 inputs ≡ c →
          allowed allowance ≡ d → instant l s t inputs allowance ≡ r →
          StateCause l s t inputs allowance (ask 9 a (ask 10 (not b) (ask 11 c (ask 12 d (answered r)))))
      go false b c d r ea eb ec ed er = Causes.not_after ea
      go true true c d r ea eb ec ed er = Causes.due_before_lem ea eb
      go true false false d r ea eb ec ed er = Causes.not_rising_lem ea eb ec
      go true false true false r ea eb ec ed er = Causes.not_allowed ea eb ec ed
      go true false true true (stop k) ea eb ec ed er =
          Causes.stops ea eb ec ed ((instant_stops_exactly_if l s isState t inputs allowance k).0 er)
      go true false true true (ok d) ea eb ec ed er = Causes.goes_through ea eb ec ed er

  state_cause_decides : {o : Outcome} → StateCause l s t inputs allowance o → instant_from l s t inputs allowance ≡ o
  unfolding instant_from ask answered
  state_cause_decides (Causes.not_after a) = rw a
  state_cause_decides (Causes.due_before_lem a b) = rw (a, b)
  state_cause_decides (Causes.not_rising_lem a b c) = rw (a, b, c)
  state_cause_decides (Causes.not_allowed a b c d) = rw (a, b, c, d)
  state_cause_decides (Causes.stops {k = k} a b c d h) = rw (a, b, c, d, (instant_stops_exactly_if l s isState t inputs allowance k).1 h)
  state_cause_decides (Causes.goes_through a b c d h) = rw (a, b, c, d, h)

  pub state_exactly_if : (o : Outcome) → (instant_from l s t inputs allowance ≡ o) ↔ StateCause l s t inputs allowance o
  state_exactly_if o = (λ e. subst (StateCause l s t inputs allowance) e state_has_a_cause, state_cause_decides)

-- ── the whole instant call ────────────────────────────────────────────────────────────────────────
module _ (layout : Layout) (table machine : List ℕ) (t : ℕ) (in_numbers in_values outNumbers outValues : List ℕ) (allowance : ℕ)
    (states : (l : Listing) (s : State) → instant_long_enough table machine in_numbers in_values outNumbers outValues ≡ true →
    layout.read_table (first_words table) ≡ some l → layout.read_machine l (first_words machine) ≡ some (running s) → IsState l s)
  where
    abbrev Cause : Outcome → Type 0
    Cause = InstantCause layout table machine t in_numbers in_values outNumbers outValues allowance

    abbrev long : Bool
    long = instant_long_enough table machine in_numbers in_values outNumbers outValues

    abbrev rest : Listing → Machine → Outcome
    rest l m = unstopped m λ (s : State). instant_from l s t (inputs_of in_numbers in_values) allowance

    at_8 : (l : Listing) (m : Machine) → long ≡ true → layout.read_table (first_words table) ≡ some l →
        layout.read_machine l (first_words machine) ≡ some m → Cause (rest l m)
    unfolding unstopped
    at_8 l (halted k) e f g = Causes.stopped_before e f g
    at_8 l (running s) e f g = Causes.from_state e f g (state_has_a_cause l s (states l s e f g) t (inputs_of in_numbers in_values) allowance)

    has_a_cause : Cause (instant_call layout table machine t in_numbers in_values outNumbers outValues allowance)
    unfolding instant_call ask found
    has_a_cause = at_1 long refl
      where
        at_7 : (l : Listing) (r : Option Machine) → long ≡ true → layout.read_table (first_words table) ≡ some l →
            layout.read_machine l (first_words machine) ≡ r → Cause (found 7 r (rest l))
        at_7 l none e f g = Causes.no_state e f g
        at_7 l (some m) e f g = at_8 l m e f g

        at_6 : (r : Option Listing) → long ≡ true → layout.read_table (first_words table) ≡ r →
            Cause (found 6 r λ (l : Listing). found 7 (layout.read_machine l (first_words machine)) (rest l))
        at_6 none e f = Causes.no_table e f
        at_6 (some l) e f = at_7 l (layout.read_machine l (first_words machine)) e f refl

        at_1 : (b : Bool) → long ≡ b →
            Cause (ask 1 b (found 6 (layout.read_table (first_words table)) λ (l : Listing). found 7 (layout.read_machine l (first_words machine)) (rest l)))
        at_1 false e = Causes.too_short e
        at_1 true e = at_6 (layout.read_table (first_words table)) e refl

    cause_decides : {o : Outcome} → Cause o → instant_call layout table machine t in_numbers in_values outNumbers outValues allowance ≡ o
    unfolding instant_call ask found unstopped
    cause_decides (Causes.too_short e) = rw e
    cause_decides (Causes.no_table e f) = rw (e, f)
    cause_decides (Causes.no_state e f g) = rw (e, f, g)
    cause_decides (Causes.stopped_before e f g) = rw (e, f, g)
    cause_decides (Causes.from_state {l = l} {s = s} e f g c) =
        rw (e, f, g) (state_cause_decides l s (states l s e f g) t (inputs_of in_numbers in_values) allowance c)

    pub instant_exactly_if : (o : Outcome) →
        (instant_call layout table machine t in_numbers in_values outNumbers outValues allowance ≡ o) ↔
        InstantCause layout table machine t in_numbers in_values outNumbers outValues allowance o
    instant_exactly_if o = (λ e. subst Cause e has_a_cause, cause_decides)

-- ── the start: 1, 6, 12, 13 to 18 ─────────────────────────────────────────────────────────────────
module _ (layout : Layout) (table machine outNumbers outValues : List ℕ) (allowance : ℕ) where
  abbrev CauseAtStart : Outcome → Type 0
  CauseAtStart = StartCause layout table machine outNumbers outValues allowance

  start_has_a_cause : CauseAtStart (start_call layout table machine outNumbers outValues allowance)
  unfolding start_call start_on ask found answered
  start_has_a_cause = at_1 (start_long_enough table machine outNumbers outValues) refl
    where
      at_12 : (l : Listing) (d : Bool) (r : Result Done) → start_long_enough table machine outNumbers outValues ≡ true →
          layout.read_table (first_words table) ≡ some l → allowed allowance ≡ d → start l allowance ≡ r → CauseAtStart (ask 12 d (answered r))
      at_12 l false r e f g h = Causes.not_allowed e f g
      at_12 l true (stop k) e f g h = Causes.stops e f g ((start_stops_exactly_if l allowance k).0 h)
      at_12 l true (ok d) e f g h = Causes.goes_through e f g h

      at_6 : (r : Option Listing) → start_long_enough table machine outNumbers outValues ≡ true → layout.read_table (first_words table) ≡ r →
          CauseAtStart (found 6 r λ (l : Listing). start_on l allowance)
      at_6 none e f = Causes.no_table e f
      at_6 (some l) e f = at_12 l (allowed allowance) (start l allowance) e f refl refl

      at_1 : (b : Bool) → start_long_enough table machine outNumbers outValues ≡ b →
          CauseAtStart (ask 1 b (found 6 (layout.read_table (first_words table)) λ (l : Listing). start_on l allowance))
      at_1 false e = Causes.too_short e
      at_1 true e = at_6 (layout.read_table (first_words table)) e refl

  start_cause_decides : {o : Outcome} → CauseAtStart o → start_call layout table machine outNumbers outValues allowance ≡ o
  unfolding start_call start_on ask found answered
  start_cause_decides (Causes.too_short e) = rw e
  start_cause_decides (Causes.no_table e f) = rw (e, f)
  start_cause_decides (Causes.not_allowed e f g) = rw (e, f, g)
  start_cause_decides (Causes.stops {l = l} {k = k} e f g h) = rw (e, f, g, (start_stops_exactly_if l allowance k).1 h)
  start_cause_decides (Causes.goes_through e f g h) = rw (e, f, g, h)

  pub start_exactly_if : (o : Outcome) →
      (start_call layout table machine outNumbers outValues allowance ≡ o) ↔ StartCause layout table machine outNumbers outValues allowance o
  start_exactly_if o = (λ e. subst CauseAtStart e start_has_a_cause, start_cause_decides)
