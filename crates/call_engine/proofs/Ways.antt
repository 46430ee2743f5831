-- The way of a call through its questions: where it is refused, or what holds once all have passed.
-- Letters: o an outcome, l the table's listing, m what the machine stands for, s its state.
use mathlib.Core.Path.{◌≡◌, refl}
use mathlib.Core.Bool.{Bool, true, false, not}
use mathlib.Core.List.{List}
use mathlib.Core.Option.{Option, none, some}
use Prim.Native.Nat.{ℕ}
use lib.Dec.{ltb}
use Rattle.listing.specs.Listing.{Listing}
use Rattle.walk.specs.State.{State}
use Rattle.walk.specs.Instant.{Write, next_due, start, instant}
use Rattle.walk.specs.Calls.{Layout, Machine, halted, running, first_words, Outcome, refused, ask, found, unstopped, due_before, inputs_rise, allowed, answered, start_long_enough, instant_long_enough, inputs_of, start_on, instant_from, start_call, instant_call}

-- ── from a state: 9 to 12 ─────────────────────────────────────────────────────────────────────────
module _ (l : Listing) (s : State) (t : ℕ) (inputs : List Write) (allowance : ℕ) where
  pub data StateWay : Outcome → Type 0 where
    not_after : ltb s.now t ≡ false → StateWay (refused 9)
    due_before_lem : ltb s.now t ≡ true → not (due_before (next_due s) t) ≡ false → StateWay (refused 10)
    not_rising_lem : ltb s.now t ≡ true → not (due_before (next_due s) t) ≡ true → inputs_rise l.inputs 0 inputs ≡ false → StateWay (refused 11)
    not_allowed : ltb s.now t ≡ true → not (due_before (next_due s) t) ≡ true → inputs_rise l.inputs 0 inputs ≡ true → allowed allowance ≡ false →
        StateWay (refused 12)
    walks : ltb s.now t ≡ true → not (due_before (next_due s) t) ≡ true → inputs_rise l.inputs 0 inputs ≡ true → allowed allowance ≡ true →
        StateWay (answered (instant l s t inputs allowance))

  state_way : StateWay (instant_from l s t inputs allowance)
  unfolding instant_from ask
  state_way = go (ltb s.now t) (not (due_before (next_due s) t)) (inputs_rise l.inputs 0 inputs) (allowed allowance) refl refl refl refl
    where
      go : (a b c d : Bool) → ltb s.now t ≡ a → not (due_before (next_due s) t) ≡ b → inputs_rise l.inputs 0 inputs ≡ c → allowed allowance ≡ d →
          StateWay (ask 9 a (ask 10 b (ask 11 c (ask 12 d (answered (instant l s t inputs allowance))))))
      go false b c d ea eb ec ed = not_after ea
      go true false c d ea eb ec ed = due_before_lem ea eb
      go true true false d ea eb ec ed = not_rising_lem ea eb ec
      go true true true false ea eb ec ed = not_allowed ea eb ec ed
      go true true true true ea eb ec ed = walks ea eb ec ed

-- ── the whole instant call ────────────────────────────────────────────────────────────────────────
module _ (layout : Layout) (table machine : List ℕ) (t : ℕ) (in_numbers in_values outNumbers outValues : List ℕ) (allowance : ℕ) where
  abbrev long : Bool
  long = instant_long_enough table machine in_numbers in_values outNumbers outValues

  pub data InstantWay : Outcome → Type 0 where
    too_short : long ≡ false → InstantWay (refused 1)
    no_table : long ≡ true → layout.read_table (first_words table) ≡ none → InstantWay (refused 6)
    no_state : {l : Listing} → long ≡ true → layout.read_table (first_words table) ≡ some l → layout.read_machine l (first_words machine) ≡ none →
        InstantWay (refused 7)
    stopped_before : {l : Listing} {k : ℕ} → long ≡ true → layout.read_table (first_words table) ≡ some l →
        layout.read_machine l (first_words machine) ≡ some (halted k) → InstantWay (refused 8)
    from_state : {l : Listing} {s : State} {o : Outcome} → long ≡ true → layout.read_table (first_words table) ≡ some l →
        layout.read_machine l (first_words machine) ≡ some (running s) → StateWay l s t (inputs_of in_numbers in_values) allowance o → InstantWay o

  pub instant_way : InstantWay (instant_call layout table machine t in_numbers in_values outNumbers outValues allowance)
  unfolding instant_call ask found unstopped
  instant_way = at_1 long refl
    where
      rest : Listing → Machine → Outcome
      rest l m = unstopped m λ (s : State). instant_from l s t (inputs_of in_numbers in_values) allowance

      at_8 : (l : Listing) (m : Machine) → long ≡ true → layout.read_table (first_words table) ≡ some l → layout.read_machine l (first_words machine) ≡ some m →
          InstantWay (rest l m)
      at_8 l (halted k) e f g = stopped_before e f g
      at_8 l (running s) e f g = from_state e f g (state_way l s t (inputs_of in_numbers in_values) allowance)

      at_7 : (l : Listing) (r : Option Machine) → long ≡ true → layout.read_table (first_words table) ≡ some l → layout.read_machine l (first_words machine) ≡ r →
          InstantWay (found 7 r (rest l))
      at_7 l none e f g = no_state e f g
      at_7 l (some m) e f g = at_8 l m e f g

      at_6 : (r : Option Listing) → long ≡ true → layout.read_table (first_words table) ≡ r →
          InstantWay (found 6 r λ (l : Listing). found 7 (layout.read_machine l (first_words machine)) (rest l))
      at_6 none e f = no_table e f
      at_6 (some l) e f = at_7 l (layout.read_machine l (first_words machine)) e f refl

      at_1 : (b : Bool) → long ≡ b →
          InstantWay (ask 1 b (found 6 (layout.read_table (first_words table)) λ (l : Listing). found 7 (layout.read_machine l (first_words machine)) (rest l)))
      at_1 false e = too_short e
      at_1 true e = at_6 (layout.read_table (first_words table)) e refl

-- ── the start: 1, 6, 12 ───────────────────────────────────────────────────────────────────────────
module _ (layout : Layout) (table machine outNumbers outValues : List ℕ) (allowance : ℕ) where
  pub data StartWay : Outcome → Type 0 where
    too_short : start_long_enough table machine outNumbers outValues ≡ false → StartWay (refused 1)
    no_table : start_long_enough table machine outNumbers outValues ≡ true → layout.read_table (first_words table) ≡ none → StartWay (refused 6)
    not_allowed : {l : Listing} → start_long_enough table machine outNumbers outValues ≡ true → layout.read_table (first_words table) ≡ some l →
        allowed allowance ≡ false → StartWay (refused 12)
    walks : {l : Listing} → start_long_enough table machine outNumbers outValues ≡ true → layout.read_table (first_words table) ≡ some l →
        allowed allowance ≡ true → StartWay (answered (start l allowance))

  pub start_way : StartWay (start_call layout table machine outNumbers outValues allowance)
  unfolding start_call start_on ask found
  start_way = at_1 (start_long_enough table machine outNumbers outValues) refl
    where
      at_12 : (l : Listing) (d : Bool) → start_long_enough table machine outNumbers outValues ≡ true → layout.read_table (first_words table) ≡ some l →
          allowed allowance ≡ d → StartWay (ask 12 d (answered (start l allowance)))
      at_12 l false e f g = not_allowed e f g
      at_12 l true e f g = walks e f g

      at_6 : (r : Option Listing) → start_long_enough table machine outNumbers outValues ≡ true → layout.read_table (first_words table) ≡ r →
          StartWay (found 6 r λ (l : Listing). start_on l allowance)
      at_6 none e f = no_table e f
      at_6 (some l) e f = at_12 l (allowed allowance) e f refl

      at_1 : (b : Bool) → start_long_enough table machine outNumbers outValues ≡ b →
          StartWay (ask 1 b (found 6 (layout.read_table (first_words table)) λ (l : Listing). start_on l allowance))
      at_1 false e = too_short e
      at_1 true e = at_6 (layout.read_table (first_words table)) e refl
