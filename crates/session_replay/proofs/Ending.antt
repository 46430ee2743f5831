-- A session ends: each step leaves fewer to be made. Letters: l the listing, s the state, m and m' memories, n a number of steps.
use mathlib.Core.Path.{◌≡◌, refl, sym, ap, subst, ◌∙◌}
use mathlib.Core.Bool.{Bool, true, false}
use mathlib.Core.List.{List, [], ◌∷◌, ◌++◌, append_assoc, append-nil}
use Prim.Native.Nat.{ℕ, zero, suc, ◌+◌, ◌-◌, ◌≤◌, ◌<◌}
use native.Mathlib.Omega.{arith}
use lib.Dec.{ltb}
use lib.ListN.{length, take}
use borrow.Author.Tests.{ltb-true}
use Rattle.listing.specs.Bytes.{Bytes}
use Rattle.listing.specs.Listing.{Listing}
use Rattle.walk.specs.State.{State}
use Rattle.walk.specs.Instant.{Write}
use Rattle.walk.specs.Calls.{Outcome, ask, outcome_number, instant_from, inputs_of}
use Rattle.walk.specs.Session.{session, session_allowance}
use Rattle.session_calls.specs.Clock.{Soon, due_at_lem}
use Rattle.session_calls.specs.Calls.{Goes, goes}
use Rattle.session_calls.specs.declared.calls.Called as came
use Rattle.session_calls.specs.declared.calls.Called.TheVariants as Came
use Rattle.session_printed.specs.Made.{CalledPrinted, InstantPrinted}
use Rattle.session_printed.specs.Made as specs
use Rattle.session_calls.specs.declared.clock.Clock.{Clock}
use Rattle.session_printed.specs.declared.calls.Made.{Made}
use Rattle.session_printed.specs.declared.calls.Made.TheVariants as Made
use Rattle.session_calls.specs.Clock.{Runs}
use Rattle.session_replay.specs.Standing.{Stands, opening, reading, Left}
use Rattle.session_replay.specs.After.{step_after, EndsWith}
use Rattle.session_replay.specs.Phases.{Loads, FromOpening, FromStarting, TowardCall, UntilEnd, FromReading, Memories, memories, Does, from_opening, from_starting, from_reading, when_over}
use Rattle.session_replay.specs.Phases as phases
use Rattle.session_replay.specs.Advancing.{long_enough, Moves, Advances, went, too_short}
use Rattle.session_replay.specs.Ending.{is_over, steps_left, steps_at_most, are_long, AsLong, Calls, StepsMade, none, one_more, Called, KeepsContract, Point, onward, call_from, after_calls, AllPrinted}
use Rattle.session_replay.specs.declared.phase.Phase.{Phase}
use Rattle.session_replay.specs.declared.phase.Phase.TheVariants.{Opening, Starting, Reading, Over}
use Rattle.session_replay.specs.declared.phase.Step.{Step}
use Rattle.session_replay.specs.declared.phase.Advanced.{Advanced}
use Rattle.session_replay.specs.declared.phase.Advanced.TheVariants.{Went, TooShort}
use Rattle.session_replay.proofs.Moving.{Enough, enough, over_nothing}

-- ── an instant call that went through is later than the present moment ────────────────────────────
asked : (k : ℕ) (b : Bool) (next : Outcome) → 1 ≤ k → outcome_number (ask k b next) ≡ 0 → b ≡ true
unfolding ask outcome_number
asked k true next l e = refl
asked k false next l e = absurd (let y : ⊥ = omega arith in y)

went_later : (l : Listing) (s : State) (t : ℕ) (inputs : List Write) (allowance : ℕ) → outcome_number (instant_from l s t inputs allowance) ≡ 0 → s.now < t
unfolding instant_from
went_later l s t inputs allowance e = ltb-true s.now t (asked 9 (ltb s.now t) _ (omega arith) e)

went_through : {table machine numbers values : List ℕ} {l : Listing} {t : ℕ} {o : Outcome} {c : Clock} {k : ℕ} → Goes table machine numbers values l t o (Came.Went c k) →
    (outcome_number o ≡ 0) × (c.now ≡ t)
unfolding outcome_number
went_through (goes moved at runs listed) = (refl, at)

called_went : {called : came.Called} {now t : ℕ} {numbers values before after : List ℕ} {c : Clock} {n : ℕ} (P : came.Called → Type 0) → ((k : ℕ) → P (Came.Went c k)) →
    CalledPrinted called now t numbers values before after (Made.Went c n) → P called
called_went P h (specs.CalledPrinted.went {listed = k} b) = h k

module _ (table machine out machine' out' : List ℕ) (clock : Clock) (l : Listing) (s : State) (runs : Runs table machine clock l s) where
  later : (t : ℕ) (in_numbers in_values : List ℕ) (c : Clock) (n : ℕ) → InstantPrinted clock.now t in_numbers in_values table machine out machine' out' (Made.Went c n) →
      (clock.now < t) × (c.now ≡ t)
  later t in_numbers in_values c n call =
      let inputs = inputs_of in_numbers in_values in
      let o = instant_from l s t inputs session_allowance in
      let done = called_went (λ (x : came.Called). Goes table machine' call.numbers' call.values' l t o x → (outcome_number o ≡ 0) × (c.now ≡ t)) (λ k g. went_through g) call.prints
      (call.call.walks l s clock runs) in
      let after = went_later l s t inputs session_allowance done.0 in
      (omega (arith, runs.present), done.1)

-- ── each step leaves fewer to be made ─────────────────────────────────────────────────────────────
module _ (step : Step) where
  at_end_lem : step.phase ≡ Over → (k : ℕ) → 1 ≤ k → steps_left step.phase < k
  at_end_lem e k l = let z : steps_left step.phase ≡ 0 = ap (λ (p : Phase). steps_left p) e in omega arith

  as_step : (other : Step) → step ≡ other → (k : ℕ) → steps_left other.phase < k → steps_left step.phase < k
  as_step other e k h = let z : steps_left step.phase ≡ steps_left other.phase = ap (λ (x : Step). steps_left x.phase) e in omega arith

  after_call : (made : Made) (at k : ℕ) → 1 ≤ k → ((c : Clock) (n : ℕ) → made ≡ Made.Went c n → steps_left (Reading c at) < k) → steps_left (step_after made at).phase < k
  after_call (Made.Ended n) at k l h = omega arith
  after_call (Made.Went c n) at k l h = h c n refl

  opening_falls : {listing trace table out table' out' : List ℕ} → FromOpening listing trace table out table' out' step → steps_left step.phase < steps_left Opening
  opening_falls (phases.FromOpening.long_listing h t e) = at_end_lem e.over _ (omega arith)
  opening_falls (phases.FromOpening.long_trace h g t e) = at_end_lem e.over _ (omega arith)
  opening_falls (phases.FromOpening.loads h g promise (phases.Loads.refused e)) = at_end_lem e.over _ (omega arith)
  opening_falls (phases.FromOpening.loads h g promise (phases.Loads.loaded o s)) = as_step _ s _ (omega arith)

  starting_falls : {table machine out machine' out' : List ℕ} → FromStarting table machine out machine' out' step → steps_left step.phase < steps_left Starting
  starting_falls d = as_step _ d.is _ (after_call d.made 0 _ (omega arith) (λ c n e. omega arith))

  module _ (table machine out machine' out' : List ℕ)
      (clock : Clock) (l : Listing) (s : State) (runs : Runs table machine clock l s) (at : ℕ) where
    -- An instant before 2 to the 64, after which the session goes on at an offset.
    instant_falls : (t : ℕ) (in_numbers in_values : List ℕ) (made : Made) (next : ℕ) → t < 18446744073709551616 →
        InstantPrinted clock.now t in_numbers in_values table machine out machine' out' made → step ≡ step_after made next → steps_left step.phase < steps_left (Reading clock at)
    instant_falls t in_numbers in_values made next fits call is =
        as_step _ is _
        (after_call made next _ (omega arith)
        (λ c n e.
        let p = later table machine out machine' out' clock l s runs t in_numbers in_values c n
        (subst (λ (x : Made). InstantPrinted clock.now t in_numbers in_values table machine out machine' out' x) e call) in
        let q = p.0 in let r = p.1 in omega arith))

    toward_falls : (time count next : ℕ) (numbers values : List ℕ) → time < 18446744073709551616 →
        TowardCall table machine out clock time (take count numbers) (take count values) at next machine' out' step → steps_left step.phase < steps_left (Reading clock at)
    toward_falls time count next numbers values fits (phases.TowardCall.due {m} {made} (due_at_lem due before) call is) = instant_falls m [] [] made at (omega arith) call is
    toward_falls time count next numbers values fits (phases.TowardCall.joins {made} soon call is) =
        instant_falls time (take count numbers) (take count values) made next fits call is

    until_falls : (time : ℕ) (nothingAfter : Bool) → time < 18446744073709551616 → UntilEnd table machine out clock time nothingAfter at machine' out' step →
        steps_left step.phase < steps_left (Reading clock at)
    until_falls time nothingAfter fits (phases.UntilEnd.due {m} {made} (due_at_lem due before) call is) = instant_falls m [] [] made at (omega arith) call is
    until_falls time nothingAfter fits (phases.UntilEnd.ends soon codes m e) = at_end_lem e.over _ (omega arith)

    reading_falls : (trace : Bytes) → FromReading trace table machine out clock at machine' out' step → steps_left step.phase < steps_left (Reading clock at)
    reading_falls trace (phases.FromReading.past_end past m o s) = as_step _ s _ (omega arith)
    reading_falls trace (phases.FromReading.call {numbers} {values} {time} {count} {next} is fits d) = toward_falls time count next numbers values fits d
    reading_falls trace (phases.FromReading.last {time} {nothingAfter} is fits d) = until_falls time nothingAfter fits d
    reading_falls trace (phases.FromReading.breaks is m e) = at_end_lem e.over _ (omega arith)

never_both : {A : Type 0} → true ≡ false → A
never_both e = absurd (let z : ◌≡◌ {A = ℕ} 0 1 = cc in let y : ⊥ = omega arith in y)

does_fall : (listing trace : Bytes) (m m' : Memories) (step : Step) (long : Enough (length m.table) (length m.machine) (length m.out)) (phase : Phase) (bytes : Bytes) →
    Does listing trace m m' step phase → Stands listing trace m.table m.machine phase bytes → is_over phase ≡ false → steps_left step.phase < steps_left phase
does_fall listing trace m m' step long _ bytes (from_opening d machine) h on = opening_falls step d
does_fall listing trace m m' step long _ bytes (from_starting d table) h on = starting_falls step d
does_fall listing trace m m' step long _ bytes (from_reading {clock} {at} d table) (reading {l = l} {s = s} short runs inside e) on =
    reading_falls step m.table m.machine m.out m'.machine m'.out clock l s runs at trace d
does_fall listing trace m m' step long _ bytes (when_over same s) h on = never_both on

-- ── a call ────────────────────────────────────────────────────────────────────────────────────────
module _ {listing trace table machine out table' machine' out' : List ℕ} {phase : Phase} where
  went_long : {next : Phase} {n : ℕ} → Advances listing trace table machine out phase table' machine' out' (Went next n) → long_enough table machine out ≡ true
  went_long (went long moves) = long

  went_moves : {next : Phase} {n : ℕ} → Advances listing trace table machine out phase table' machine' out' (Went next n) →
      Moves listing trace table machine out phase table' machine' out' (record { phase = next; printed = n })
  went_moves (went long moves) = moves

  short_answer : Advances listing trace table machine out phase table' machine' out' TooShort → long_enough table machine out ≡ false
  short_answer (too_short short same) = short

-- From a phase that stands in a session, a step leaves fewer to be made.
pub call_falls : {listing trace : Bytes} {m m' : Memories} {phase next : Phase} {printed : ℕ} {bytes : Bytes} → Calls listing trace m phase m' (Went next printed) →
    Stands listing trace m.table m.machine phase bytes → is_over phase ≡ false → steps_left next < steps_left phase
call_falls {listing} {trace} {m} {m'} {phase} {next} {printed} {bytes} c h on =
    does_fall listing trace (memories m.table m.machine m.out) (memories m'.table m'.machine m'.out) (record { phase = next; printed = printed })
    (enough (length m.table) (length m.machine) (length m.out) (went_long c.advances)) phase bytes (went_moves c.advances).does h on

-- ── steps from the opening ────────────────────────────────────────────────────────────────────────
pub is_over_lem : (phase : Phase) → is_over phase ≡ true → phase ≡ Over
is_over_lem Opening e = never_both (sym e)
is_over_lem Starting e = never_both (sym e)
is_over_lem (Reading clock at) e = never_both (sym e)
is_over_lem Over e = refl

longer : {m m' m'' : Memories} → AsLong m m' → AsLong m' m'' → AsLong m m''
longer a b = record { table_is = b.table_is ∙ a.table_is; machine_is_lem = b.machine_is_lem ∙ a.machine_is_lem; out_is = b.out_is ∙ a.out_is }

pub still_long : {m m' : Memories} → AsLong m m' → are_long m ≡ true → are_long m' ≡ true
still_long a e = rw (a.table_is, a.machine_is_lem, a.out_is) e

module _ {listing trace : Bytes} {m : Memories} where
  -- What they printed is the first of the session, and the rest is still to be printed.
  pub made_left : {n : ℕ} {m' : Memories} {phase : Phase} {bytes : Bytes} → StepsMade listing trace m n m' phase bytes →
      Left listing trace m'.table m'.machine phase (session listing trace) bytes
  made_left none = record { rest = session listing trace; parts = refl; stands = opening refl }
  made_left (one_more {printed = printed} {m'' = m''} {bytes = bytes} made on call) =
      let before = made_left made in
      let step = (went_moves call.advances).steps.prints before.rest before.stands in
      record {
        rest = step.rest;
        parts = before.parts ∙ (ap (λ (x : Bytes). bytes ++ x) step.parts ∙ sym (append_assoc bytes (take printed m''.out) step.rest));
        stands = step.stands;
      }

  pub made_as_long : {n : ℕ} {m' : Memories} {phase : Phase} {bytes : Bytes} → StepsMade listing trace m n m' phase bytes → AsLong m m'
  made_as_long none = record { table_is = refl; machine_is_lem = refl; out_is = refl }
  made_as_long (one_more made on call) = longer (made_as_long made) call.as_long

  -- A step more leaves fewer to be made.
  pub step_falls : {n printed : ℕ} {m' m'' : Memories} {phase next : Phase} {bytes : Bytes} → StepsMade listing trace m n m' phase bytes → is_over phase ≡ false →
      Calls listing trace m' phase m'' (Went next printed) → steps_left next < steps_left phase
  step_falls made on call = call_falls call (made_left made).stands on

  -- They are at most `steps_at_most`.
  pub steps_are_few : {n : ℕ} {m' : Memories} {phase : Phase} {bytes : Bytes} → StepsMade listing trace m n m' phase bytes → n + steps_left phase ≤ steps_at_most
  steps_are_few none = omega arith
  steps_are_few (one_more made on call) = let a = steps_are_few made in let b = step_falls made on call in omega arith

  -- If all is printed, it is the session.
  pub steps_print : {n : ℕ} {m' : Memories} {bytes : Bytes} → StepsMade listing trace m n m' Over bytes → bytes ≡ session listing trace
  steps_print {m' = m'} {bytes = bytes} made =
      let left = made_left made in
      sym (left.parts ∙ (ap (λ (x : Bytes). bytes ++ x) (sym (over_nothing listing trace m'.table m'.machine left.rest left.stands)) ∙ append-nil bytes))

  -- With memories that are long enough at the opening, no call finds one too short: the next call makes one step more.
  pub steps_go_on : {n : ℕ} {m' m'' : Memories} {phase : Phase} {bytes : Bytes} → are_long m ≡ true → StepsMade listing trace m n m' phase bytes →
      Calls listing trace m' phase m'' TooShort → ⊥
  steps_go_on long made call = never_both (sym (still_long (made_as_long made) long) ∙ short_answer call.advances)

-- ── calls again and again ─────────────────────────────────────────────────────────────────────────
none_left_over : (phase : Phase) → steps_left phase ≡ 0 → phase ≡ Over
none_left_over Opening e = absurd (let y : ⊥ = omega arith in y)
none_left_over Starting e = absurd (let y : ⊥ = omega arith in y)
none_left_over (Reading clock at) e = absurd (let y : ⊥ = omega arith in y)
none_left_over Over e = refl

append_nothing : (bytes out : Bytes) → bytes ++ take 0 out ≡ bytes
append_nothing bytes [] = append-nil bytes
append_nothing bytes (x ∷ xs) = append-nil bytes

-- After n calls: n steps were made, or all is printed.
data Gone (listing trace : Bytes) (m : Memories) (n : ℕ) (p : Point) : Type 0 where
  on : StepsMade listing trace m n p.held p.phase p.bytes → Gone listing trace m n p
  ended : AllPrinted listing trace p → Gone listing trace m n p

module _ (listing trace : Bytes) where
  -- A call once all is printed prints nothing.
  over_step : {m m' : Memories} {step : Step} {phase : Phase} → phase ≡ Over → Does listing trace m m' step phase → step ≡ record { phase = Over; printed = 0 }
  over_step e (from_opening d machine) = let z : ◌≡◌ {A = ℕ} 0 1 = cc in absurd (let y : ⊥ = omega arith in y)
  over_step e (from_starting d table) = let z : ◌≡◌ {A = ℕ} 0 1 = cc in absurd (let y : ⊥ = omega arith in y)
  over_step e (from_reading d table) = let z : ◌≡◌ {A = ℕ} 0 1 = cc in absurd (let y : ⊥ = omega arith in y)
  over_step e (when_over same s) = s

  nothing_more : (m m' : Memories) (answer : Advanced) (p : Point) → Calls listing trace m p.phase m' answer → AllPrinted listing trace p → AllPrinted listing trace (onward m' answer p)
  unfolding onward
  nothing_more m m' (Went next printed) p call all =
      let s = over_step all.over (went_moves call.advances).does in
      record {
        over = ap (λ (x : Step). x.phase) s;
        prints = ap (λ (k : ℕ). p.bytes ++ take k m'.out) (ap (λ (x : Step). x.printed) s) ∙ (append_nothing p.bytes m'.out ∙ all.prints);
      }
  nothing_more m m' TooShort p call all = record { over = all.over; prints = all.prints }

  all_printed : {m : Memories} {n : ℕ} (p : Point) → StepsMade listing trace m n p.held p.phase p.bytes → p.phase ≡ Over → AllPrinted listing trace p
  all_printed {m} {n} p made e = record { over = e; prints = steps_print (subst (λ (x : Phase). StepsMade listing trace m n p.held x p.bytes) e made) }

  module _ (m : Memories) (long : are_long m ≡ true) where
    one_call : (n : ℕ) (p : Point) (m' : Memories) (answer : Advanced) (b : Bool) → is_over p.phase ≡ b → StepsMade listing trace m n p.held p.phase p.bytes →
        Calls listing trace p.held p.phase m' answer → Gone listing trace m (suc n) (onward m' answer p)
    unfolding onward
    one_call n p m' answer true e made call = ended (nothing_more p.held m' answer p call (all_printed p made (is_over_lem p.phase e)))
    one_call n p m' (Went next printed) false e made call = on (one_more made e call)
    one_call n p m' TooShort false e made call = absurd (steps_go_on long made call)

    gone_on : (n : ℕ) (p : Point) (m' : Memories) (answer : Advanced) → Gone listing trace m n p → Calls listing trace p.held p.phase m' answer →
        Gone listing trace m (suc n) (onward m' answer p)
    gone_on n p m' answer (on made) call = one_call n p m' answer (is_over p.phase) refl made call
    gone_on n p m' answer (ended all) call = ended (nothing_more p.held m' answer p call all)

    module _ (call : Memories → Phase → Called) (keeps : KeepsContract listing trace call) where
      gone : (n : ℕ) → Gone listing trace m n (after_calls call m n)
      unfolding after_calls call_from
      gone zero = on none
      gone (suc n) = let p = after_calls call m n in gone_on n p (call p.held p.phase).left (call p.held p.phase).answer (gone n) (keeps p.held p.phase)

      few_left : (n : ℕ) (p : Point) → steps_at_most ≤ n → Gone listing trace m n p → AllPrinted listing trace p
      few_left n p h (on made) = all_printed p made (none_left_over p.phase (let few = steps_are_few made in omega arith))
      few_left n p h (ended all) = all

      ends_by : (n : ℕ) → steps_at_most ≤ n → AllPrinted listing trace (after_calls call m n)
      ends_by n h = few_left n (after_calls call m n) h (gone n)

-- A session ends. Whatever `advance` does that its contract allows, and whatever the memories hold that are lent, if they are long enough:
-- after at most `steps_at_most` calls, one after another from the opening, all is printed, and it is the session.
pub a_session_ends : (listing trace : Bytes) (call : Memories → Phase → Called) → KeepsContract listing trace call → (m : Memories) → are_long m ≡ true →
    (n : ℕ) → steps_at_most ≤ n → AllPrinted listing trace (after_calls call m n)
a_session_ends listing trace call keeps m long n h = ends_by listing trace m long call keeps n h
