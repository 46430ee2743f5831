-- From what a step's call made and printed to the step: what it printed is the first of what was to be printed.
-- Letters: l the listing, s the state, p what came of a call, e and f equations.
use mathlib.Core.Path.{◌≡◌, refl, sym, ap, subst, ◌∙◌}
use mathlib.Core.Bool.{Bool, true, false}
use mathlib.Core.List.{List, [], ◌∷◌, ◌++◌}
use Prim.Native.Nat.{ℕ, suc, ◌≤◌, ◌<◌}
use native.Mathlib.Omega.{arith}
use lib.ListN.{length, take, drop}
use Rattle.listing.specs.Bytes.{Bytes}
use Rattle.listing.specs.Listing.{Listing}
use Rattle.walk.specs.State.{State}
use Rattle.walk.specs.Instant.{Write}
use Rattle.walk.specs.Calls.{due_before, inputs_of, start_on}
use Rattle.walk.specs.Trace.{Script, script, last_at}
use Rattle.walk.specs.Session.{Played, and_then, played, call_from, printed, write_lines, end_of, end_line, end_code, play, play_all, session_allowance}
use Rattle.call_conclude.specs.Answers.{due_of}
use Rattle.session_trace.specs.Groups.{CallIs}
use Rattle.session_calls.specs.Clock.{Runs}
use Rattle.session_replay.specs.Standing.{Stands, starting, reading, over, Left}
use Rattle.session_calls.specs.Clock.{Soon, due_at_lem, none_due}
use Rattle.session_replay.specs.After.{step_after, EndsWith}
use Rattle.session_replay.specs.Advancing.{Steps}
use Rattle.session_calls.specs.declared.clock.Clock.{Clock}
use Rattle.session_replay.specs.declared.phase.Phase.{Phase}
use Rattle.session_replay.specs.declared.phase.Phase.TheVariants.{Starting, Reading, Over}
use Rattle.session_replay.specs.declared.phase.Step.{Step}
use Rattle.session_printed.specs.declared.calls.Made.{Made}
use Rattle.session_printed.specs.declared.calls.Made.TheVariants.{Ended, Went}
use Rattle.call_conclude.specs.declared.answers.Due.TheVariants.{Never, At}
use Rattle.session_calls.proofs.Lawful.{lawful, is_state}
use Rattle.session_printed.proofs.PiecePrinted.{begins_take, begins_room}
use Rattle.session_replay.proofs.CallPrinted.{CallPrinted, bytes_of}
use Rattle.session_replay.proofs.CallPrinted as call
use Rattle.session_replay.proofs.Promised.{StartShown, InstantShown}
use Rattle.session_replay.proofs.Playing.{due_toward, call_toward, due_until, end_until}

append_nothing : (xs : Bytes) → xs ++ [] ≡ xs
append_nothing [] = refl
append_nothing (x ∷ xs) = rw (append_nothing xs)

-- ── a step that ends the session ──────────────────────────────────────────────────────────────────
module _ (listing trace table machine : List ℕ) where
  over_left : (phase : Phase) (bytes piece : Bytes) → phase ≡ Over → bytes ≡ piece → Left listing trace table machine phase bytes piece
  over_left phase bytes piece e f = record { rest = []; parts = f ∙ sym (append_nothing piece); stands = rw e over }

pub ends_steps : (listing trace table machine : List ℕ) (phase : Phase) (table' machine' before out : List ℕ) (code present : ℕ) (step : Step) →
    EndsWith before code present out step → ((bytes : Bytes) → Stands listing trace table machine phase bytes → bytes ≡ end_line code present) →
    Steps listing trace table machine phase table' machine' out step
ends_steps listing trace table machine phase table' machine' before out code present step e all =
    record {
      room = begins_room e.prints;
      prints = λ bytes h. over_left listing trace table' machine' step.phase bytes (take step.printed out) e.over (all bytes h ∙ sym (begins_take e.prints));
    }

-- ── a step that made a call ───────────────────────────────────────────────────────────────────────
step_room : (made : Made) (at : ℕ) (out : List ℕ) → bytes_of made ≤ length out → (step_after made at).printed ≤ length out
step_room (Ended n) at out h = h
step_room (Went clock n) at out h = h

module _ (listing trace table machine out : List ℕ) (l : Listing) (p : Played) (at : ℕ) (next : State → Played)
    (stands : (clock : Clock) (u : State) → Runs table machine clock l u → Stands listing trace table machine (Reading clock at) (printed (next u))) where
  call_left : (made : Made) (bytes : Bytes) → CallPrinted table machine out l p made → bytes ≡ printed (and_then p next) →
      Left listing trace table machine (step_after made at).phase bytes (take (step_after made at).printed out)
  call_left _ bytes (call.ended {n} is) e = over_left listing trace table machine Over bytes (take n out) refl (e ∙ is next)
  call_left _ bytes (call.went {n} {clock} u runs is) e = record { rest = printed (next u); parts = e ∙ is next; stands = stands clock u runs }

-- The start.
pub starting_steps : (listing trace table machine machine' out : List ℕ) (made : Made) → StartShown table machine' out made →
    Steps listing trace table machine Starting table machine' out (step_after made 0)
unfolding play_all
starting_steps listing trace table machine machine' out made m = record { room = step_room made 0 out m.room; prints = go }
  where
    go : (bytes : Bytes) → Stands listing trace table machine Starting bytes → Left listing trace table machine' (step_after made 0).phase bytes (take (step_after made 0).printed out)
    go bytes (starting {l = l} short reads e) =
        call_left listing trace table machine' out l (played 0 0 (start_on l session_allowance)) 0 (play l (script trace))
        (λ clock u runs. reading short runs (omega arith) refl) made bytes (m.prints l reads) e

-- From a machine that runs.
module _ (listing trace table machine machine' out : List ℕ) (clock : Clock) (at : ℕ) where
  -- An instant that is the first of what the script asks for, and what it asks for then is read at an offset.
  instant_steps : (t : ℕ) (inputs : List Write) (next : ℕ) (made : Made) → InstantShown table machine machine' out clock.now t inputs made → (at ≤ length trace → next ≤ length trace) →
      ((l : Listing) (s : State) → Runs table machine clock l s → play l (script (drop at trace)) s ≡ and_then (call_from l t inputs s) (play l (script (drop next trace)))) →
      Steps listing trace table machine (Reading clock at) table machine' out (step_after made next)
  instant_steps t inputs next made i within first = record { room = step_room made next out i.room; prints = go }
    where
      go : (bytes : Bytes) → Stands listing trace table machine (Reading clock at) bytes →
          Left listing trace table machine' (step_after made next).phase bytes (take (step_after made next).printed out)
      go bytes (reading {l = l} {s = s} short runs inside e) =
          call_left listing trace table machine' out l (call_from l t inputs s) next (play l (script (drop next trace))) (λ c u runs'. reading short runs' (within inside) refl)
          made bytes (i.prints l s clock runs refl) (e ∙ ap printed (first l s runs))

  -- The due instants before a call, and the call.
  module _ (numbers values : List ℕ) (time count next : ℕ) (fits : time < 18446744073709551616) (is : CallIs trace at numbers values time count next) where
    pub due_call_steps : (m : ℕ) (made : Made) → Soon (due_of clock.due) time (At m) → InstantShown table machine machine' out clock.now m [] made →
        Steps listing trace table machine (Reading clock at) table machine' out (step_after made at)
    due_call_steps m made (due_at_lem due before) i =
        instant_steps m [] at made i (λ inside. inside)
        (λ l s runs.
        subst (λ (x : Script). play l x s ≡ and_then (call_from l m [] s) (play l x)) (sym is.is)
        (due_toward l s (lawful runs) (is_state runs) time is.inputs (script (drop next trace)) fits m (sym runs.due ∙ due) before))

    pub call_steps : (made : Made) → Soon (due_of clock.due) time Never →
        InstantShown table machine machine' out clock.now time (inputs_of (take count numbers) (take count values)) made →
        Steps listing trace table machine (Reading clock at) table machine' out (step_after made next)
    call_steps made (none_due none) i =
        instant_steps time (inputs_of (take count numbers) (take count values)) next made i (λ inside. is.inside)
        (λ l s runs.
        ap (λ (x : Script). play l x s) is.is ∙
        call_toward l s (lawful runs) (is_state runs) time is.inputs (script (drop next trace)) fits (inputs_of (take count numbers) (take count values)) is.kept
        (ap (λ x. due_before x time) (sym runs.due) ∙ none))

  -- The due instants up to the last line's time, and the end.
  module _ (time : ℕ) (nothingAfter : Bool) (fits : time < 18446744073709551616) (is : script (drop at trace) ≡ last_at time nothingAfter) where
    pub due_end_steps : (m : ℕ) (made : Made) → Soon (due_of clock.due) (suc time) (At m) → InstantShown table machine machine' out clock.now m [] made →
        Steps listing trace table machine (Reading clock at) table machine' out (step_after made at)
    due_end_steps m made (due_at_lem due before) i =
        instant_steps m [] at made i (λ inside. inside)
        (λ l s runs.
        subst (λ (x : Script). play l x s ≡ and_then (call_from l m [] s) (play l x)) (sym is)
        (due_until l s (lawful runs) (is_state runs) time nothingAfter fits m (sym runs.due ∙ due) before))

    pub end_is : (code : ℕ) → ((l : Listing) → code ≡ end_code l nothingAfter) → Soon (due_of clock.due) (suc time) Never →
        (bytes : Bytes) → Stands listing trace table machine (Reading clock at) bytes → bytes ≡ end_line code clock.now
    unfolding printed write_lines end_of
    end_is code codes (none_due none) bytes (reading {l = l} {s = s} short runs inside e) =
        e ∙
        (ap (λ (x : Script). printed (play l x s)) is ∙
        (ap printed (end_until l s (lawful runs) (is_state runs) time nothingAfter fits (ap (λ x. due_before x (suc time)) (sym runs.due) ∙ none)) ∙
        rw (codes l, runs.present)))

pub clean_end : (b : Bool) → b ≡ true → (l : Listing) → 0 ≡ end_code l b
unfolding end_code
clean_end b e l = rw e

pub unclean_end : (b : Bool) → b ≡ false → (l : Listing) → 2 ≡ end_code l b
unfolding end_code
unclean_end b e l = rw e
