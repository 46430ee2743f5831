-- The last step of a session prints the `X` line. Letters: e an equation.
use mathlib.Core.Path.{◌≡◌, refl, sym, ap, ◌∙◌}
use mathlib.Core.Bool.{false}
use mathlib.Core.List.{List, ◌++◌}
use Prim.Native.Nat.{ℕ, ◌≤◌}
use native.Mathlib.Omega.{arith}
use lib.ListN.{length, take}
use Rattle.listing.specs.Bytes.{Bytes}
use Rattle.listing.specs.Load.{Loading}
use Rattle.walk.specs.Session.{session, end_line}
use Rattle.session_calls.specs.declared.clock.Clock.{Clock}
use Rattle.session_calls.specs.declared.calls.Called.{Called}
use Rattle.session_printed.specs.Made.{CalledPrinted}
use Rattle.session_printed.specs.Made as printed
use Rattle.session_printed.specs.declared.calls.Made.{Made}
use Rattle.session_printed.proofs.PiecePrinted.{begins_take}
use Rattle.session_replay.specs.After.{step_after, EndsWith}
use Rattle.session_replay.specs.Standing.{Stands, reading}
use Rattle.session_replay.specs.Phases.{Memories, Loads, FromOpening, TowardCall, UntilEnd, FromReading, Does, from_opening, from_starting, from_reading, when_over}
use Rattle.session_replay.specs.Phases as phases
use Rattle.session_replay.specs.Advancing.{Advances, Moves}
use Rattle.session_replay.specs.Advancing as advancing
use Rattle.session_replay.specs.Ending.{is_over, one_more}
use Rattle.session_replay.specs.declared.phase.Phase.{Phase}
use Rattle.session_replay.specs.declared.phase.Phase.TheVariants.{Reading, Over}
use Rattle.session_replay.specs.declared.phase.Step.{Step}
use Rattle.session_replay.specs.declared.phase.Advanced.TheVariants.{Went}
use Rattle.session_replay.proofs.Ending.{made_left, steps_print}
use Rattle.explain_played.specs.Endings.{LastStep}
use Rattle.explain_played.specs.declared.last.Last.{Last}

-- These bytes are an `X` line.
pub record EndsIn (bytes : Bytes) : Type 0 where
  pub code : ℕ
  pub present : ℕ
  pub is : bytes ≡ end_line code present

module _ {before out : List ℕ} {step : Step} where
  with_line_lem : {code present : ℕ} → EndsWith before code present out step → EndsIn (take step.printed out)
  with_line_lem e = record { code = _; present = _; is = begins_take e.prints }

-- A call after which all is printed has ended the session.
after_call : {called : Called} {now t : ℕ} {numbers values before out : List ℕ} {made : Made} (at : ℕ) → CalledPrinted called now t numbers values before out made →
    (step_after made at).phase ≡ Over → EndsIn (take (step_after made at).printed out)
after_call at (printed.CalledPrinted.ended b) e = record { code = _; present = _; is = begins_take b }
after_call at (printed.CalledPrinted.went b) e = absurd (let z : ◌≡◌ {A = ℕ} 0 1 = cc in let y : ⊥ = omega arith in y)

module _ {out : List ℕ} {step : Step} (over : step.phase ≡ Over) where
  stepped : {called : Called} {now t : ℕ} {numbers values before : List ℕ} {made : Made} (at : ℕ) → CalledPrinted called now t numbers values before out made →
      step ≡ step_after made at → EndsIn (take step.printed out)
  stepped at p e = rw e (after_call at p (ap (λ (s : Step). s.phase) (sym e) ∙ over))

  loaded : {before : List ℕ} {answer : Loading} → Loads before out step answer → EndsIn (take step.printed out)
  loaded (phases.Loads.refused e) = with_line_lem e
  loaded (phases.Loads.loaded same e) = absurd (let z : ◌≡◌ {A = ℕ} 0 1 = cc in let y : ⊥ = omega arith in y)

  opened : {listing trace table before table' : List ℕ} → FromOpening listing trace table before table' out step → EndsIn (take step.printed out)
  opened (phases.FromOpening.long_listing h t e) = with_line_lem e
  opened (phases.FromOpening.long_trace short h t e) = with_line_lem e
  opened (phases.FromOpening.loads a b promise after) = loaded after

  toward : {table machine before in_numbers in_values machine' : List ℕ} {clock : Clock} {time at next : ℕ} → TowardCall table machine before clock time in_numbers in_values at next machine' out step →
      EndsIn (take step.printed out)
  toward {at = at} (phases.TowardCall.due soon call e) = stepped at call.prints e
  toward {next = next} (phases.TowardCall.joins soon call e) = stepped next call.prints e

  until : {table machine before machine' : List ℕ} {clock : Clock} {time at : ℕ} {b : _} → UntilEnd table machine before clock time b at machine' out step → EndsIn (take step.printed out)
  until {at = at} (phases.UntilEnd.due soon call e) = stepped at call.prints e
  until (phases.UntilEnd.ends soon codes same e) = with_line_lem e

  read : {trace table machine before machine' : List ℕ} {clock : Clock} {at : ℕ} → at ≤ length trace → FromReading trace table machine before clock at machine' out step →
      EndsIn (take step.printed out)
  read inside (phases.FromReading.past_end past same kept e) = absurd (let y : ⊥ = omega (arith, inside, past) in y)
  read inside (phases.FromReading.call is fits d) = toward d
  read inside (phases.FromReading.last is fits d) = until d
  read inside (phases.FromReading.breaks is same e) = with_line_lem e

-- The offset of a session that stands is within the trace.
inside_trace : {listing trace table machine : List ℕ} {clock : Clock} {at : ℕ} {bytes : Bytes} → Stands listing trace table machine (Reading clock at) bytes → at ≤ length trace
inside_trace (reading short runs inside e) = inside

does_end : {listing trace : Bytes} {m m' : Memories} {step : Step} {phase : Phase} {bytes : Bytes} → step.phase ≡ Over → is_over phase ≡ false →
    Stands listing trace m.table m.machine phase bytes → Does listing trace m m' step phase → EndsIn (take step.printed m'.out)
does_end over going stands (from_opening d same) = opened over d
does_end over going stands (from_starting d same) = stepped over 0 d.call.prints d.is
does_end over going stands (from_reading d same) = read over (inside_trace stands) d
does_end over going stands (when_over same e) = absurd (let z : ◌≡◌ {A = ℕ} 0 1 = cc in let y : ⊥ = omega arith in y)

moved : {listing trace table machine out table' machine' out' : List ℕ} {phase next : Phase} {n : ℕ} →
    Advances listing trace table machine out phase table' machine' out' (Went next n) → Moves listing trace table machine out phase table' machine' out' (record { phase = next; printed = n })
moved (advancing.Advances.went long moves) = moves

module _ {listing trace : Bytes} {m m' : Memories} {r : Last} (last : LastStep listing trace m m' r) where
  -- What the last step printed is an `X` line,
  pub last_line : EndsIn (take r.printed m'.out)
  last_line = does_end refl last.going (made_left last.made).stands (moved last.calls.advances).does

  -- lies within the lent bytes,
  pub last_room : r.printed ≤ length m'.out
  last_room = (moved last.calls.advances).steps.room

  -- and is the end of the session's print.
  pub whole_print : session listing trace ≡ last.bytes ++ take r.printed m'.out
  whole_print = sym (steps_print (one_more last.made last.going last.calls))
