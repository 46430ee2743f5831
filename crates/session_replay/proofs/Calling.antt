-- The steps that may make an engine call, whole: what each does is its step in the session.
-- Letters: d what was done.
use mathlib.Core.Path.{◌≡◌, refl, sym, ap, subst, ◌∙◌}
use mathlib.Core.Bool.{Bool}
use mathlib.Core.List.{List, []}
use Prim.Native.Nat.{ℕ, ◌≤◌, ◌<◌}
use native.Mathlib.Omega.{arith}
use lib.ListN.{length, take, drop}
use Rattle.listing.specs.Bytes.{Bytes}
use Rattle.walk.specs.Calls.{inputs_of, later_words}
use Rattle.walk.specs.Trace.{script, last_at, broken}
use Rattle.walk.specs.Session.{printed, write_lines, end_of, end_line, play}
use Rattle.session_trace.specs.Groups.{CallIs, NextRead}
use Rattle.session_trace.specs.declared.group.Next.{Next}
use Rattle.session_trace.specs.declared.group.Next.TheVariants as Next
use Rattle.session_printed.specs.Made.{InstantPrinted}
use Rattle.session_replay.specs.After.{EndsWith}
use Rattle.session_replay.specs.Standing.{Stands, reading, Left}
use Rattle.session_replay.specs.Phases.{FromStarting, TowardCall, UntilEnd, FromReading}
use Rattle.session_replay.specs.Phases as phases
use Rattle.session_replay.specs.Advancing.{Steps}
use Rattle.session_calls.specs.declared.clock.Clock.{Clock}
use Rattle.session_replay.specs.declared.phase.Phase.TheVariants.{Starting, Reading, Over}
use Rattle.session_replay.specs.declared.phase.Step.{Step}
use Rattle.session_printed.specs.declared.calls.Made.{Made}
use Rattle.session_replay.proofs.Promised.{InstantShown, machine_past, start_shown, instant_shown}
use Rattle.session_replay.proofs.Stepping.{ends_steps, starting_steps, due_call_steps, call_steps, due_end_steps, end_is}

-- ── what was read ─────────────────────────────────────────────────────────────────────────────────
module _ {trace numbers values numbers' values' : List ℕ} {at : ℕ} {read : Next} (is : NextRead trace at numbers values numbers' values' read) where
  read_as : (x : Next) → read ≡ x → NextRead trace at numbers values numbers' values' x
  read_as x e = subst (λ (y : Next). NextRead trace at numbers values numbers' values' y) e is

  pub kept_few : (time count next : ℕ) → read ≡ Next.Call time count next → count ≤ 17
  kept_few time count next e = let r = read_as (Next.Call time count next) e in r.is.few

  module _ (table machine out : List ℕ) (clock : Clock) (machine' out' : List ℕ) (step : Step) where
    pub read_call_lem : (time count next : ℕ) → read ≡ Next.Call time count next → time < 18446744073709551616 →
        TowardCall table machine out clock time (take count numbers') (take count values') at next machine' out' step → FromReading trace table machine out clock at machine' out' step
    read_call_lem time count next e fits d =
        let r = read_as (Next.Call time count next) e in
        phases.FromReading.call {numbers = numbers'} {values = values'} {time = time} {count = count} {next = next} r.is fits d

    pub read_last : (time : ℕ) (nothingAfter : Bool) → read ≡ Next.Last time nothingAfter → time < 18446744073709551616 →
        UntilEnd table machine out clock time nothingAfter at machine' out' step → FromReading trace table machine out clock at machine' out' step
    read_last time nothingAfter e fits d =
        let r = read_as (Next.Last time nothingAfter) e in phases.FromReading.last {time = time} {nothingAfter = nothingAfter} r.is fits d

    pub read_broken : read ≡ Next.Broken → machine' ≡ machine → EndsWith out 2 clock.now out' step → FromReading trace table machine out clock at machine' out' step
    read_broken e same ends = let r = read_as Next.Broken e in phases.FromReading.breaks r.is same ends

module _ (listing trace table machine out machine' out' : List ℕ) (step : Step) where
  -- ── words past 12,288 ───────────────────────────────────────────────────────────────────────────
  pub starting_past : FromStarting table machine out machine' out' step → later_words machine' ≡ later_words machine
  starting_past d = machine_past table machine machine' _ d.call.call.made.promise.machine_is

  toward_past : (clock : Clock) (time : ℕ) (in_numbers in_values : List ℕ) (at next : ℕ) → TowardCall table machine out clock time in_numbers in_values at next machine' out' step →
      later_words machine' ≡ later_words machine
  toward_past clock time in_numbers in_values at next (phases.TowardCall.due soon call is) = machine_past table machine machine' _ call.call.made.promise.machine_is
  toward_past clock time in_numbers in_values at next (phases.TowardCall.joins soon call is) = machine_past table machine machine' _ call.call.made.promise.machine_is

  until_past : (clock : Clock) (time : ℕ) (nothingAfter : Bool) (at : ℕ) → UntilEnd table machine out clock time nothingAfter at machine' out' step →
      later_words machine' ≡ later_words machine
  until_past clock time nothingAfter at (phases.UntilEnd.due soon call is) = machine_past table machine machine' _ call.call.made.promise.machine_is
  until_past clock time nothingAfter at (phases.UntilEnd.ends soon codes m e) = ap (λ (x : List ℕ). later_words x) m

  pub reading_past : (clock : Clock) (at : ℕ) → FromReading trace table machine out clock at machine' out' step → later_words machine' ≡ later_words machine
  reading_past clock at (phases.FromReading.past_end past m o s) = ap (λ (x : List ℕ). later_words x) m
  reading_past clock at (phases.FromReading.call {numbers} {values} {time} {count} {next} is fits d) =
      toward_past clock time (take count numbers) (take count values) at next d
  reading_past clock at (phases.FromReading.last {time} {nothingAfter} is fits d) = until_past clock time nothingAfter at d
  reading_past clock at (phases.FromReading.breaks is m e) = ap (λ (x : List ℕ). later_words x) m

  -- ── in the session ──────────────────────────────────────────────────────────────────────────────
  past_end_steps : (clock : Clock) (at : ℕ) → length trace < at → Steps listing trace table machine (Reading clock at) table machine' out' (record { phase = Over; printed = 0 })
  past_end_steps clock at past = record { room = omega arith; prints = go }
    where
      go : (bytes : Bytes) → Stands listing trace table machine (Reading clock at) bytes → Left listing trace table machine' Over bytes (take 0 out')
      go bytes (reading short runs inside e) = absurd (let y : ⊥ = omega arith in y)

  broken_is : (clock : Clock) (at : ℕ) → script (drop at trace) ≡ broken → (bytes : Bytes) → Stands listing trace table machine (Reading clock at) bytes → bytes ≡ end_line 2 clock.now
  unfolding printed write_lines end_of play
  broken_is clock at is bytes (reading {l = l} {s = s} short runs within e) = e ∙ rw (is, runs.present)

  pub starting_does : FromStarting table machine out machine' out' step → Steps listing trace table machine Starting table machine' out' step
  starting_does d =
      rw d.is (starting_steps listing trace table machine machine' out' d.made (start_shown d.call))

  without_inputs : {present t : ℕ} {made : Made} → InstantPrinted present t [] [] table machine out machine' out' made → InstantShown table machine machine' out' present t [] made
  unfolding inputs_of
  without_inputs call = instant_shown call

  toward_does : (clock : Clock) (at : ℕ) (numbers values : List ℕ) (time count next : ℕ) → CallIs trace at numbers values time count next →
      time < 18446744073709551616 → TowardCall table machine out clock time (take count numbers) (take count values) at next machine' out' step →
      Steps listing trace table machine (Reading clock at) table machine' out' step
  toward_does clock at numbers values time count next reads fits (phases.TowardCall.due {m} {made} soon call is) =
      rw is (due_call_steps listing trace table machine machine' out' clock at numbers values time count next fits reads m made soon (without_inputs call))
  toward_does clock at numbers values time count next reads fits (phases.TowardCall.joins {made} soon call is) =
      rw is
      (call_steps listing trace table machine machine' out' clock at numbers values time count next fits reads made soon
      (instant_shown call))

  until_does : (clock : Clock) (at time : ℕ) (nothingAfter : Bool) → script (drop at trace) ≡ last_at time nothingAfter → time < 18446744073709551616 →
      UntilEnd table machine out clock time nothingAfter at machine' out' step → Steps listing trace table machine (Reading clock at) table machine' out' step
  until_does clock at time nothingAfter reads fits (phases.UntilEnd.due {m} {made} soon call is) =
      rw is (due_end_steps listing trace table machine machine' out' clock at time nothingAfter fits reads m made soon (without_inputs call))
  until_does clock at time nothingAfter reads fits (phases.UntilEnd.ends {code} soon codes m e) =
      ends_steps listing trace table machine (Reading clock at) table machine' out out' code clock.now step e
      (end_is listing trace table machine machine' out' clock at time nothingAfter fits reads code codes soon)

  pub reading_does : (clock : Clock) (at : ℕ) → FromReading trace table machine out clock at machine' out' step →
      Steps listing trace table machine (Reading clock at) table machine' out' step
  reading_does clock at (phases.FromReading.past_end past m o s) = rw s (past_end_steps clock at past)
  reading_does clock at (phases.FromReading.call {numbers} {values} {time} {count} {next} reads fits d) = toward_does clock at numbers values time count next reads fits d
  reading_does clock at (phases.FromReading.last {time} {nothingAfter} reads fits d) = until_does clock at time nothingAfter reads fits d
  reading_does clock at (phases.FromReading.breaks is m e) =
      ends_steps listing trace table machine (Reading clock at) table machine' out out' 2 clock.now step e (broken_is clock at is)
