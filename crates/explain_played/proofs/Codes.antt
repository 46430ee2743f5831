-- What is read in a line. Letters: s a text.
use mathlib.Core.Path.{◌≡◌, refl}
use Prim.Native.Nat.{ℕ, ◌≤◌, ◌<◌}
use borrow.Author.Tests.{lt-ltb, le-ltb}
use Rattle.walk.specs.Trace as W
use Rattle.text_place.specs.declared.place.Place.{Place}
use Rattle.session_trace_lines.specs.Lines.{as_trace_line}
use Rattle.session_trace_lines.specs.declared.line.TraceLine.{TraceLine}
use Rattle.session_trace_lines.specs.declared.line.TraceLine.TheVariants as LV
use Rattle.listing.specs.Bytes.{Bytes}
use Rattle.call_conclude.specs.Answers.{due_of}
use Rattle.call_conclude.specs.declared.answers.Due.{Due}
use Rattle.call_conclude.specs.declared.answers.Due.TheVariants.{Never, At}
use Rattle.session_calls.specs.declared.clock.Clock.{Clock}
use Rattle.session_replay.specs.declared.phase.Phase.{Phase}
use Rattle.session_replay.specs.declared.phase.Phase.TheVariants.{Opening, Starting, Reading, Over}
use Rattle.explain_played.specs.Spots.{time_in, soonest, at_start, spot_at, spot_of}
use Rattle.explain_played.specs.declared.spot.Spot.{Spot}

-- The time of a line that was read.
abbrev pub time_as : TraceLine → ℕ
time_as (LV.Input time number value stop next) = time
time_as (LV.Last time stop next) = time
time_as LV.Bad = 0

pub time_as_lem : (x : W.TraceLine) (stop : ℕ) (next : Place) → time_as (as_trace_line x stop next) ≡ time_in x
time_as_lem (W.TraceLine.input_line time w) stop next = refl
time_as_lem (W.TraceLine.last_line_lem time) stop next = refl
time_as_lem W.TraceLine.out_of_form stop next = refl

-- What is due before a time, or the time.
pub due_first_lem : (due : Due) (m time : ℕ) → due ≡ At m → m < time → m ≡ soonest (due_of due) time
unfolding due_of
due_first_lem due m time e h = rw (e, lt-ltb m time h)

pub due_later : (due : Due) (m time : ℕ) → due ≡ At m → time ≤ m → time ≡ soonest (due_of due) time
unfolding due_of
due_later due m time e h = rw (e, le-ltb m time h)

pub due_never : (due : Due) (time : ℕ) → due ≡ Never → time ≡ soonest (due_of due) time
unfolding due_of
due_never due time e = rw e

-- The spot of a phase.
module _ (trace : Bytes) (phase : Phase) where
  pub at_opening : phase ≡ Opening → at_start ≡ spot_of trace phase
  at_opening e = rw e

  pub at_starting : phase ≡ Starting → at_start ≡ spot_of trace phase
  at_starting e = rw e

  pub at_over : phase ≡ Over → at_start ≡ spot_of trace phase
  at_over e = rw e

  pub at_reading : (clock : Clock) (at : ℕ) (r : Spot) → phase ≡ Reading clock at → r ≡ spot_at trace (due_of clock.due) at → r ≡ spot_of trace phase
  at_reading clock at r e f = rw e f
