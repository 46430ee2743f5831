-- Where in a trace a session stands between two steps, and the instant that it makes next (document 01, "The session").
use Rattle.std.specs.Prelude.{cond, ℕ, ltb, leb, length, take, drop}
use Rattle.listing.specs.Bytes.{Bytes, line_feed, split}
use Rattle.walk.specs.Instant.{NextDue, never, moment}
use Rattle.walk.specs.Trace.{TraceLine, input_line, last_line_lem, out_of_form, read_trace_line}
use Rattle.text_place.specs.Texts.{first_line}
use Rattle.call_conclude.specs.Answers.{due_of}
use Rattle.session_replay.specs.declared.phase.Phase.{Phase}
use Rattle.session_replay.specs.declared.phase.Phase.TheVariants.{Opening, Starting, Reading, Over}
use Rattle.explain_played.specs.declared.spot.Spot.{Spot}

-- the time of a line; 0 if it is out of form
abbrev pub time_in : TraceLine → ℕ
time_in (input_line time w) = time
time_in (last_line_lem time) = time
time_in out_of_form = 0

abbrev pub time_at : Bytes → ℕ → ℕ
time_at trace at = time_in (read_trace_line (first_line (drop at trace)))

-- "The program makes every due instant between, joining one with inputs of its time": what is due before a time comes first
abbrev pub soonest : NextDue → ℕ → ℕ
soonest never time = time
soonest (moment m) time = cond (ltb m time) m time

-- the start, before line 1
abbrev pub at_start : Spot
at_start = record { line = 1; moment = 0 }

-- the line at an offset, from 1, and the instant before its time or at it
unfoldable pub spot_at : Bytes → NextDue → ℕ → Spot
spot_at trace due at = cond (leb at (length trace)) (record { line = length (split line_feed (take at trace)); moment = soonest due (time_at trace at) }) at_start

abbrev pub spot_of : Bytes → Phase → Spot
spot_of trace Opening = at_start
spot_of trace Starting = at_start
spot_of trace (Reading clock at) = spot_at trace (due_of clock.due) at
spot_of trace Over = at_start
