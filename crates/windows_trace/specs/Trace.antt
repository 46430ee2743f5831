-- The inputs of a schedule as a session's trace. Document 01: "lines `I|time|input|value` .. and last `Q|time`"; document 02, Change 5: "The layer
-- lists the inputs of any span of moments".
use Rattle.std.specs.Prelude.{true, List, [], ◌∷◌, ◌++◌, ℕ, zero, suc, ◌+◌, ◌*◌}
use Rattle.std.proofs.Math.Option.{Option, none, some}
use Prim.Native.Char.{code}
use Rattle.listing.specs.Bytes.{Bytes, tab, line_feed, figure}
use Rattle.walk.specs.Trace.{Script, last_at, with_input}
use Rattle.schedule.specs.Schedule.{Schedule}
use Rattle.schedule.specs.Edges.{Edge, edges_in}

-- `I|time|input|value`, and `Q|time`
unfoldable pub input_line : Edge → Bytes
input_line e = code "I" ∷ (tab ∷ (figure e.moment ++ (tab ∷ (figure e.input ++ (tab ∷ (figure e.value ++ (line_feed ∷ [])))))))

unfoldable pub last_line_lem : ℕ → Bytes
last_line_lem moment = code "Q" ∷ (tab ∷ (figure moment ++ (line_feed ∷ [])))

-- a line for each input
unfoldable pub trace_lines : List Edge → Bytes
trace_lines [] = []
trace_lines (e ∷ edges) = input_line e ++ trace_lines edges

-- the edges of a span; none of a text that question 19 turns away
unfoldable pub edges_read : Option Schedule → ℕ → ℕ → List Edge
edges_read none from to = []
edges_read (some s) from to = edges_in s from to

abbrev pub hour_length : ℕ
hour_length = 3600000

-- the lines of so many hours from moment 0 on, hour by hour
unfoldable pub hours_lines : Option Schedule → ℕ → Bytes
hours_lines s zero = []
hours_lines s (suc hours) = hours_lines s hours ++ trace_lines (edges_read s (hours * hour_length) (hours * hour_length + hour_length))

-- the calls that a session makes of these inputs, up to a last moment: "neighbours of equal time forming one call"
unfoldable pub calls_of : List Edge → ℕ → Script
calls_of [] last = last_at last true
calls_of (e ∷ edges) last = with_input e.moment (record { number = e.input; value = e.value }) (calls_of edges last)
