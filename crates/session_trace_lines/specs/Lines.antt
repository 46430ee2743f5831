-- What the reader gives for a line of the trace: walk's reading of it, and what closes it.
use Rattle.std.specs.Prelude.{List, ℕ, get_or, drop}
use Rattle.std.proofs.Math.Option.{Option}
use Rattle.listing.specs.Bytes.{Bytes}
use Rattle.listing.specs.Form.{Field}
use Rattle.walk.specs.Trace as W
use Rattle.text_place.specs.Texts.{first_line, fields_left, line_end}
use Rattle.text_place.specs.Places.{passed}
use Rattle.text_place.specs.declared.place.Place.{Place}
use Rattle.text_jumps.specs.Records.{end_stop, end_next}
use Rattle.session_trace_lines.specs.declared.line.TraceLine.{TraceLine}
use Rattle.session_trace_lines.specs.declared.line.TraceLine.TheVariants as LV

abbrev pub as_trace_line : W.TraceLine → ℕ → Place → TraceLine
as_trace_line (W.TraceLine.input_line time w) stop next = LV.Input time w.number w.value stop next
as_trace_line (W.TraceLine.last_line_lem time) stop next = LV.Last time stop next
as_trace_line W.TraceLine.out_of_form stop next = LV.Bad

-- a line by the fields that are left of it after the byte `stop`
abbrev pub rest_answer : Bytes → Place → ℕ → (List Field → Option W.TraceLine) → TraceLine
rest_answer s p stop read = as_trace_line (W.or_out_of_form (read (fields_left stop (drop p.offset s)))) (end_stop s p stop) (end_next s p stop)

-- the line at a place
abbrev pub line_answer : Bytes → Place → TraceLine
line_answer s p =
    let end = line_end s p.offset in as_trace_line (W.read_trace_line (first_line (drop p.offset s))) (get_or s end 0) (passed s p.line end)
