-- The trace of a session: its lines, and the calls that they ask for (document 01, "The session").
use Rattle.std.specs.Prelude.{Bool, true, false, cond, ◌&&◌, List, [], ◌∷◌, ℕ, ◌-◌, eqb, ltb, leb}
use Rattle.std.proofs.Math.Option.{Option, none, some}
use Prim.Native.Char.{code}
use Rattle.words.specs.Moments.{moment_range}
use Rattle.listing.specs.Lists.{is_empty}
use Rattle.listing.specs.Bytes.{Bytes, read_figure}
use Rattle.listing.specs.Expressions.{bind, when, half_range, word_range}
use Rattle.listing.specs.Form.{Field, fields_of, next_field_lem, none_left_lem, one_piece_lem, read_letter}
use Rattle.listing.specs.Questions.{closed_lines, unclosed}
use Rattle.walk.specs.Instant.{Write}

-- ── "lines `I|time|input|value` (64, 32 and signed 32 bits) .. and last `Q|time`" ─────────────────
-- A line of the trace, or one out of form.
pub data TraceLine : Type 0 where
  input_line : ℕ → Write → TraceLine
  last_line_lem : ℕ → TraceLine
  out_of_form : TraceLine

unfoldable pub read_below : ℕ → Bytes → Option ℕ
read_below range piece = bind (read_figure piece) (λ n. when (ltb n range) n)

abbrev pub read_time : Field → Option ℕ
read_time = one_piece_lem (read_below moment_range)

abbrev pub read_input : Field → Option ℕ
read_input = one_piece_lem (read_below word_range)

-- A value is written as a literal is, without `#`.
unfoldable pub read_signed : Bytes → Option ℕ
read_signed [] = none
read_signed (byte ∷ rest) =
    cond (eqb byte (code "-"))
    (bind (read_figure rest) (λ n. when (leb 1 n && leb n half_range) (word_range - n)))
    (read_below half_range (byte ∷ rest))

abbrev pub read_input_line : List Field → Option TraceLine
read_input_line fields =
    next_field_lem read_time fields (λ time fields. next_field_lem read_input fields (λ n fields.
    next_field_lem (one_piece_lem read_signed) fields (λ v fields. none_left_lem fields (input_line time (record { number = n; value = v })))))

abbrev pub read_last_line : List Field → Option TraceLine
read_last_line fields = next_field_lem read_time fields (λ time fields. none_left_lem fields (last_line_lem time))

unfoldable pub read_trace_fields : ℕ → List Field → Option TraceLine
read_trace_fields letter fields =
    cond (eqb letter (code "I")) (read_input_line fields) (cond (eqb letter (code "Q")) (read_last_line fields) none)

abbrev pub or_out_of_form : Option TraceLine → TraceLine
or_out_of_form none = out_of_form
or_out_of_form (some line) = line

unfoldable pub read_trace_line : Bytes → TraceLine
read_trace_line line = or_out_of_form (next_field_lem (one_piece_lem read_letter) (fields_of line) read_trace_fields)

-- ── the calls that a trace asks for ───────────────────────────────────────────────────────────────
-- A call with the inputs of one time and then the rest; or the end: `Q`, with nothing after it or with something;
-- or the trace breaks off: "A line out of form when it is reached .. or no `Q` at the end".
pub data Script : Type 0 where
  call_at : ℕ → List Write → Script → Script
  last_at : ℕ → Bool → Script
  broken : Script

-- "neighbours of equal time forming one call"
unfoldable pub join_input : Bool → ℕ → Write → ℕ → List Write → Script → Script
join_input true time w u ws rest = call_at time (w ∷ ws) rest
join_input false time w u ws rest = call_at time (w ∷ []) (call_at u ws rest)

unfoldable pub with_input : ℕ → Write → Script → Script
with_input time w (call_at u ws rest) = join_input (eqb time u) time w u ws rest
with_input time w (last_at u nothingAfter) = call_at time (w ∷ []) (last_at u nothingAfter)
with_input time w broken = call_at time (w ∷ []) broken

unfoldable pub with_line : TraceLine → Bool → Script → Script
with_line (input_line time w) nothingAfter rest = with_input time w rest
with_line (last_line_lem time) nothingAfter rest = last_at time nothingAfter
with_line out_of_form nothingAfter rest = broken

-- Closed lines; `ends`: no line without its line feed stands after them.
unfoldable pub script_of : List Bytes → Bool → Script
script_of [] ends = broken
script_of (line ∷ lines) ends = with_line (read_trace_line line) (is_empty lines && ends) (script_of lines ends)

unfoldable pub script : Bytes → Script
script trace = script_of (closed_lines trace) (is_empty (unclosed trace))
