-- The first line of a trace that a session would refuse (document 01, "The session" and questions 9 and 11), if nothing stops it before.
use Rattle.std.specs.Prelude.{Bool, true, false, cond, ◌&&◌, List, [], ◌∷◌, ℕ, ◌+◌, eqb, ltb, leb, Option, Some, None, unwrap_or}
use Rattle.listing.specs.Lists.{is_empty}
use Rattle.listing.specs.Bytes.{Bytes}
use Rattle.listing.specs.Questions.{closed_lines, unclosed}
use Rattle.walk.specs.Trace.{TraceLine, input_line, last_line_lem, out_of_form, read_trace_line}
use Rattle.explain_fields.specs.Fields.{about}
use Rattle.explain_trace.specs.Forms.{at_field, form_fault}
use Rattle.explain_trace.specs.declared.reasons.Reason.{Reason}
use Rattle.explain_trace.specs.declared.reasons.Reason.TheVariants as WV
use Rattle.explain_trace.specs.declared.scan.TraceFault.{TraceFault}
use Rattle.explain_trace.specs.declared.scan.Judged.{Judged}
use Rattle.explain_trace.specs.declared.scan.Judged.TheVariants as JV

-- "11 Are the input numbers below i and strictly rising?": this number, where the next is at least `least`
unfoldable pub number_why : ℕ → ℕ → ℕ → Option Reason
number_why inputs least number = cond (ltb number inputs) (cond (leb least number) None (Some (WV.NotRising least))) (Some (WV.NoInput inputs))

-- "9 Is t after the present moment?" Before a call the present moment is that of the call before it, or of an instant due between them; the start's is 0.
-- "neighbours of equal time forming one call": an input of the same time belongs to that call; at 0 there is none.
unfoldable pub input_why : ℕ → ℕ → ℕ → ℕ → ℕ → Option Reason
input_why inputs time least t number =
    cond (ltb time t) (number_why inputs 0 number)
    (cond (ltb t time) (Some (WV.NotAfter time))
    (cond (eqb t 0) (Some (WV.NotAfter time)) (number_why inputs least number)))

-- the field that a reason is about
abbrev pub field_for : Reason → ℕ
field_for (WV.NotAfter time) = 2
field_for _ = 3

-- a line after a call at `time`, the next number in it being at least `least`
abbrev pub judge_why : ℕ → ℕ → ℕ → Option Reason → Judged
judge_why line t number (Some why) = JV.Ends (Some (record { line = line; fault = at_field (field_for why) why }))
judge_why line t number None = JV.Goes t (number + 1)

abbrev pub judge_input : ℕ → ℕ → ℕ → ℕ → ℕ → ℕ → Judged
judge_input line inputs time least t number = judge_why line t number (input_why inputs time least t number)

-- "one after `Q`"
unfoldable pub judge_last : ℕ → Bool → Judged
judge_last line true = JV.Ends None
judge_last line false = JV.Ends (Some (record { line = line + 1; fault = about WV.AfterLast }))

-- a line out of form
abbrev pub unformed : ℕ → Bytes → Reason → TraceFault Reason
unformed line bytes other = record { line = line; fault = unwrap_or (form_fault bytes) (about other) }

unfoldable pub judge_line : ℕ → ℕ → Bytes → Bool → ℕ → ℕ → TraceLine → Judged
judge_line inputs line bytes nothingAfter time least (input_line t w) = judge_input line inputs time least t w.number
judge_line inputs line bytes nothingAfter time least (last_line_lem t) = judge_last line nothingAfter
judge_line inputs line bytes nothingAfter time least out_of_form = JV.Ends (Some (unformed line bytes WV.NoForm))

-- what comes after the last line feed: "no `Q` at the end"
unfoldable pub end_fault : ℕ → Bytes → TraceFault Reason
end_fault line [] = record { line = line; fault = about WV.NoLast }
end_fault line (byte ∷ bytes) = unformed line (byte ∷ bytes) WV.NoLineFeed

-- the end, with its fault if there is one, or it goes on
unfoldable pub resume : Judged → (ℕ → ℕ → Option (TraceFault Reason)) → Option (TraceFault Reason)
resume (JV.Goes time least) next = next time least
resume (JV.Ends fault) next = fault

-- closed lines, the first of which has this number, and what comes after them
unfoldable pub fault_from : ℕ → Bytes → ℕ → ℕ → ℕ → List Bytes → Option (TraceFault Reason)
fault_from inputs last time least line [] = Some (end_fault line last)
fault_from inputs last time least line (bytes ∷ lines) =
    resume (judge_line inputs line bytes (is_empty lines && is_empty last) time least (read_trace_line bytes))
    (λ t next. fault_from inputs last t next (line + 1) lines)

-- the first line that a session on a listing of so many inputs would refuse; none if it would play them all
unfoldable pub fault_of : ℕ → Bytes → Option (TraceFault Reason)
fault_of inputs trace = fault_from inputs (unclosed trace) 0 0 1 (closed_lines trace)
