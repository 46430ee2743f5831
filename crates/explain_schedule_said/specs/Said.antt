-- What is said of a schedule.
use Rattle.std.specs.Prelude.{cond, ◌++◌, ℕ, ◌-◌, eqb, ltb, length, Option}
use Rattle.listing.specs.Bytes.{Bytes, bytes_of, line_feed}
use Rattle.explain_parts.specs.Parts.{part_of}
use Rattle.explain_parts.specs.Shown.{shown}
use Rattle.explain_fields.specs.declared.reasons.Fault.{Fault}
use Rattle.explain_trace_said.specs.Places.{place_text}
use Rattle.schedule.specs.Form.{place19}
use Rattle.explain_schedule.specs.Faults.{schedule_fault}
use Rattle.explain_schedule.specs.declared.reasons.Reason.{Reason}
use Rattle.explain_schedule_said.specs.Reasons.{fault_text, question_text}

-- the reason at a line, the line as it is shown, and the rule
unfoldable pub told_line : Bytes → Option (Fault Reason) → Bytes
told_line line fault =
    fault_text line fault ++ (bytes_of "\n    " ++ (shown 120 line ++ question_text))

-- a refusal: where (the first line has no lines before it), why, and its rule
unfoldable pub refused_text : Bytes → Bytes → ℕ → Option (Fault Reason) → Bytes
refused_text path text place fault = place_text 4096 path place ++ told_line (part_of line_feed text (place - 1)) fault

-- a file's name and what is said of it
abbrev pub plain_text : Bytes → Bytes → Bytes
plain_text path said = shown 4096 path ++ said

-- so many bytes of a schedule are read, as of a listing; question 19 has no such limit
abbrev pub most_bytes : ℕ
most_bytes = 49152

-- by question 19, at the first line where it says no
unfoldable pub schedule_text : Bytes → Bytes → Bytes
schedule_text path text =
    cond (ltb most_bytes (length text)) (plain_text path (bytes_of ": The file is too long: explain reads at most 49,152 bytes of a schedule.\n"))
    (cond (eqb (place19 text) 0) (plain_text path (bytes_of ": It fits.\n"))
    (refused_text path text (place19 text) (schedule_fault text)))
