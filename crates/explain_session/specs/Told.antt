-- What is said of the end of a session.
use Rattle.std.specs.Prelude.{cond, ◌++◌, ℕ, ◌-◌, eqb, leb, Option, Some, None}
use Rattle.listing.specs.Bytes.{Bytes, bytes_of, figure, line_feed}
use Rattle.explain_parts.specs.Parts.{part_of}
use Rattle.explain_parts.specs.Shown.{shown}
use Rattle.explain_fields.specs.declared.reasons.Fault.{Fault}
use Rattle.explain_trace.specs.Scans.{fault_of}
use Rattle.explain_trace.specs.declared.scan.TraceFault.{TraceFault}
use Rattle.explain_trace_said.specs.Places.{place_text}
use Rattle.explain_trace_said.specs.Reasons.{reason_text, fault_said, code_text}
use Rattle.explain_trace_said.specs.Asked.{asked_text}
use Rattle.explain_played.specs.Endings.{leading_figure}
use Rattle.explain_played.specs.declared.ending.Ended.{Ended}

-- the line of a fault, 0 for none, and what is wrong in it
abbrev pub line_of : {R : Type 0} → Option (TraceFault R) → ℕ
line_of (Some fault) = fault.line
line_of None = 0

abbrev pub wrong_in : {R : Type 0} → Option (TraceFault R) → Option (Fault R)
wrong_in (Some fault) = Some fault.fault
wrong_in None = None

-- the reason at a line, by how a reason is said, the line as it is shown, and the rule
unfoldable pub told_line : {R : Type 0} → (R → Bytes) → Bytes → Option (Fault R) → ℕ → Bytes
told_line said line fault code = fault_said said line fault ++ (bytes_of "\n    " ++ (shown 120 line ++ code_text code))

-- a refusal: where (the first line has no lines before it), why, and its rule
unfoldable pub refused_text : {R : Type 0} → (R → Bytes) → Bytes → Bytes → Option (TraceFault R) → ℕ → Bytes
refused_text said path trace fault code =
    place_text 4096 path (line_of fault) ++ told_line said (part_of line_feed trace (line_of fault - 1)) (wrong_in fault) code

-- a stop: the line of the trace that was played, the moment, the rule, and the lines of the listing at which it is asked
unfoldable pub stopped_text : Bytes → Bytes → Bytes → Ended → Bytes
stopped_text path listingPath listing ended =
    place_text 4096 path ended.line
    ++ (bytes_of "the instant at " ++ (figure ended.moment ++ (bytes_of " stops the machine" ++ (code_text ended.code ++ asked_text listingPath listing ended.code))))

-- a file's name and what is said of it
abbrev pub plain_text : Bytes → Bytes → Bytes
plain_text path text = shown 4096 path ++ text

-- by the code: 0, "13 .." to "18 ..", or a refusal
unfoldable pub ended_text : Bytes → Bytes → Bytes → Bytes → Ended → Bytes
ended_text path trace listingPath listing ended =
    cond (eqb ended.code 0) (plain_text path (bytes_of ": It plays to its end.\n"))
    (cond (leb 13 ended.code) (stopped_text path listingPath listing ended)
    (refused_text reason_text path trace (fault_of (leading_figure listing) trace) ended.code))
