-- The sentences of the reasons (explain_schedule `Reason` has the words of document 02 that each renders), and the rule of question 19 (document 02, Change 5).
use Rattle.std.specs.Prelude.{◌++◌, ℕ, Option, Some, None}
use Prim.Native.String.{String}
use Rattle.listing.specs.Bytes.{Bytes, bytes_of}
use Rattle.explain_fields.specs.declared.reasons.Fault.{Fault}
use Rattle.explain_said.specs.Reasons.{with_figure}
use Rattle.explain_said.specs.Reasons as Form
use Rattle.explain_said.specs.Spots.{spot_text}
use Rattle.explain_schedule.specs.declared.reasons.Reason.{Reason}
use Rattle.explain_schedule.specs.declared.reasons.Reason.TheVariants as WV

abbrev pub sentence : Reason → String
sentence (WV.Form why) = Form.sentence why
sentence WV.DateCount = "the number of fields is wrong: line 1 is a date and has 3, year, month and day"
sentence WV.WindowCount = "the number of fields is wrong: a window has 4, input, weekday, opening and closing minute"
sentence WV.NoDate = "the schedule is empty: line 1 is the date on which moment 0 is midnight"
sentence WV.NoLineFeed = "the last line lacks its line feed"
sentence WV.NoYear = "no such year: they go from 2000 to 2199"
sentence WV.NoMonth = "no such month: they go from 1 to 12"
sentence WV.NoInput = "no such input: they are numbered from 0 to 15"
sentence WV.NoWeekday = "no such weekday: they go from 1, Monday, to 7, Sunday"
sentence WV.NoMinute = "no such closing minute: a window closes at 1,440, midnight, at the latest"
sentence (WV.NoDay n) = "no such day: they are numbered from 1; this month has "
sentence (WV.NotBelow n) = "this opening minute is not below the closing minute, which is "

-- behind these, the days of the month, the closing minute
abbrev pub counted : Reason → Option ℕ
counted (WV.NoDay days) = Some days
counted (WV.NotBelow closing) = Some closing
counted _ = None

-- a reason, with the figure behind it
abbrev pub reason_text : Reason → Bytes
reason_text why = with_figure (bytes_of (sentence why)) (counted why)

-- what is wrong in a line, and where, or that nothing is
abbrev pub fault_text : Bytes → Option (Fault Reason) → Bytes
fault_text line (Some fault) = spot_text line fault.spot ++ reason_text fault.why
fault_text line None = bytes_of "nothing is wrong"

-- "19: has each line its form, an input below 16, and a real date or minute?"
unfoldable pub rule : Bytes
rule = bytes_of "Line 1 is a real date, year 2000 to 2199, month and day. Every other line is a window, input 0 to 15, weekday 1 (Monday) to 7, opening minute, and closing minute above it, at most 1,440. One tab parts two fields, and each line ends in a line feed. Look for a field too few or too many, a leading zero, a carriage return or a blank line.\n"

-- the question's number and its rule
unfoldable pub question_text : Bytes
question_text = bytes_of "\nQuestion 19: " ++ rule

-- behind the rules of a listing
unfoldable pub usage_text : Bytes
usage_text = bytes_of "A schedule fits only if this holds:\n19 " ++ rule
