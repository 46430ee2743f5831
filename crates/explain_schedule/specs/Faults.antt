-- The reason at a line of a schedule, and the first line where question 19 says no, with its reason.
use Rattle.std.specs.Prelude.{cond, [], ◌∷◌, ℕ, ◌-◌, eqb, leb, length, Option, Some, None}
use Rattle.listing.specs.Bytes.{Bytes, line_feed, split}
use Rattle.explain_parts.specs.Parts.{part_of}
use Rattle.schedule.specs.Form.{place19}
use Rattle.explain_fields.specs.Fields.{about}
use Rattle.explain_fields.specs.declared.reasons.Fault.{Fault}
use Rattle.explain_schedule.specs.declared.reasons.Reason.{Reason}
use Rattle.explain_schedule.specs.declared.reasons.Reason.TheVariants as WV
use Rattle.explain_schedule.specs.Lines.{date_fault, window_fault}

-- the first line is the date's, all others are windows
unfoldable pub line_fault : ℕ → Bytes → Option (Fault Reason)
line_fault place line = cond (eqb place 1) (date_fault line) (window_fault line)

-- nothing is there, or the last line lacks its line feed
unfoldable pub unclosed_why : Bytes → Reason
unclosed_why [] = WV.NoDate
unclosed_why (byte ∷ text) = WV.NoLineFeed

-- a text, a place, and the line there; what comes after the last line feed is the text's last part
unfoldable pub fault_at : Bytes → ℕ → Bytes → Option (Fault Reason)
fault_at text place line = cond (leb (length (split line_feed text)) place) (Some (about (unclosed_why text))) (line_fault place line)

-- the reason at the first line where question 19 says no; nothing is wrong where it says yes
unfoldable pub schedule_fault : Bytes → Option (Fault Reason)
schedule_fault text = let place = place19 text in cond (eqb place 0) None (fault_at text place (part_of line_feed text (place - 1)))
