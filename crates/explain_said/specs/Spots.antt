-- Where in its line a reason applies, in words, and the reason.
use Rattle.std.specs.Prelude.{[], ◌++◌, ℕ, ◌-◌, Option, Some, None}
use Rattle.listing.specs.Bytes.{Bytes, bytes_of, tab, space, figure}
use Rattle.explain_parts.specs.Parts.{part_of}
use Rattle.explain_parts.specs.Shown.{shown}
use Rattle.explain_fields.specs.declared.reasons.Reason.{Reason}
use Rattle.explain_fields.specs.declared.reasons.Spot.{Spot}
use Rattle.explain_fields.specs.declared.reasons.Spot.TheVariants as PV
use Rattle.explain_fields.specs.declared.reasons.Fault.{Fault}
use Rattle.explain_said.specs.Reasons.{reason_text}

-- a piece of a field as it is shown, by its number from 1
unfoldable pub piece_text : Bytes → ℕ → Bytes
piece_text field piece = bytes_of " (" ++ (shown 40 (part_of space field (piece - 1)) ++ bytes_of ")")

-- a piece by the numbers of its field and its own; a field, the letter being field 1
unfoldable pub numbered_text : Bytes → ℕ → ℕ → Bytes
numbered_text line field piece = bytes_of ", piece " ++ (figure piece ++ piece_text (part_of tab line (field - 1)) piece)

unfoldable pub field_text : ℕ → Bytes
field_text field = bytes_of "field " ++ figure field

-- nothing where a reason is about the whole line
unfoldable pub spot_text : Bytes → Spot → Bytes
spot_text line PV.Line = []
spot_text line (PV.Field field) = field_text field ++ bytes_of ": "
spot_text line (PV.Piece field piece) = field_text field ++ (numbered_text line field piece ++ bytes_of ": ")

-- by how a reason is said; of a rule that has no reasons of its own, that the line does not meet it
abbrev pub fault_said : {R : Type 0} → (R → Bytes) → Bytes → Option (Fault R) → Bytes
fault_said said line (Some fault) = spot_text line fault.spot ++ said fault.why
fault_said said line None = bytes_of "the line does not meet the rule below"

abbrev pub fault_text : Bytes → Option (Fault Reason) → Bytes
fault_text line fault = fault_said reason_text line fault
