-- Why a line of a trace is out of form: the first of these that is wrong, its letter, its number of fields, a field.
use Rattle.std.specs.Prelude.{Bool, false, cond, ℕ, zero, suc, ◌+◌, ◌-◌, eqb, ltb, length, get_or, Option, Some, None, option_map}
use Rattle.std.specs.Option.{option_or}
use Rattle.std.specs.Option as O
use Prim.Native.Char.{code}
use Rattle.words.specs.Moments.{moment_range}
use Rattle.listing.specs.Lists.{is_some}
use Rattle.listing.specs.Bytes.{Bytes, tab, space, split}
use Rattle.listing.specs.Expressions.{word_range}
use Rattle.walk.specs.Trace.{read_below, read_signed}
use Rattle.explain_parts.specs.Parts.{part_of, first_part_lem}
use Rattle.explain_fields.specs.Pieces.{strange_in, strange_field}
use Rattle.explain_fields.specs.Fields.{about}
use Rattle.explain_fields.specs.declared.reasons.Strange.{Strange}
use Rattle.explain_fields.specs.declared.reasons.Fault.{Fault}
use Rattle.explain_fields.specs.declared.reasons.Spot.TheVariants as PV
use Rattle.explain_lines.specs.Letters.{counts}
use Rattle.explain_trace.specs.declared.reasons.Reason.{Reason}
use Rattle.explain_trace.specs.declared.reasons.Reason.TheVariants as WV

-- "`I|time|input|value`", "`Q|time`": how many fields come after the letter; none for no letter of a line
unfoldable pub fields_after : ℕ → Option ℕ
fields_after letter = cond (eqb letter (code "I")) (Some 3) (cond (eqb letter (code "Q")) (Some 1) None)

unfoldable pub is_letter_field : Bytes → Bool
is_letter_field field = cond (eqb (length field) 1) (O.is_some (fields_after (get_or field 0 0))) false

-- something is strange, or otherwise
abbrev pub strange_or : Reason → Option Strange → Reason
strange_or otherwise (Some strange) = WV.Strange strange
strange_or otherwise None = otherwise

-- why a line's first field is no letter: it holds a space, or it is out of form as a piece is
unfoldable pub letter_why : Bytes → Option Reason
letter_why field = cond (is_letter_field field) None (Some (strange_or WV.NoSuchLetter (strange_field field)))

-- may so many fields come after a letter
unfoldable pub fits_letter : ℕ → ℕ → Bool
fits_letter letter count = counts count (fields_after letter)

-- the fields after the letter by their number from 1: a time of 64 bits, an input's number of 32, a signed value of 32
unfoldable pub reads_field : ℕ → Bytes → Bool
reads_field number field =
    cond (eqb number 1) (is_some (read_below moment_range field))
    (cond (eqb number 2) (is_some (read_below word_range field)) (is_some (read_signed field)))

unfoldable pub bad_field : ℕ → Reason
bad_field number = cond (eqb number 1) WV.BadTime (cond (eqb number 2) WV.BadInput WV.BadValue)

-- why one is out of form: a space parts it in two, or it is out of form as a piece is
unfoldable pub field_why : ℕ → Bytes → Option Reason
field_why number field =
    cond (reads_field number field) None
    (cond (ltb (length (first_part_lem space field)) (length field)) (Some WV.SecondPiece) (Some (strange_or (bad_field number) (strange_in field))))

-- a reason at a field
abbrev pub at_field : ℕ → Reason → Fault Reason
at_field field why = record { why = why; spot = PV.Field field }

-- the first that is wrong of so many fields, from the given number on, from 1 after the letter, which is the line's field 1
unfoldable pub fields_fault : Bytes → ℕ → ℕ → Option (Fault Reason)
fields_fault line number zero = None
fields_fault line number (suc left) =
    let later = fields_fault line (number + 1) left in
    option_or (option_map (λ why. at_field (number + 1) why) (field_why number (part_of tab line number))) later

-- a line by its bytes without the line feed
unfoldable pub form_fault : Bytes → Option (Fault Reason)
form_fault line =
    let count = length (split tab line) - 1 in
    option_or (option_map (λ why. at_field 1 why) (letter_why (part_of tab line 0)))
    (cond (fits_letter (get_or line 0 0) count) (fields_fault line 1 count) (Some (about WV.FieldCount)))
