-- Why question 19 says no at a line: the first of these that is wrong, the number of its fields, a field that is no figure, a number.
use Rattle.std.specs.Prelude.{cond, ℕ, zero, suc, ◌+◌, eqb, length, Option, Some, None, option_map}
use Rattle.std.specs.Option.{option_or}
use Rattle.listing.specs.Bytes.{Bytes, tab, split}
use Rattle.text_piece.specs.Pieces.{figure_answer}
use Rattle.text_piece.specs.declared.figure.Figure.{Figure}
use Rattle.text_piece.specs.declared.figure.Figure.TheVariants as FV
use Rattle.explain_parts.specs.Parts.{part_of}
use Rattle.explain_fields.specs.Pieces.{strange_field}
use Rattle.explain_fields.specs.Fields.{field_fault, fault_in, about}
use Rattle.explain_fields.specs.declared.reasons.Strange.{Strange}
use Rattle.explain_fields.specs.declared.reasons.Reason.TheVariants as FormV
use Rattle.explain_fields.specs.declared.reasons.Fault.{Fault}
use Rattle.explain_fields.specs.declared.field.Role.TheVariants as RV
use Rattle.explain_fields.specs.declared.field.Found.{Found}
use Rattle.explain_schedule.specs.declared.reasons.Reason.{Reason}
use Rattle.explain_schedule.specs.declared.reasons.Reason.TheVariants as WV
use Rattle.explain_schedule.specs.Ranges.{date_range, window_range}

-- too few or too many fields: a space stands for a tab, nothing is there, a byte is strange, or there are just so many
abbrev pub strange_or : Reason → Option Strange → Reason
strange_or otherwise (Some strange) = WV.Form (FormV.Strange strange)
strange_or otherwise None = otherwise

abbrev pub count_why : Reason → Bytes → Reason
count_why why line = strange_or why (strange_field line)

-- what is wrong in a field, as a fault of the line
abbrev pub formed : Found → ℕ → Fault Reason
formed found field = record { why = WV.Form (fault_in found field).why; spot = (fault_in found field).spot }

-- the first that is no figure of so many fields, from one on that has so many before it
unfoldable pub figures_fault : Bytes → ℕ → ℕ → Option (Fault Reason)
figures_fault line before zero = None
figures_fault line before (suc left) =
    let later = figures_fault line (before + 1) left in
    option_or (option_map (λ found. formed found (before + 1)) (field_fault RV.Number (part_of tab line before))) later

-- the number in the field with so many fields before it, which stops at the reader's cap; 0 if it is none
abbrev pub value_in : Figure → ℕ
value_in (FV.Value n) = n
value_in FV.Bad = 0

abbrev pub number_at : Bytes → ℕ → ℕ
number_at line before = value_in (figure_answer (part_of tab line before))

-- "A first line .. gives in three such fields the Gregorian date"
unfoldable pub date_fault : Bytes → Option (Fault Reason)
date_fault line =
    cond (eqb (length (split tab line)) 3)
    (option_or (figures_fault line 0 3) (date_range (number_at line 0) (number_at line 1) (number_at line 2)))
    (Some (about (count_why WV.DateCount line)))

-- "input number, weekday .., opening and closing minute"
unfoldable pub window_fault : Bytes → Option (Fault Reason)
window_fault line =
    cond (eqb (length (split tab line)) 4)
    (option_or (figures_fault line 0 4) (window_range (number_at line 0) (number_at line 1) (number_at line 2) (number_at line 3)))
    (Some (about (count_why WV.WindowCount line)))
