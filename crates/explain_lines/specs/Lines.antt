-- Why a line is out of form: the first of these that is wrong, its letter, its number of fields, a field, where it stands.
use Rattle.std.specs.Prelude.{cond, ℕ, zero, suc, ◌+◌, ◌-◌, length, get_or, Option, Some, None, option_map}
use Rattle.std.specs.Option.{option_or}
use Rattle.listing.specs.Bytes.{Bytes, tab, split}
use Rattle.explain_parts.specs.Parts.{part_of}
use Rattle.explain_fields.specs.Fields.{field_fault, fault_in, about}
use Rattle.explain_fields.specs.declared.reasons.Reason.{Reason}
use Rattle.explain_fields.specs.declared.reasons.Fault.{Fault}
use Rattle.explain_fields.specs.declared.reasons.Spot.TheVariants as PV
use Rattle.explain_lines.specs.Letters.{letter_why, fits_letter, count_why, role_of, stands_why}

-- the field with this number, from 1 after the letter, which is the line's field 1
abbrev pub fault_of : ℕ → Bytes → ℕ → Option (Fault Reason)
fault_of letter line number = option_map (λ found. fault_in found (number + 1)) (field_fault (role_of letter number) (part_of tab line number))

-- the first that is wrong of so many fields, from the given number on: a fault counts, else what comes later does
unfoldable pub fields_fault : ℕ → Bytes → ℕ → ℕ → Option (Fault Reason)
fields_fault letter line number zero = None
fields_fault letter line number (suc left) = let later = fields_fault letter line (number + 1) left in option_or (fault_of letter line number) later

-- a line by its number and its bytes without the line feed
unfoldable pub line_fault : ℕ → Bytes → Option (Fault Reason)
line_fault number line =
    let letter = get_or line 0 0 in
    let count = length (split tab line) - 1 in
    option_or (option_map (λ why. record { why = why; spot = PV.Field 1 }) (letter_why (part_of tab line 0)))
    (cond (fits_letter letter count)
    (option_or (fields_fault letter line 1 count) (option_map (λ why. about why) (stands_why number letter)))
    (Some (about (count_why letter))))
