-- The fields of a line, one after another.
use mathlib.Core.Path.{◌≡◌, sym, ap, ◌∙◌}
use mathlib.Core.Bool.{true, false}
use Prim.Native.Nat.{ℕ, suc, ◌+◌, ◌-◌, ◌≤◌, ◌<◌}
use native.Mathlib.Omega.{arith}
use lib.ListN.{length, get_or}
use Rattle.std.specs.Prelude.{Option, Some, None, option_map}
use Rattle.std.specs.Option.{option_or}
use Rattle.listing.specs.Bytes.{Bytes, split}
use Rattle.explain_parts.specs.Parts.{part_of}
use Rattle.explain_fields.specs.Fields.{field_fault, fault_in, about}
use Rattle.explain_fields.specs.declared.field.Found.{Found}
use Rattle.explain_fields.specs.declared.reasons.Reason.{Reason}
use Rattle.explain_fields.specs.declared.reasons.Fault.{Fault}
use Rattle.explain_fields.specs.declared.reasons.Spot.TheVariants as PV
use Rattle.explain_lines.specs.Letters.{role_of, fits_letter, stands_why, count_why, letter_why}
use Rattle.explain_lines.specs.Lines.{fields_fault, line_fault}

-- the fields from a number on decide as all of them do
module _ (letter : ℕ) (line : Bytes) (count number : ℕ) (same : fields_fault letter line number (count + 1 - number) ≡ fields_fault letter line 1 count) where
  pub looked_through : count + 1 ≤ number → None ≡ fields_fault letter line 1 count
  unfolding fields_fault
  looked_through h = ap (fields_fault letter line number) (let z : 0 ≡ count + 1 - number = omega (arith, h) in z) ∙ same

  module _ (h : number < count + 1) (o : Option Found) (e : o ≡ field_fault (role_of letter number) (part_of 9 line number)) where
    one_field : option_or (option_map (λ (found : Found). fault_in found (number + 1)) o) (fields_fault letter line (number + 1) (count - number)) ≡ fields_fault letter line 1 count
    unfolding fields_fault
    one_field =
        ap (λ (f : Option Found). option_or (option_map (λ (found : Found). fault_in found (number + 1)) f) (fields_fault letter line (number + 1) (count - number))) e
        ∙ ap (fields_fault letter line number) (let z : suc (count - number) ≡ count + 1 - number = omega (arith, h) in z) ∙ same

    pub wrong_here : (found : Found) → o ≡ Some found → Some (fault_in found (number + 1)) ≡ fields_fault letter line 1 count
    wrong_here found s =
        ap (λ (f : Option Found). option_or (option_map (λ (x : Found). fault_in x (number + 1)) f) (fields_fault letter line (number + 1) (count - number))) (sym s) ∙ one_field

    pub looking_on : o ≡ None → fields_fault letter line (number + 1) (count + 1 - (number + 1)) ≡ fields_fault letter line 1 count
    looking_on n =
        ap (fields_fault letter line (number + 1)) (let y : count + 1 - (number + 1) ≡ count - number = omega arith in y)
        ∙ ap (λ (f : Option Found). option_or (option_map (λ (x : Found). fault_in x (number + 1)) f) (fields_fault letter line (number + 1) (count - number))) (sym n) ∙ one_field

-- ── a whole line ─────────────────────────────────────────────────────────────────
module _ (number : ℕ) (line : Bytes) where
  abbrev letter : ℕ
  letter = get_or line 0 0

  abbrev count : ℕ
  count = length (split 9 line) - 1

  pub letter_wrong : (why : Reason) → letter_why (part_of 9 line 0) ≡ Some why → Some (record { why = why; spot = PV.Field 1 }) ≡ line_fault number line
  unfolding line_fault
  letter_wrong why e = rw e

  module _ (fine : letter_why (part_of 9 line 0) ≡ None) where
    pub count_wrong : fits_letter letter count ≡ false → Some (about (count_why letter)) ≡ line_fault number line
    unfolding line_fault
    count_wrong f = rw (fine, f)

    module _ (f : fits_letter letter count ≡ true) where
      pub field_wrong : (fault : Fault Reason) → fields_fault letter line 1 count ≡ Some fault → Some fault ≡ line_fault number line
      unfolding line_fault
      field_wrong fault e = rw (fine, f, e)

      pub all_fine : fields_fault letter line 1 count ≡ None → option_map (λ (w : Reason). about w) (stands_why number letter) ≡ line_fault number line
      unfolding line_fault
      all_fine e = rw (fine, f, e)
