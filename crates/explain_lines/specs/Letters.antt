-- The letters of the records and their fields (document 01, "The listing"), as reasons need them.
use Rattle.std.specs.Prelude.{Bool, false, cond, ℕ, eqb, leb, length, get_or, Option, Some, None}
use Rattle.std.specs.Option.{is_some}
use Prim.Native.Char.{code}
use Rattle.listing.specs.Bytes.{Bytes}
use Rattle.listing.specs.Form.{most_children}
use Rattle.explain_fields.specs.Pieces.{strange_field, strange_or}
use Rattle.explain_fields.specs.declared.reasons.Reason.{Reason}
use Rattle.explain_fields.specs.declared.reasons.Reason.TheVariants as WV
use Rattle.explain_fields.specs.declared.field.Role.{Role}
use Rattle.explain_fields.specs.declared.field.Role.TheVariants as RV

-- "`P|i|o`", "`R|kinds|locals`", "`S|n|e`", "`A|n|d|e`", "`U|e|k`", "`G|k`", "`W|n n ..`", "`F|c|c..`", "`E`": how many fields come after the letter,
-- of an `F` at most; none for no letter of a record
unfoldable pub fields_after : ℕ → Option ℕ
fields_after letter =
    cond (eqb letter (code "P")) (Some 2)
    (cond (eqb letter (code "R")) (Some 2)
    (cond (eqb letter (code "S")) (Some 2)
    (cond (eqb letter (code "A")) (Some 3)
    (cond (eqb letter (code "U")) (Some 2)
    (cond (eqb letter (code "G")) (Some 1)
    (cond (eqb letter (code "W")) (Some 1)
    (cond (eqb letter (code "F")) (Some most_children)
    (cond (eqb letter (code "E")) (Some 0)
    None))))))))

unfoldable pub is_letter_field : Bytes → Bool
is_letter_field field = cond (eqb (length field) 1) (is_some (fields_after (get_or field 0 0))) false

-- why a line's first field is no letter: it holds a space, or it is out of form as a piece is
unfoldable pub letter_why : Bytes → Option Reason
letter_why field = cond (is_letter_field field) None (Some (strange_or WV.NoSuchLetter (strange_field field)))

-- may so many fields come after a letter, and why not; 255 stand for those of no letter
abbrev pub counts : ℕ → Option ℕ → Bool
counts count (Some fields) = eqb count fields
counts count None = eqb count 255

unfoldable pub fits_letter : ℕ → ℕ → Bool
fits_letter letter count = cond (eqb letter (code "F")) (cond (eqb count 0) false (leb count most_children)) (counts count (fields_after letter))

unfoldable pub count_why : ℕ → Reason
count_why letter = cond (eqb letter (code "F")) WV.ChildCount WV.FieldCount

-- what the fields after a letter hold, by their number from 1
unfoldable pub first_role : ℕ → Role
first_role letter = cond (eqb letter (code "R")) RV.Kinds (cond (eqb letter (code "U")) RV.Expression RV.Number)

unfoldable pub later_role : ℕ → Role
later_role letter = cond (eqb letter (code "S")) RV.Expression (cond (eqb letter (code "A")) RV.Expression RV.Number)

unfoldable pub role_of : ℕ → ℕ → Role
role_of letter number =
    cond (eqb letter (code "W")) RV.Names
    (cond (eqb letter (code "F")) RV.Child
    (cond (eqb number 1) (first_role letter) (later_role letter)))

-- "By form `P` stands on line 1 only, and line 2, if any, is an `R`."
unfoldable pub stands_why : ℕ → ℕ → Option Reason
stands_why number letter =
    cond (eqb letter (code "P")) (cond (eqb number 1) None (Some WV.PortsLater))
    (cond (leb number 1) (Some WV.FirstLine)
    (cond (eqb letter (code "R")) None
    (cond (leb number 2) (Some WV.SecondLine) None)))
