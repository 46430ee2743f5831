-- `explain_lines::line::line_fault` meets its contract.
use Prim.Native.Nat.{◌-◌}
use mathlib.Core.Path.{◌≡◌, sym, ap, ◌∙◌}
use mathlib.Core.Bool.{true, false}
use native.Mathlib.Omega.{arith}
use lib.ListN.{length, get_or}
use Rattle.std.specs.Prelude.{Option, Some, None, option_map}
use Rattle.listing.specs.Bytes.{split}
use Rattle.explain_parts.specs.Parts.{part_of}
use Rattle.explain_parts.proofs.Parts.{some_part, few_parts}
use Rattle.explain_fields.specs.declared.reasons.Reason.{Reason}
use Rattle.explain_fields.specs.declared.reasons.Fault.{Fault}
use Rattle.explain_lines.specs.Letters.{letter_why, fits_letter}
use Rattle.explain_fields.specs.Fields.{about}
use Rattle.explain_lines.specs.Lines.{fields_fault}
use Rattle.explain_lines.proofs.Lines as lines
use Rattle.explain_lines.proofs.line.line_fault.Goals as goal

pub returns-in-Some : goal.returns-in-Some
returns-in-Some c = lines.letter_wrong _ _ _ (sym (c.letter_why.ensures ∙ ap letter_why c.part_of.ensures.is) ∙ c.in-Some.is)

pub overflow_sub-count : goal.overflow_sub-count
overflow_sub-count c = let s = c.args.line.now in omega (arith, c.count_parts-count.ensures, some_part 9 s)

pub returns-then-not-fits_letter : goal.returns-then-not-fits_letter
returns-then-not-fits_letter c =
    let s = c.args.line.now in
    let fine : letter_why (part_of 9 s 0) ≡ None = sym (c.letter_why.ensures ∙ ap letter_why c.part_of.ensures.is) ∙ c.in_default.is in
    let fits : fits_letter (get_or s 0 0) (length (split 9 s) - 1) ≡ false = sym (c.fits_letter.ensures ∙ rw (c.first_byte-letter.ensures, c.count_parts-count.ensures)) ∙ c.if-not-fits_letter.true in
    rw (c.about.ensures, c.count_why.ensures, c.first_byte-letter.ensures) (lines.count_wrong _ s fine fits)

pub fields_fault-requires : goal.fields_fault-requires
fields_fault-requires c = let s = c.args.line.now in (c.requires, omega (arith, c.count_parts-count.ensures, few_parts 9 s, c.requires))

pub returns-in-Some-fields_fault : goal.returns-in-Some-fields_fault
returns-in-Some-fields_fault c =
    let s = c.args.line.now in
    let fine : letter_why (part_of 9 s 0) ≡ None = sym (c.letter_why.ensures ∙ ap letter_why c.part_of.ensures.is) ∙ c.in_default.is in
    let fits : fits_letter (get_or s 0 0) (length (split 9 s) - 1) ≡ true = sym (c.fits_letter.ensures ∙ rw (c.first_byte-letter.ensures, c.count_parts-count.ensures)) ∙ c.if-not-fits_letter.false in
    lines.field_wrong _ s fine fits _ (sym (c.fields_fault.ensures ∙ rw (c.first_byte-letter.ensures, c.count_parts-count.ensures)) ∙ c.in-Some-fields_fault.is)

pub returns-in-Some-stands_why : goal.returns-in-Some-stands_why
returns-in-Some-stands_why c =
    let s = c.args.line.now in
    let fine : letter_why (part_of 9 s 0) ≡ None = sym (c.letter_why.ensures ∙ ap letter_why c.part_of.ensures.is) ∙ c.in_default.is in
    let fits : fits_letter (get_or s 0 0) (length (split 9 s) - 1) ≡ true = sym (c.fits_letter.ensures ∙ rw (c.first_byte-letter.ensures, c.count_parts-count.ensures)) ∙ c.if-not-fits_letter.false in
    ap (λ (f : Fault Reason). Some f) c.about-in-Some-stands_why.ensures
    ∙ ap (λ (o : Option Reason). option_map (λ (w : Reason). about w) o) (sym c.in-Some-stands_why.is ∙ c.stands_why.ensures ∙ rw c.first_byte-letter.ensures)
    ∙ lines.all_fine _ s fine fits (sym (c.fields_fault.ensures ∙ rw (c.first_byte-letter.ensures, c.count_parts-count.ensures)) ∙ c.in_default-fields_fault.is)

pub returns-in-None : goal.returns-in-None
returns-in-None c =
    let s = c.args.line.now in
    let fine : letter_why (part_of 9 s 0) ≡ None = sym (c.letter_why.ensures ∙ ap letter_why c.part_of.ensures.is) ∙ c.in_default.is in
    let fits : fits_letter (get_or s 0 0) (length (split 9 s) - 1) ≡ true = sym (c.fits_letter.ensures ∙ rw (c.first_byte-letter.ensures, c.count_parts-count.ensures)) ∙ c.if-not-fits_letter.false in
    ap (λ (o : Option Reason). option_map (λ (w : Reason). about w) o) (sym c.in-None.is ∙ c.stands_why.ensures ∙ rw c.first_byte-letter.ensures)
    ∙ lines.all_fine _ s fine fits (sym (c.fields_fault.ensures ∙ rw (c.first_byte-letter.ensures, c.count_parts-count.ensures)) ∙ c.in_default-fields_fault.is)
