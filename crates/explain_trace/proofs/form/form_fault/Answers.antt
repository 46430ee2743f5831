-- `explain_trace::form::form_fault` meets its contract.
use Prim.Native.Nat.{◌-◌}
use mathlib.Core.Path.{◌≡◌, sym, ap, ◌∙◌}
use mathlib.Core.Bool.{true, false}
use native.Mathlib.Omega.{arith}
use lib.ListN.{length, get_or}
use Rattle.std.specs.Prelude.{Some, None}
use Rattle.listing.specs.Bytes.{split}
use Rattle.explain_parts.specs.Parts.{part_of}
use Rattle.explain_parts.proofs.Parts.{some_part, few_parts}
use Rattle.explain_fields.specs.declared.reasons.Fault.{Fault}
use Rattle.explain_trace.specs.declared.reasons.Reason.{Reason}
use Rattle.explain_trace.specs.Forms.{letter_why, fits_letter}
use Rattle.explain_trace.proofs.Fields.{letter_wrong, count_wrong, by_fields}
use Rattle.explain_trace.proofs.form.form_fault.Goals as goal

pub returns-in-Some : goal.returns-in-Some
returns-in-Some c = letter_wrong _ _ (sym (c.letter_why.ensures ∙ ap letter_why c.part_of.ensures.is) ∙ c.in-Some.is)

pub overflow_sub-count : goal.overflow_sub-count
overflow_sub-count c = omega (arith, c.count_parts-count.ensures, some_part 9 c.args.line.now)

pub fields_fault-requires : goal.fields_fault-requires
fields_fault-requires c = omega (arith, c.count_parts-count.ensures, few_parts 9 c.args.line.now, c.requires)

pub returns-then-fits_letter : goal.returns-then-fits_letter
returns-then-fits_letter c =
    let s = c.args.line.now in
    let fine : letter_why (part_of 9 s 0) ≡ None = sym (c.letter_why.ensures ∙ ap letter_why c.part_of.ensures.is) ∙ c.in_default.is in
    let fits : fits_letter (get_or s 0 0) (length (split 9 s) - 1) ≡ true = sym (c.fits_letter.ensures ∙ rw (c.first_byte.ensures, c.count_parts-count.ensures)) ∙ c.if-fits_letter.true in
    c.fields_fault.ensures ∙ rw c.count_parts-count.ensures (by_fields s fine fits)

pub returns : goal.returns
returns c =
    let s = c.args.line.now in
    let fine : letter_why (part_of 9 s 0) ≡ None = sym (c.letter_why.ensures ∙ ap letter_why c.part_of.ensures.is) ∙ c.in_default.is in
    let fits : fits_letter (get_or s 0 0) (length (split 9 s) - 1) ≡ false = sym (c.fits_letter.ensures ∙ rw (c.first_byte.ensures, c.count_parts-count.ensures)) ∙ c.if-fits_letter.false in
    ap (λ (f : Fault Reason). Some f) c.about.ensures ∙ count_wrong s fine fits
