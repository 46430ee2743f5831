-- `explain_trace::form::field_why` meets its contract.
use mathlib.Core.Path.{sym, ap, ◌∙◌}
use Prim.Native.Nat.{◌<◌, ◌≤◌}
use native.Mathlib.Omega.{arith}
use lib.ListN.{length}
use borrow.Author.Tests.{lt-ltb, le-ltb}
use Rattle.std.specs.Prelude.{Option, Some}
use Rattle.explain_parts.specs.Parts.{first_part_lem}
use Rattle.explain_fields.specs.declared.reasons.Strange.{Strange}
use Rattle.explain_trace.specs.declared.reasons.Reason.{Reason}
use Rattle.explain_trace.specs.Forms.{field_why, bad_field, strange_or}
use Rattle.explain_trace.proofs.form.field_why.Goals as goal

pub returns-then-is_field : goal.returns-then-is_field
unfolding field_why
returns-then-is_field c = rw (sym c.is_field.ensures ∙ c.if-is_field.true)

pub returns-then-part_end-field : goal.returns-then-part_end-field
unfolding field_why
returns-then-part_end-field c =
    let f = c.args.field.now in
    let h : length (first_part_lem 32 f) < length f = omega (arith, c.part_end.ensures.0, c.if-part_end-field.true) in
    rw (sym c.is_field.ensures ∙ c.if-is_field.false, lt-ltb _ _ h)

pub returns-in-Some : goal.returns-in-Some
unfolding field_why
returns-in-Some c =
    let f = c.args.field.now in
    let h : length f ≤ length (first_part_lem 32 f) = omega (arith, c.part_end.ensures.0, c.if-part_end-field.false) in
    rw (sym c.is_field.ensures ∙ c.if-is_field.false, le-ltb _ _ h) (ap (λ (o : Option Strange). Some (strange_or (bad_field c.args.number) o)) c.in-Some.ensures)

pub returns-in-None : goal.returns-in-None
unfolding field_why
returns-in-None c =
    let f = c.args.field.now in
    let h : length f ≤ length (first_part_lem 32 f) = omega (arith, c.part_end.ensures.0, c.if-part_end-field.false) in
    rw (sym c.is_field.ensures ∙ c.if-is_field.false, le-ltb _ _ h)
    (ap (λ (w : Reason). Some w) c.bad_field.ensures ∙ ap (λ (o : Option Strange). Some (strange_or (bad_field c.args.number) o)) c.in-None.ensures)
