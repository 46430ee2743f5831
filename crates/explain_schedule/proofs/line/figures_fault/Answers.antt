-- `explain_schedule::line::figures_fault` meets its contract.
use mathlib.Core.Path.{◌∙◌, ap, refl}
use native.Mathlib.Numerals.{unary_clauses}
use Rattle.std.specs.Prelude.{Some}
use Rattle.explain_fields.specs.Fields.{field_fault}
use Rattle.explain_fields.specs.declared.field.Role.TheVariants as RV
use Rattle.explain_fields.specs.declared.reasons.Fault.{Fault}
use Rattle.explain_schedule.specs.declared.reasons.Reason.{Reason}
use Rattle.explain_schedule.proofs.Lines.{looked_through, wrong_here, looking_on}
use Rattle.explain_schedule.proofs.line.figures_fault.Goals as goal

pub loop-before-init : goal.loop-before-init
loop-before-init c = simp unary_clauses refl

pub returns-in-Some : goal.returns-in-Some
returns-in-Some c =
    ap (λ (f : Fault Reason). Some f) c.formed.ensures
    ∙ wrong_here _ _ _ c.loop-before.invariant c.loop-before-test.true _ (c.field_fault.ensures ∙ ap (field_fault RV.Number) c.part_of-field.ensures.is) _ c.in-Some.is

pub loop-before-preserved : goal.loop-before-preserved
loop-before-preserved c = looking_on _ _ _ c.loop-before.invariant c.loop-before-test.true _ (c.field_fault.ensures ∙ ap (field_fault RV.Number) c.part_of-field.ensures.is) c.in-None.is

pub returns : goal.returns
returns c = looked_through _ _ _ c.loop-before.invariant c.loop-before-test.false
