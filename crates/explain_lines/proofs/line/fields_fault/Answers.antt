-- `explain_lines::line::fields_fault` meets its contract.
use mathlib.Core.Path.{ap, ◌∙◌}
use Rattle.std.specs.Prelude.{Some}
use Rattle.explain_fields.specs.declared.reasons.Reason.{Reason}
use Rattle.explain_fields.specs.declared.reasons.Fault.{Fault}
use Rattle.explain_lines.proofs.Lines.{looked_through, wrong_here, looking_on}
use Rattle.explain_lines.proofs.line.fields_fault.Goals as goal

pub returns-in-Some : goal.returns-in-Some
returns-in-Some c =
    ap (λ (f : Fault Reason). Some f) c.fault_in.ensures
    ∙ wrong_here _ _ _ _ c.loop-number.invariant c.loop-number-test.true _ (c.field_fault.ensures ∙ rw (c.role_of.ensures, c.part_of-field.ensures.is)) _ c.in-Some.is

pub loop-number-preserved : goal.loop-number-preserved
loop-number-preserved c = looking_on _ _ _ _ c.loop-number.invariant c.loop-number-test.true _ (c.field_fault.ensures ∙ rw (c.role_of.ensures, c.part_of-field.ensures.is)) c.in-None.is

pub returns : goal.returns
returns c = looked_through _ _ _ _ c.loop-number.invariant c.loop-number-test.false
