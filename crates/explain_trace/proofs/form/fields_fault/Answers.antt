-- `explain_trace::form::fields_fault` meets its contract.
use mathlib.Core.Path.{◌∙◌}
use Rattle.explain_trace.proofs.Fields.{looked_through, wrong_here, looking_on}
use Rattle.explain_trace.proofs.form.fields_fault.Goals as goal

pub returns-in-Some : goal.returns-in-Some
returns-in-Some c = wrong_here _ _ _ c.loop-number.invariant c.loop-number-test.true _ (c.field_why.ensures ∙ rw c.part_of-field.ensures.is) _ c.in-Some.is

pub loop-number-preserved : goal.loop-number-preserved
loop-number-preserved c = looking_on _ _ _ c.loop-number.invariant c.loop-number-test.true _ (c.field_why.ensures ∙ rw c.part_of-field.ensures.is) c.in-None.is

pub returns : goal.returns
returns c = looked_through _ _ _ c.loop-number.invariant c.loop-number-test.false
