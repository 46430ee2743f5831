-- `explain_there::there::fields_there` meets its contract.
use mathlib.Core.Path.{◌∙◌}
use Rattle.explain_there.proofs.Pointing.{looked_through, wrong_here, looking_on}
use Rattle.explain_there.proofs.there.fields_there.Goals as goal

pub returns-in-Some : goal.returns-in-Some
returns-in-Some c =
    c.fault_in.ensures
    ∙ wrong_here _ _ _ _ _ c.loop-number.invariant c.loop-number-test.true _ (c.field_there.ensures ∙ rw (c.first_target.ensures, c.part_of-field.ensures.is)) _ c.in-Some.is

pub loop-number-preserved : goal.loop-number-preserved
loop-number-preserved c = looking_on _ _ _ _ _ c.loop-number.invariant c.loop-number-test.true _ (c.field_there.ensures ∙ rw (c.first_target.ensures, c.part_of-field.ensures.is)) c.in-None.is

pub returns : goal.returns
returns c = c.about.ensures ∙ looked_through _ _ _ _ _ c.loop-number.invariant c.loop-number-test.false
