-- `machine_words::variables_rest` meets its contract.
use mathlib.Core.Path.{sym, ◌∙◌}
use mathlib.Core.Bool.{true, false}
use Rattle.machine_words.proofs.Laws.{rest_begins, one_variable}
use Rattle.machine_words.proofs.DueLaws.{variables_begin, variables_go_on}
use Rattle.machine_words.proofs.TestLaws.{fails, variables_pass}
use Rattle.machine_words.proofs.variables_rest.Goals as goal

pub loop-i-init : goal.loop-i-init
loop-i-init c = (rest_begins _ _ _ _, variables_begin _ _ _ _)

pub returns-then-not-variable_rests : goal.returns-then-not-variable_rests
returns-then-not-variable_rests c =
    let v = c.loop-i in
    fails _ _ (sym (sym (one_variable _ _ _ _ v.i false c.loop-i-test.true (sym c.variable_rests.ensures ∙ c.if-not-variable_rests.true)) ∙ v.invariant.0))

pub loop-i-preserved : goal.loop-i-preserved
loop-i-preserved c =
    let v = c.loop-i in
    (sym (one_variable _ _ _ _ v.i true c.loop-i-test.true (sym c.variable_rests.ensures ∙ c.if-not-variable_rests.false)) ∙ v.invariant.0, variables_go_on _ _ _ _ _ v.i _ _ c.loop-i-test.true v.invariant.1 c.moment_at-due.ensures c.sooner-found.ensures)

pub returns : goal.returns
returns c = variables_pass _ _ _ _ _ _ c.loop-i-test.false c.loop-i.invariant.0 c.loop-i.invariant.1
