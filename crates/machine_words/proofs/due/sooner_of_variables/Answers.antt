-- `machine_words::due::sooner_of_variables` meets its contract.
use Rattle.machine_words.proofs.DueLaws.{variables_begin, variables_go_on, variables_end}
use Rattle.machine_words.proofs.due.sooner_of_variables.Goals as goal

pub loop-i-init : goal.loop-i-init
loop-i-init c = variables_begin _ _ _ _

pub loop-i-preserved : goal.loop-i-preserved
loop-i-preserved c = variables_go_on _ _ _ _ _ c.loop-i.i _ _ c.loop-i-test.true c.loop-i.invariant c.moment_at-here.ensures c.sooner-found.ensures

pub returns : goal.returns
returns c = variables_end _ _ _ _ _ _ c.loop-i-test.false c.loop-i.invariant
