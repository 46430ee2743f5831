-- `call_start_work::start_work` meets its contract.
use Rattle.call_start_work.proofs.Starting.{may_run, may_conclude, start_concludes}
use borrow.Author.Rules.{rules}
use Rattle.call_start_work.proofs.start_work.Goals as goal

pub run_on-ran-requires : goal.run_on-ran-requires
run_on-ran-requires c =
    let a = c.args in
    let p = c.requires in
    may_run a.table.now a.machine.now _ _ p.1 p.2 a.allowance p.3 c.begin_start-running.ensures

pub conclude-requires : goal.conclude-requires
conclude-requires c =
    let a = c.args in
    let p = c.requires in
    (p.0, may_conclude a.table.now a.machine.now _ _ p.1 p.2 a.allowance p.3 c.begin_start-running.ensures _ _ c.run_on-ran.ensures, p.4, p.5)

pub returns : goal.returns
returns c =
    let a = c.args in
    let p = c.requires in
    start_concludes a.table.now a.machine.now _ _ p.1 p.2 a.allowance p.3 c.begin_start-running.ensures _ _ c.run_on-ran.ensures _ _ _ _ _ _
    (c.conclude.ensures
    (may_conclude a.table.now a.machine.now _ _ p.1 p.2 a.allowance p.3 c.begin_start-running.ensures _ _ c.run_on-ran.ensures))
