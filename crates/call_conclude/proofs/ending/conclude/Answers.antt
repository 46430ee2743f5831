-- `call_conclude::ending::conclude` meets its contract.
use Rattle.call_conclude.proofs.Concluded.{concluded_stop, left_within, may_finish, concluded_end}
use Rattle.call_conclude.proofs.ending.conclude.Goals as goal

pub returns-in-Stopped : goal.returns-in-Stopped
returns-in-Stopped c =
    let a = c.args in
    λ may. concluded_stop _ _ _ _ _ may _ c.in-Stopped.is _ _ _ c.halt.ensures

pub overflow_sub-allowance : goal.overflow_sub-allowance
overflow_sub-allowance c = left_within _ _ _ _ _ c.requires.1 _ c.in-Ended.is

pub finished-requires : goal.finished-requires
finished-requires c =
    let p = c.requires in
    (p.0, may_finish _ _ _ _ _ p.1 _ c.in-Ended.is, p.2, p.3)

pub returns-in-Ended : goal.returns-in-Ended
returns-in-Ended c = λ may. concluded_end _ _ _ _ _ may _ c.in-Ended.is _ _ _ _ _ _ (c.finished.ensures (may_finish _ _ _ _ _ may _ c.in-Ended.is))
