-- `session_calls::calls::tell` meets its contract.
use Rattle.session_calls.proofs.Results.{failed_tells, done_tells}
use Rattle.session_calls.proofs.calls.tell.Goals as goal

pub returns-in-Ok : goal.returns-in-Ok
returns-in-Ok c = done_tells _ _ c.in-Ok.is

pub returns-in-Err : goal.returns-in-Err
returns-in-Err c = failed_tells _ _ _ c.in-Err.is c.number.ensures
