-- `explain_played::spot::soonest` meets its contract.
use Rattle.explain_played.proofs.Codes.{due_first_lem, due_later, due_never}
use Rattle.explain_played.proofs.spot.soonest.Goals as goal

pub returns-then-m-time : goal.returns-then-m-time
returns-then-m-time c = due_first_lem _ _ _ c.in-At.is c.if-m-time.true

pub returns-in-Never : goal.returns-in-Never
returns-in-Never c = due_never _ _ c.in-Never.is

pub returns-else-m-time : goal.returns-else-m-time
returns-else-m-time c = due_later _ _ _ c.in-At.is c.if-m-time.false
