-- `wait_step` meets its contract.
use borrow.Author.Rules.{rules}
use Rattle.engine_steps.proofs.Going.{waits}
use Rattle.engine_steps.proofs.control.wait_step.Goals as goal

pub returns : goal.returns
returns c = λ listing moment names. waits listing moment names c.next_ready.ensures
