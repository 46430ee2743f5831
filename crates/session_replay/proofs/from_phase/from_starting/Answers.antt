-- `session_replay::from_phase::from_starting` meets its contract.
use borrow.Author.Rules.{rules}
use Rattle.session_replay.proofs.from_phase.from_starting.Goals as goal

pub shape_of-machine : goal.shape_of-machine
shape_of-machine c = c.machine-1.given

pub shape_of-out : goal.shape_of-out
shape_of-out c = c.out-1.given

pub returns : goal.returns
returns c = let m = c.print_start-made in record { made = m.result; call = m.ensures; is = c.step_after.ensures }
