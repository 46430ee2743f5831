-- `session_replay::reading::toward_call` meets its contract.
use native.Mathlib.Omega.{arith}
use Rattle.session_replay.specs.Phases as phases
use borrow.Author.Rules.{rules}
use Rattle.session_replay.proofs.reading.toward_call.Goals as goal

pub shape_of-machine-in_default : goal.shape_of-machine-in_default
shape_of-machine-in_default c = c.machine-1.given

pub shape_of-out-in_default : goal.shape_of-out-in_default
shape_of-out-in_default c = c.out-1.given

pub returns-in_default : goal.returns-in_default
returns-in_default c =
    let f = c.ranges in
    (omega arith, phases.TowardCall.joins (rw c.in_default.is at c.due_before-soon.ensures) c.print_instant-made.ensures c.step_after.ensures)

pub shape_of-machine : goal.shape_of-machine
shape_of-machine c = c.machine-2-1.given

pub shape_of-out : goal.shape_of-out
shape_of-out c = c.out-2-1.given

pub returns : goal.returns
returns c =
    let f = c.ranges in
    (omega arith, phases.TowardCall.due (rw c.in-At.is at c.due_before-soon.ensures) c.print_instant-made-2.ensures c.step_after-2.ensures)
