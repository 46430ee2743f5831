-- `explain_schedule::place::line_fault` meets its contract.
use borrow.Author.Tests.{eq-eqb, ne_eqb}
use Rattle.explain_schedule.specs.Faults.{line_fault}
use Rattle.explain_schedule.proofs.place.line_fault.Goals as goal

pub returns-then-place-eq1 : goal.returns-then-place-eq1
unfolding line_fault
returns-then-place-eq1 c = rw (eq-eqb _ 1 c.if-place-eq1.true) c.date_fault.ensures

pub returns : goal.returns
unfolding line_fault
returns c = rw (ne_eqb _ 1 c.if-place-eq1.false) c.window_fault.ensures
