-- `explain_schedule::place::reason_at` meets its contract.
use borrow.Author.Tests.{le-leb, lt-leb}
use Rattle.explain_schedule.specs.Faults.{fault_at}
use Rattle.explain_schedule.proofs.place.reason_at.Goals as goal

pub returns-then-count_parts-place : goal.returns-then-count_parts-place
unfolding fault_at
returns-then-count_parts-place c = rw (← c.count_parts.ensures, le-leb _ _ c.if-count_parts-place.true, c.about.ensures, c.unclosed_why.ensures)

pub returns : goal.returns
unfolding fault_at
returns c = rw (← c.count_parts.ensures, lt-leb _ _ c.if-count_parts-place.false) c.line_fault.ensures
