-- `explain_reasons::reason::form_fault` meets its contract.
use borrow.Author.Tests.{le-leb, lt-leb}
use Rattle.explain_reasons.specs.Faults.{form_fault}
use Rattle.explain_reasons.proofs.reason.form_fault.Goals as goal

pub returns-then-count_parts-place : goal.returns-then-count_parts-place
unfolding form_fault
returns-then-count_parts-place c = rw (← c.count_parts.ensures, le-leb _ _ c.if-count_parts-place.true, c.about.ensures, c.unclosed_why.ensures)

pub returns : goal.returns
unfolding form_fault
returns c = rw (← c.count_parts.ensures, lt-leb _ _ c.if-count_parts-place.false) c.line_fault.ensures
