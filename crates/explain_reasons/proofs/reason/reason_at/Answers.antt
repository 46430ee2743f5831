-- `explain_reasons::reason::reason_at` meets its contract.
use borrow.Author.Tests.{ne_eqb}
use Rattle.explain_reasons.specs.Faults.{fault_at}
use Rattle.explain_reasons.proofs.reason.reason_at.Goals as goal

pub returns-in-2 : goal.returns-in-2
unfolding fault_at
returns-in-2 c = rw c.in-2.is c.form_fault.ensures

pub returns-in-3 : goal.returns-in-3
unfolding fault_at
returns-in-3 c = rw (c.in-3.is, c.about.ensures, c.limit_why.ensures)

pub returns-in-4 : goal.returns-in-4
unfolding fault_at
returns-in-4 c = rw (c.in-4.is, c.there_fault.ensures)

pub returns-in-5 : goal.returns-in-5
unfolding fault_at
returns-in-5 c = rw (c.in-5.is, c.about-in-5.ensures, c.ending_why.ensures)

pub returns-in_default : goal.returns-in_default
unfolding fault_at
returns-in_default c = let r = c.in_default.in_default-own.rest in rw (ne_eqb _ 2 r.0.0.0.1, ne_eqb _ 3 r.0.0.1, ne_eqb _ 4 r.0.1, ne_eqb _ 5 r.1)
