-- `text_records::read_rest` meets its contract.
use borrow.Author.Tests.{ne_eqb}
use Rattle.listing.specs.Form.{read_by_letter}
use Rattle.text_records.proofs.record.read_rest.Goals as goal

pub returns-in-80 : goal.returns-in-80
unfolding read_by_letter
returns-in-80 c = rw c.in-80.is (c.read_ports.ensures _)

pub returns-in-82 : goal.returns-in-82
unfolding read_by_letter
returns-in-82 c = rw c.in-82.is (c.read_opens.ensures _)

pub returns-in-83 : goal.returns-in-83
unfolding read_by_letter
returns-in-83 c = rw c.in-83.is (c.read_assign.ensures _)

pub returns-in-65 : goal.returns-in-65
unfolding read_by_letter
returns-in-65 c = rw c.in-65.is (c.read_schedule.ensures _)

pub returns-in-85 : goal.returns-in-85
unfolding read_by_letter
returns-in-85 c = rw c.in-85.is (c.read_branch.ensures _)

pub returns-in-71 : goal.returns-in-71
unfolding read_by_letter
returns-in-71 c = rw c.in-71.is (c.read_jump.ensures _)

pub returns-in-87 : goal.returns-in-87
unfolding read_by_letter
returns-in-87 c = rw c.in-87.is (c.read_wait.ensures _)

pub returns-in-70 : goal.returns-in-70
unfolding read_by_letter
returns-in-70 c = rw c.in-70.is c.read_fork.ensures

pub returns-in-69 : goal.returns-in-69
unfolding read_by_letter
returns-in-69 c = rw c.in-69.is (c.read_end.ensures _ _)

pub returns-in_default : goal.returns-in_default
unfolding read_by_letter
returns-in_default c =
    let r = c.in_default.in_default-own.rest in
    rw (ne_eqb _ 80 r.0.0.0.0.0.0.0.0.1, ne_eqb _ 82 r.0.0.0.0.0.0.0.1, ne_eqb _ 83 r.0.0.0.0.0.0.1, ne_eqb _ 65 r.0.0.0.0.0.1, ne_eqb _ 85 r.0.0.0.0.1, ne_eqb _ 71 r.0.0.0.1, ne_eqb _ 87 r.0.0.1, ne_eqb _ 70 r.0.1, ne_eqb _ 69 r.1)
