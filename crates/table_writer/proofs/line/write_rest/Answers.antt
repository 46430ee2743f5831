-- `table_writer::write_rest` meets its contract.
use Rattle.listing.specs.Form.{read_by_letter}
use Rattle.table_lines.proofs.Openings as openings
use Rattle.table_writer.proofs.Lines as lines
use Rattle.table_writer.proofs.line.write_rest.Goals as goal

pub hold_ports-requires : goal.hold_ports-requires
unfolding read_by_letter
hold_ports-requires c =
    let p = c.requires in
    (p.0, rw c.in-80.is at p.4)

pub returns-in-80 : goal.returns-in-80
unfolding read_by_letter
returns-in-80 c =
    let a = c.args in
    let p = c.requires in
    let g = rw c.in-80.is at p.4 in
    rw c.in-80.is (lines.writes_nothing _ _ a.to.entry a.to.cells a.t.now _ (openings.ports_keep a.s.now a.place a.stop p.0 g a.to.entry a.to.cells a.t.now) c.hold_ports.ensures)

pub hold_opens-requires : goal.hold_opens-requires
unfolding read_by_letter
hold_opens-requires c =
    let p = c.requires in
    (p.0, rw c.in-82.is at p.4)

pub returns-in-82 : goal.returns-in-82
unfolding read_by_letter
returns-in-82 c =
    let a = c.args in
    let p = c.requires in
    let g = rw c.in-82.is at p.4 in
    rw c.in-82.is (lines.writes_nothing _ _ a.to.entry a.to.cells a.t.now _ (openings.opens_keep a.s.now a.place a.stop p.0 g a.to.entry a.to.cells a.t.now) c.hold_opens.ensures)

pub write_assign-requires : goal.write_assign-requires
unfolding read_by_letter
write_assign-requires c =
    let p = c.requires in
    (p.0, p.1, p.2, p.3, rw c.in-83.is at p.4)

pub returns-in-83 : goal.returns-in-83
unfolding read_by_letter
returns-in-83 c = rw c.in-83.is c.write_assign.ensures

pub write_schedule-requires : goal.write_schedule-requires
unfolding read_by_letter
write_schedule-requires c =
    let p = c.requires in
    (p.0, p.1, p.2, p.3, rw c.in-65.is at p.4)

pub returns-in-65 : goal.returns-in-65
unfolding read_by_letter
returns-in-65 c = rw c.in-65.is c.write_schedule.ensures

pub write_branch-requires : goal.write_branch-requires
unfolding read_by_letter
write_branch-requires c =
    let p = c.requires in
    (p.0, p.1, p.2, p.3, rw c.in-85.is at p.4)

pub returns-in-85 : goal.returns-in-85
unfolding read_by_letter
returns-in-85 c = rw c.in-85.is c.write_branch.ensures

pub write_jump-requires : goal.write_jump-requires
unfolding read_by_letter
write_jump-requires c =
    let p = c.requires in
    (p.0, p.1, p.2, p.3, rw c.in-71.is at p.4)

pub returns-in-71 : goal.returns-in-71
unfolding read_by_letter
returns-in-71 c = rw c.in-71.is c.write_jump.ensures

pub write_wait-requires : goal.write_wait-requires
unfolding read_by_letter
write_wait-requires c =
    let p = c.requires in
    (p.0, p.1, p.2, p.3, rw c.in-87.is at p.4)

pub returns-in-87 : goal.returns-in-87
unfolding read_by_letter
returns-in-87 c = rw c.in-87.is c.write_wait.ensures

pub write_fork-requires : goal.write_fork-requires
unfolding read_by_letter
write_fork-requires c =
    let p = c.requires in
    (p.0, p.1, p.2, p.3, rw c.in-70.is at p.4)

pub returns-in-70 : goal.returns-in-70
unfolding read_by_letter
returns-in-70 c = rw c.in-70.is c.write_fork.ensures

-- no other letter is left
pub write_end-requires : goal.write_end-requires
write_end-requires c =
    let p = c.requires in
    let r = c.in_default.in_default-own.rest in
    (p.0, p.1, p.2, p.3, rw (lines.letter_left _ _ p.4 r.0.0.0.0.0.0.0.1 r.0.0.0.0.0.0.1 r.0.0.0.0.0.1 r.0.0.0.0.1 r.0.0.0.1 r.0.0.1 r.0.1 r.1) at p.4)

pub returns-in_default : goal.returns-in_default
returns-in_default c =
    let p = c.requires in
    let r = c.in_default.in_default-own.rest in
    rw (lines.letter_left _ _ p.4 r.0.0.0.0.0.0.0.1 r.0.0.0.0.0.0.1 r.0.0.0.0.0.1 r.0.0.0.0.1 r.0.0.0.1 r.0.0.1 r.0.1 r.1) c.write_end.ensures
