use Rattle.test_stored_calls.proofs.Making.{by_start, by_instant}
use Rattle.test_stored_calls.proofs.calls.library_call.Goals as goal

pub shape_of-machine-then-call-eq0 : goal.shape_of-machine-then-call-eq0
shape_of-machine-then-call-eq0 c = c.fabrwent_start.auto.machine

pub shape_of-numbers-then-call-eq0 : goal.shape_of-numbers-then-call-eq0
shape_of-numbers-then-call-eq0 c = c.fabrwent_start.auto.out_numbers

pub shape_of-values-then-call-eq0 : goal.shape_of-values-then-call-eq0
shape_of-values-then-call-eq0 c = c.fabrwent_start.auto.out_values

pub returns-then-call-eq0 : goal.returns-then-call-eq0
returns-then-call-eq0 c =
    let a = c.args in
    let k = c.fabrwent_start.ensures in
    by_start a.call a.ins.now a.news.now c.if-call-eq0.true (c.report_in.ensures k.1) k.0

pub shape_of-machine : goal.shape_of-machine
shape_of-machine c = c.fabrwent_instant.auto.machine

pub shape_of-numbers : goal.shape_of-numbers
shape_of-numbers c = c.fabrwent_instant.auto.out_numbers

pub shape_of-values : goal.shape_of-values
shape_of-values c = c.fabrwent_instant.auto.out_values

pub returns : goal.returns
returns c =
    let a = c.args in
    let k = c.fabrwent_instant.ensures in
    by_instant a.call a.ins.now a.news.now c.if-call-eq0.false (c.report_in-2.ensures k.1) k.0
