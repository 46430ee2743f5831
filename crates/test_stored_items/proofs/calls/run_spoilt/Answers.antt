use mathlib.Core.Path.{◌∙◌}
use Rattle.test_lending.proofs.Lending.{spoilt_back}
use Rattle.test_stored_items.proofs.Agreeing.{ran_spoilt}
use Rattle.test_stored_items.proofs.calls.run_spoilt.Goals as goal

pub shape_of-table : goal.shape_of-table
shape_of-table c = c.spoil_first.auto.words ∙ c.spoil_first-table_first.auto.words

pub shape_of-machine : goal.shape_of-machine
shape_of-machine c = c.spoil_first-2.auto.words ∙ (c.run_call-right.auto.machine ∙ c.spoil_first-machine_first.auto.words)

pub returns : goal.returns
returns c =
    let a = c.args in
    let call = c.call_at-call in
    let t = c.spoil_first-table_first in
    let m = c.spoil_first-machine_first in
    let r = c.run_call-right in
    let u = c.spoil_first in
    let n = c.spoil_first-2 in (
      spoilt_back call.result.spoil 6 2147483648 t.result a.table.now t.new.words u.new.words t.ensures.1 t.ensures.0 u.ensures.1,
      ran_spoilt a.s.now a.at call.result a.table.now a.machine.now t.new.words m.new.words r.new.machine n.new.words m.result
          call.ensures t.ensures.1 m.ensures.1 m.ensures.0 r.ensures n.ensures.1,
    )
