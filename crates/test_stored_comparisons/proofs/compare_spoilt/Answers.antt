use mathlib.Core.Path.{◌∙◌}
use Rattle.test_lending.proofs.Lending.{spoilt_back}
use Rattle.test_stored_comparisons.proofs.Comparing.{compared_so}
use Rattle.test_stored_comparisons.proofs.compare_spoilt.Goals as goal

pub shape_of-table : goal.shape_of-table
shape_of-table c = c.spoil_first.auto.words ∙ c.spoil_first-table_first.auto.words

pub shape_of-machine : goal.shape_of-machine
shape_of-machine c = c.spoil_first-2.auto.words ∙ c.spoil_first-machine_first.auto.words

pub returns : goal.returns
returns c =
    let a = c.args in
    let k = c.word_at-kind in
    let t = c.spoil_first-table_first in
    let m = c.spoil_first-machine_first in
    let u = c.spoil_first in
    let n = c.spoil_first-2 in
    record {
      table_is_lem = spoilt_back k.result 6 2147483648 t.result a.table.now t.new.words u.new.words t.ensures.1 t.ensures.0 u.ensures.1;
      machine_is = spoilt_back k.result 7 5 m.result a.machine.now m.new.words n.new.words m.ensures.1 m.ensures.0 n.ensures.1;
      tells =
          compared_so a.at k.result a.table.now a.machine.now a.kept.now k.ensures c.past-stored.ensures
          t.ensures.1 m.ensures.1 c.lent-kept_lent.ensures.1 c.compare-right.ensures;
    }
