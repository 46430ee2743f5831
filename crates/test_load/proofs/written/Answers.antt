use mathlib.Core.Path.{sym}
use lib.Seq.{length-take-le}
use Rattle.test_cases.proofs.Telling.{tells_same, tells_else}
use Rattle.test_load.proofs.written.Goals as goal

pub returns-then-not-all_from : goal.returns-then-not-all_from
returns-then-not-all_from c = tells_else c.all_from.ensures c.if-not-all_from.true (λ w. w.first_past)

pub returns-then-not-all_from-2 : goal.returns-then-not-all_from-2
returns-then-not-all_from-2 c = tells_else c.all_from-2.ensures c.if-not-all_from-2.true (λ w. w.second_past)

pub returns-then-not-same_to : goal.returns-then-not-same_to
returns-then-not-same_to c = tells_else c.same_to.ensures c.if-not-same_to.true (λ w. w.same)

pub slice_bounds-all_from-end : goal.slice_bounds-all_from-end
slice_bounds-all_from-end c =
    let b = c.same_to.ensures.means c.if-not-same_to.false in
    sym (length-take-le 12288 c.args.table.now b.long_enough_lem)

pub returns : goal.returns
returns c =
    tells_same
    (λ e. record {
      first_past = c.all_from.ensures.means c.if-not-all_from.false;
      second_past = c.all_from-2.ensures.means c.if-not-all_from-2.false;
      same = c.same_to.ensures.means c.if-not-same_to.false;
      unused = e;
    })
    (λ w. w.unused)
    c.all_from-3.ensures
