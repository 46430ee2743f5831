use Rattle.machine_halt.proofs.Zeroes.{zeroed_length, halted_form}
use mathlib.Core.Path.{ap, ◌∙◌}
use lib.ListN.{length, set, length-set}
use native.Mathlib.Omega.{arith}
use borrow.Author.Rules.{rules}
use Rattle.machine_halt.proofs.halt.Goals as goal

pub shape_of-m : goal.shape_of-m
shape_of-m c =
    let a = c.args in
    ap length c.clear_from.ensures ∙ (zeroed_length 1 12288 (set a.m.now 0 a.number) (omega arith) (rw length-set (search rules)) ∙ length-set a.m.now 0 a.number)

pub returns : goal.returns
returns c =
    let a = c.args in
    c.clear_from.ensures ∙ halted_form a.number a.m.now (search rules)
