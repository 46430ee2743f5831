-- `table_check_ends::operand_count` meets its contract.
use Prim.Native.Nat.{◌+◌, ◌*◌}
use native.Mathlib.Omega.{arith}
use Rattle.table.specs.Decode.{instruction_at_entry}
use Rattle.table_check_ends.proofs.Ends as ends
use Rattle.table_check_ends.proofs.operand_count.Goals as goal

pub overflow_add-sum : goal.overflow_add-sum
overflow_add-sum c = omega (arith, c.operands_at-sum.ensures, ends.operands_most (instruction_at_entry c.args.t.now (328 + 5 * c.loop-i.i)))

pub loop-i-preserved : goal.loop-i-preserved
loop-i-preserved c =
    let v = c.loop-i in
    let w = c.args.t.now in
    let most = ends.operands_most (instruction_at_entry w (328 + 5 * v.i)) in
    let result = c.operands_at-sum.ensures in
    let turn = ends.operands_turn w c.args.n v.i (omega arith) in
    let so_far = v.invariant.1 in
    (omega arith, omega arith)

pub returns : goal.returns
returns c =
    let v = c.loop-i in
    let none = ends.operands_end c.args.t.now c.args.n v.i (omega arith) in
    let so_far = v.invariant.1 in
    omega arith
