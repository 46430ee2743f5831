-- `call_conclude::ending::finished` meets its contract.
use native.Mathlib.Omega.{arith}
use Prim.Native.Nat.{◌+◌}
use Rattle.call_arguments.proofs.TableSize.{whole_size}
use Rattle.call_conclude.proofs.Finished.{finished_as, listed_below}
use borrow.Author.Rules.{rules}
use Rattle.call_conclude.proofs.ending.finished.Goals as goal

pub list_outputs-listed-requires : goal.list_outputs-listed-requires
list_outputs-listed-requires c =
    let p = c.requires in
    let s = whole_size c.args.table.now p.1.table _ _ c.number-inputs.ensures.0 c.number-outputs.ensures.0 in
    (p.1.size, s.1, p.2, p.3)

pub finish-requires : goal.finish-requires
finish-requires c =
    let p = c.requires in
    let s = whole_size c.args.table.now p.1.table _ _ c.number-inputs.ensures.0 c.number-outputs.ensures.0 in
    (p.1.size, s.1, rw s.0 p.1.clean)

pub overflow_cast-result : goal.overflow_cast-result
overflow_cast-result c = omega (arith, c.list_outputs-listed.ensures.count, listed_below (c.number-inputs.result + c.number-outputs.result) c.number-inputs.result c.args.machine.now)

pub returns : goal.returns
returns c =
    let a = c.args in
    λ may.
    finished_as a.table.now a.machine.now _ a.present.0 may (search rules) c.finish.ensures.0
    _ _ c.number-inputs.ensures.0 c.number-outputs.ensures.0 _ _ _ _ a.steps _ _ _
    c.list_outputs-listed.ensures c.finish.ensures.1 c.due_at-due.ensures
