-- `schedule_list::list_changes` meets its contract.
use mathlib.Core.Path.{◌≡◌}
use native.Mathlib.Omega.{arith}
use Rattle.schedule_minutes.proofs.Changes.{no_changes}
use Rattle.schedule_list.proofs.Lists as lists
use Rattle.schedule_list.proofs.list_changes.Goals as goal

pub loop-input-init : goal.loop-input-init
loop-input-init c = rw (no_changes _ _ _) (lists.written_none _ _ _ _)

pub list_change-next-requires : goal.list_change-next-requires
list_change-next-requires c =
    let v = c.loop-input in
    let a = c.args in
    let p = c.bit_of-was.ensures in
    let q = c.bit_of-is.ensures in
    (omega arith, omega (arith, p), omega (arith, q), lists.change_fits a.moment a.before a.at v.input _ _ (omega arith) p q v.invariant c.requires)

pub loop-input-preserved : goal.loop-input-preserved
loop-input-preserved c =
    let v = c.loop-input in
    let a = c.args in
    let p = c.bit_of-was.ensures in
    let q = c.bit_of-is.ensures in
    lists.changes_written a.moment a.before a.at v.input _ _ (omega arith) p q v.invariant c.list_change-next.ensures

pub returns : goal.returns
returns c =
    let v = c.loop-input in
    let e : v.input ≡ 16 = omega arith in
    rw e at v.invariant
