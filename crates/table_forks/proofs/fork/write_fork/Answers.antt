-- `table_forks::write_fork` meets its contract.
use native.Mathlib.Omega.{arith}
use Rattle.table_forks.proofs.Calls as calls
use Rattle.table_forks.proofs.fork.write_fork.Goals as goal

pub loop-stop-init : goal.loop-stop-init
loop-stop-init c = calls.forking_begun _ _ _ _ _ _ c.requires.0

pub overflow_mul-cells : goal.overflow_mul-cells
overflow_mul-cells c =
    let v = c.loop-stop.invariant in
    omega (arith, v.small, calls.fork_room _ _ _ _ _ _ c.requires.4 _ _ _ _ _ _ v c.loop-stop-test.true)

pub overflow_add-to : goal.overflow_add-to
overflow_add-to c =
    let v = c.loop-stop.invariant in
    omega (arith, v.small, calls.fork_room _ _ _ _ _ _ c.requires.4 _ _ _ _ _ _ v c.loop-stop-test.true, c.requires.3)

pub write_call-call-requires : goal.write_call-call-requires
write_call-call-requires c =
    let v = c.loop-stop.invariant in
    let few = calls.fork_room _ _ _ _ _ _ c.requires.4 _ _ _ _ _ _ v c.loop-stop-test.true in
    (v.within, c.requires.1, omega (arith, v.small, few, c.requires.3))

pub overflow_add-cells : goal.overflow_add-cells
overflow_add-cells c =
    let v = c.loop-stop.invariant in
    let few = calls.fork_room _ _ _ _ _ _ c.requires.4 _ _ _ _ _ _ v c.loop-stop-test.true in
    omega (arith, v.small, few, c.write_call-call.ensures.few, c.requires.1)

pub overflow_add-count : goal.overflow_add-count
overflow_add-count c =
    let v = c.loop-stop.invariant in
    omega (arith, v.few)

pub loop-stop-smaller : goal.loop-stop-smaller
loop-stop-smaller c =
    let v = c.loop-stop.invariant in
    omega (arith, calls.fork_room _ _ _ _ _ _ c.requires.4 _ _ _ _ _ _ v c.loop-stop-test.true)

pub loop-stop-preserved : goal.loop-stop-preserved
loop-stop-preserved c =
    let v = c.loop-stop.invariant in
    let tab = c.loop-stop-test.true in
    let p = c.requires in
    calls.forking_on _ _ _ _ _ _ _ _ _ _ _ _ v tab (calls.fork_room _ _ _ _ _ _ p.4 _ _ _ _ _ _ v tab) p.1 _ _ c.write_call-call.ensures

pub overflow_cast-to : goal.overflow_cast-to
overflow_cast-to c = omega (arith, c.requires.3)

pub overflow_cast-count : goal.overflow_cast-count
overflow_cast-count c = omega (arith, c.loop-stop.invariant.few)

pub put_entry-requires : goal.put_entry-requires
put_entry-requires c = c.requires.2

pub overflow_mul-result : goal.overflow_mul-result
overflow_mul-result c = omega (arith, c.loop-stop.invariant.small, c.loop-stop.invariant.few)

pub shape_of-t : goal.shape_of-t
shape_of-t c = calls.fork_long _ _ _ _ _ _ _ _ _ _ _ _ c.loop-stop.invariant _ c.loop-stop-test.false _ c.put_entry.ensures

pub returns : goal.returns
returns c = calls.fork_written _ _ _ _ _ _ _ _ _ _ _ _ c.loop-stop.invariant _ c.loop-stop-test.false _ c.put_entry.ensures c.requires.4
