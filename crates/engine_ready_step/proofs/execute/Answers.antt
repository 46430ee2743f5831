-- `engine_ready_step::execute` meets its contract: each kind of instruction by what was read of it.
use mathlib.Core.Path.{◌≡◌}
use Prim.Native.Nat.{ℕ, ◌+◌, ◌*◌, ◌≤◌, ◌<◌}
use native.Mathlib.Omega.{arith}
use borrow.Author.Rules.{rules}
use Rattle.engine_rows.specs.Rows.{Row}
use Rattle.engine_blocks.specs.Blocks.{rows_of}
use Rattle.table.specs.Decode.{names_at, table_listing}
use Rattle.engine_run_laws.proofs.Arms.{may_write, may_evaluate, may_end, may_fork_step, as_read, no_schedule, no_branch, no_jump, last_kind}
use Rattle.engine_ready_step.proofs.execute.Goals as goal

pub assign_step-requires : goal.assign_step-requires
assign_step-requires c =
    let may = c.requires.0 in
    let e = c.requires.2.assigns c.in-1.is in
    (may_write may _ e.name e.next, may_evaluate may e.value)

pub returns-in-1 : goal.returns-in-1
returns-in-1 c =
    λ moment.
    let e = c.requires.2.assigns c.in-1.is in
    as_read e.is (c.assign_step.ensures (table_listing c.args.t.now) moment)

pub wait_step-requires : goal.wait_step-requires
wait_step-requires c = c.requires.0.pops

pub returns-in-5 : goal.returns-in-5
returns-in-5 c =
    λ moment.
    let e = c.requires.2.waits c.in-5.is in
    as_read e.is (c.wait_step.ensures (table_listing c.args.t.now) moment (names_at c.args.t.now c.args.entry.cells c.args.entry.first))

pub fork_step-requires : goal.fork_step-requires
fork_step-requires c =
    let may = c.requires.0 in
    let e = c.requires.2.forks c.in-6.is in
    may_fork_step may e

pub returns-in-6 : goal.returns-in-6
returns-in-6 c =
    λ moment.
    let e = c.requires.2.forks c.in-6.is in
    as_read e.is (c.fork_step.ensures moment)

pub end_step-requires : goal.end_step-requires
end_step-requires c = may_end c.requires.0

pub returns-in_default : goal.returns-in_default
returns-in_default c =
    λ moment.
    let known = c.requires.2 in
    let left = c.requires.1 in
    let rest = c.in_default.in_default-own.rest in
    let e = known.ends (last_kind _ known.least known.most rest.0.0.1 (no_schedule known left) (no_branch known left) (no_jump known left) rest.0.1 rest.1) in
    as_read e.is (c.end_step.ensures (table_listing c.args.t.now) moment)
