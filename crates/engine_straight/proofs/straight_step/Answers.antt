-- `engine_straight::straight_step` meets its contract: each kind of instruction by what was read of it.
use mathlib.Core.Path.{◌≡◌, refl}
use Prim.Native.Nat.{ℕ, ◌+◌, ◌*◌, ◌≤◌, ◌<◌}
use native.Mathlib.Omega.{arith}
use borrow.Author.Rules.{rules}
use Rattle.engine_rows.specs.Rows.{Row}
use Rattle.engine_blocks.specs.Blocks.{rows_of}
use Rattle.table.specs.Decode.{table_listing}
use Rattle.engine_steps.specs.Outcome.{Onwards}
use Rattle.engine_run_laws.proofs.Arms.{place_fits, may_go_on, may_change, may_evaluate, as_read_on, needs_ready}
use Rattle.engine_straight.proofs.straight_step.Goals as goal

pub assign_on-requires : goal.assign_on-requires
assign_on-requires c =
    let pre = c.requires in
    let e = pre.2.assigns c.in-1.is in
    (may_change pre.0.may _ _ pre.1 e.name e.next, may_evaluate pre.0.may e.value)

pub returns-in-1 : goal.returns-in-1
returns-in-1 c =
    let e = c.requires.2.assigns c.in-1.is in
    as_read_on _ _ _ _ _ _ e.is (c.assign_on.ensures (table_listing c.args.t.now) c.args.present.0)

pub schedule_on-requires : goal.schedule_on-requires
schedule_on-requires c =
    let pre = c.requires in
    let e = pre.2.schedules c.in-2.is in
    (may_change pre.0.may _ _ pre.1 e.name e.next, may_evaluate pre.0.may e.delay, may_evaluate pre.0.may e.value)

pub returns-in-2 : goal.returns-in-2
returns-in-2 c =
    let e = c.requires.2.schedules c.in-2.is in
    as_read_on _ _ _ _ _ _ e.is (c.schedule_on.ensures (table_listing c.args.t.now))

pub overflow_cast-operand : goal.overflow_cast-operand
overflow_cast-operand c =
    let pre = c.requires in
    let e = pre.2.branches c.in-3.is in
    let small = place_fits pre.0.may _ e.target in
    search rules

pub branch_on-requires : goal.branch_on-requires
branch_on-requires c =
    let pre = c.requires in
    let e = pre.2.branches c.in-3.is in
    (may_go_on pre.0.may _ pre.1 e.next, may_evaluate pre.0.may e.value)

pub returns-in-3 : goal.returns-in-3
returns-in-3 c =
    let e = c.requires.2.branches c.in-3.is in
    as_read_on _ _ _ _ _ _ e.is (c.branch_on.ensures (table_listing c.args.t.now) c.args.present.0)

pub overflow_cast-operand-in-4 : goal.overflow_cast-operand-in-4
overflow_cast-operand-in-4 c =
    let pre = c.requires in
    let e = pre.2.jumps c.in-4.is in
    let small = place_fits pre.0.may _ e.target in
    search rules

pub jump_on-requires : goal.jump_on-requires
jump_on-requires c =
    let pre = c.requires in
    (pre.0.may.pops.size, pre.0.may.slot)

pub returns-in-4 : goal.returns-in-4
returns-in-4 c =
    let e = c.requires.2.jumps c.in-4.is in
    as_read_on _ _ _ _ _ _ e.is (c.jump_on.ensures (table_listing c.args.t.now) c.args.present.0)

pub returns-in_default : goal.returns-in_default
unfolding Onwards
returns-in_default c =
    let rest = c.in_default.in_default-own.rest in
    (refl, needs_ready c.requires.2 rest.0.0.1 rest.0.1 rest.1)
