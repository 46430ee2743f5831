-- `engine_straight::run_straight` meets its contract.
use mathlib.Core.Path.{◌≡◌, refl, sym, ap, subst, ◌∙◌}
use Prim.Native.Nat.{ℕ, ◌+◌, ◌*◌, ◌≤◌, ◌<◌}
use native.Mathlib.Omega.{arith}
use borrow.Author.Rules.{rules}
use Rattle.engine_rows.specs.Rows.{Row}
use Rattle.engine_blocks.specs.Blocks.{rows_of}
use Rattle.table_read.specs.Opened.{code_at, entry_of}
use Rattle.engine_straight.proofs.OnTheWay.{OnItsWay, way_begins, may_step_first, routine_few, table_long, may_step_there, room_there, fetched_there, way_on, way_stops, way_needs, way_used_up}
use Rattle.engine_straight.proofs.run_straight.Goals as goal

pub routine-requires : goal.routine-requires
routine-requires c =
    let s = (may_step_first _ _ c.requires).may in
    (s.pops.size, s.slot)

pub code_at-code-requires : goal.code_at-code-requires
code_at-code-requires c =
    let pre = c.requires in
    (table_long _ _ pre, omega (arith, routine_few _ _ pre, c.number.ensures.0, c.routine.ensures))

pub place-place-requires : goal.place-place-requires
place-place-requires c =
    let s = (may_step_first _ _ c.requires).may in
    (s.pops.size, s.slot)

pub loop-left-init : goal.loop-left-init
loop-left-init c =
    let a = c.args in
    (way_begins _ _ _ c.place-place.ensures, c.code_at-code.ensures ∙ ap (λ (r : ℕ). code_at a.t.now r) (c.number.ensures.0 ∙ c.routine.ensures))

pub overflow_add-code : goal.overflow_add-code
overflow_add-code c =
    let inv = c.loop-left.invariant in
    omega (arith, room_there _ _ inv.0 c.requires _ inv.1, c.number-in-loop-left.ensures.0)

pub entry_at-entry-requires : goal.entry_at-entry-requires
entry_at-entry-requires c =
    let pre = c.requires in
    let inv = c.loop-left.invariant in
    (table_long _ _ pre, omega (arith, room_there _ _ inv.0 pre _ inv.1, c.number-in-loop-left.ensures.0))

pub straight_step-requires : goal.straight_step-requires
straight_step-requires c =
    let inv = c.loop-left.invariant in
    let read = c.entry_at-entry.ensures ∙ ap (λ (k : ℕ). entry_of c.args.t.now (c.code_at-code.result + 5 * k)) c.number-in-loop-left.ensures.0 in
    (may_step_there _ _ inv.0 c.requires, inv.0.here, fetched_there _ _ inv.0 c.requires _ inv.1 _ read)

pub loop-left-preserved : goal.loop-left-preserved
loop-left-preserved c =
    let inv = c.loop-left.invariant in
    (way_on _ _ inv.0 _ c.loop-left-test.true (search rules) _ _ c.in-To.is c.straight_step.ensures, inv.1)

pub returns-in-StopsWith : goal.returns-in-StopsWith
returns-in-StopsWith c =
    let inv = c.loop-left.invariant in
    way_stops _ _ inv.0 _ c.loop-left-test.true (search rules) _ _ c.in-StopsWith.is c.straight_step.ensures

pub returns-in-Unmade : goal.returns-in-Unmade
returns-in-Unmade c =
    let inv = c.loop-left.invariant in
    way_needs _ _ inv.0 _ c.loop-left-test.true (search rules) _ c.in-Unmade.is c.straight_step.ensures

pub returns : goal.returns
returns c = way_used_up _ _ c.loop-left.invariant.0 (omega (arith, c.loop-left-test.false))
