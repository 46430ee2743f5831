-- `engine_triggers::list_sleepers` meets its contract.
use mathlib.Core.Path.{◌≡◌}
use native.Mathlib.Numerals.{add-one}
use native.Mathlib.Omega.{arith}
use borrow.Author.Rules.{rules}
use Rattle.engine_blocks.proofs.Staying.{rows_of_same}
use Rattle.engine_blocks.specs.Blocks.{rows_of}
use Rattle.engine_triggers.proofs.Chaining.{only_start, only_then}
use Rattle.engine_triggers.proofs.Slots.{slots_start, slots_next, slots_end}
use Rattle.engine_triggers.specs.Awaited.{Sleepers, listed_below_lem}
use Rattle.engine_triggers.proofs.list_sleepers.Goals as goal

pub loop-s-init : goal.loop-s-init
loop-s-init c =
    let a = c.args in
    (search rules, only_start a.m.now, slots_start a.t.now a.m.now (rows_of a.m.now) (search rules))

pub list_slot-requires : goal.list_slot-requires
list_slot-requires c =
    let a = c.args in
    let v = c.loop-s in
    let all : Sleepers a.t.now a.m.now = search rules in
    (search rules, search rules, rw (rows_of_same v.invariant.1.rows) (all.each v.s (search rules)))

pub loop-s-preserved : goal.loop-s-preserved
loop-s-preserved c =
    let a = c.args in
    let v = c.loop-s in
    let t = a.t.now in
    let r = rows_of a.m.now in
    let done = c.list_slot.ensures in
    let size = done.0.outside.size in
    let chains = rw (rows_of_same v.invariant.1.rows) at (done.1 (listed_below_lem t r v.s) v.invariant.2) in
    (omega arith, only_then v.invariant.1 done.0, rw add-one (slots_next t _ r v.s chains))

pub returns : goal.returns
returns c =
    let a = c.args in
    let v = c.loop-s in
    let z : v.s ≡ 64 = omega arith in
    (v.invariant.1, slots_end a.t.now a.m.now v.m (rw z at v.invariant.2))
