-- `engine_fill::pass::fill_rows` meets its contract.
use mathlib.Core.Path.{subst}
use Prim.Native.Nat.{ℕ, ◌<◌}
use native.Mathlib.Omega.{arith}
use Rattle.engine_fill.proofs.Passes.{pass_start, pass_end}
use Rattle.engine_fill.proofs.PassSteps.{slot_small, level_small, may_fill_now, pass_turn}
use Rattle.engine_fill.proofs.pass.fill_rows.Goals as goal

pub header-n-requires : goal.header-n-requires
header-n-requires c = omega (arith, c.requires.size)

pub loop-k-init : goal.loop-k-init
loop-k-init c = pass_start c.requires

pub overflow_add-k : goal.overflow_add-k
overflow_add-k c = omega (arith, c.requires.few, c.header-n.ensures, c.loop-k-test.true)

pub header-s-requires : goal.header-s-requires
header-s-requires c = omega (arith, c.requires.few, c.header-n.ensures, c.loop-k-test.true, c.loop-k.invariant.outside.size, c.requires.size)

pub level-level-requires : goal.level-level-requires
level-level-requires c =
    let G = c.loop-k.invariant in
    let more = subst (λ (x : ℕ). c.loop-k.k < x) c.header-n.ensures c.loop-k-test.true in
    (omega (arith, c.requires.size, G.outside.size), slot_small c.requires G more _ c.header-s.ensures)

pub bounds-above-level : goal.bounds-above-level
bounds-above-level c =
    let G = c.loop-k.invariant in
    let more = subst (λ (x : ℕ). c.loop-k.k < x) c.header-n.ensures c.loop-k-test.true in
    omega (arith, G.size, level_small c.requires G more _ c.header-s.ensures _ c.level-level.ensures)

pub fill_slot-requires : goal.fill_slot-requires
fill_slot-requires c =
    let G = c.loop-k.invariant in
    let more = subst (λ (x : ℕ). c.loop-k.k < x) c.header-n.ensures c.loop-k-test.true in
    (c.requires.table, omega (arith, c.requires.size, G.outside.size), may_fill_now c.requires G more _ c.header-s.ensures _ c.level-level.ensures _ c.byte_number-p.ensures)

pub overflow_cast-above : goal.overflow_cast-above
overflow_cast-above c =
    let G = c.loop-k.invariant in
    let more = subst (λ (x : ℕ). c.loop-k.k < x) c.header-n.ensures c.loop-k-test.true in
    omega (arith, slot_small c.requires G more _ c.header-s.ensures)

pub overflow_add-above : goal.overflow_add-above
overflow_add-above c =
    let G = c.loop-k.invariant in
    let more = subst (λ (x : ℕ). c.loop-k.k < x) c.header-n.ensures c.loop-k-test.true in
    omega (arith, level_small c.requires G more _ c.header-s.ensures _ c.level-level.ensures)

pub bounds-above-level-in-loop-k : goal.bounds-above-level-in-loop-k
bounds-above-level-in-loop-k c =
    let G = c.loop-k.invariant in
    let more = subst (λ (x : ℕ). c.loop-k.k < x) c.header-n.ensures c.loop-k-test.true in
    omega (arith, G.size, level_small c.requires G more _ c.header-s.ensures _ c.level-level.ensures)

pub loop-k-preserved : goal.loop-k-preserved
loop-k-preserved c =
    let G = c.loop-k.invariant in
    let more = subst (λ (x : ℕ). c.loop-k.k < x) c.header-n.ensures c.loop-k-test.true in
    pass_turn c.requires G more _ c.header-s.ensures _ c.level-level.ensures _ c.byte_number-p.ensures c.fill_slot.ensures

pub shape_of-m : goal.shape_of-m
shape_of-m c = c.loop-k.invariant.outside.size

pub returns : goal.returns
returns c = pass_end c.requires c.loop-k.invariant (omega (arith, c.header-n.ensures, c.loop-k-test.false))
