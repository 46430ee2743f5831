use Rattle.engine_finish.proofs.Clearing.{one_more_cleared}
use Rattle.engine_due.proofs.Passing.{none_mapped}
use Rattle.engine_finish.specs.Ended.{idle_block}
use mathlib.Core.Path.{◌≡◌}
use native.Mathlib.Omega.{arith}
use borrow.Author.Rules.{rules}
use Rattle.engine_finish.proofs.working.clear_slots.Goals as goal

pub loop-s-init : goal.loop-s-init
loop-s-init c = none_mapped idle_block c.args.m.now

pub loop-s-preserved : goal.loop-s-preserved
loop-s-preserved c =
    let v = c.loop-s in
    one_more_cleared _ _ _ v.s (search rules) v.invariant c.clear_block.ensures

pub returns : goal.returns
returns c =
    let v = c.loop-s in
    let z : v.s ≡ 64 = omega arith in
    rw z at v.invariant
