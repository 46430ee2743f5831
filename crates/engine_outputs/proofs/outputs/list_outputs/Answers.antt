use Rattle.engine_outputs.proofs.OutputPass.{none_listed, one_more_listed, all_listed}
use Rattle.engine_blocks.specs.Blocks.{environment_of}
use Prim.Native.Nat.{◌+◌}
use mathlib.Core.Path.{◌≡◌}
use native.Mathlib.Omega.{arith}
use borrow.Author.Rules.{rules}
use Rattle.engine_outputs.proofs.outputs.list_outputs.Goals as goal

pub loop-i-init : goal.loop-i-init
loop-i-init c =
    let a = c.args in (
      search rules,
      search rules,
      none_listed (environment_of (a.inputs + a.outputs) a.m.now) a.inputs a.numbers.now a.values.now,
    )

pub loop-i-preserved : goal.loop-i-preserved
loop-i-preserved c =
    let a = c.args in
    let v = c.loop-i in (
      search rules,
      search rules,
      one_more_listed _ (a.inputs + a.outputs) a.m.now (search rules) v.i (search rules) (search rules) (search rules) v.invariant.2 c.list_output-count.ensures,
    )

pub returns : goal.returns
returns c =
    let a = c.args in
    let v = c.loop-i in
    let z : v.i ≡ a.inputs + a.outputs = omega arith in
    all_listed _ (a.inputs + a.outputs) a.m.now (search rules) (rw z at v.invariant.2)
