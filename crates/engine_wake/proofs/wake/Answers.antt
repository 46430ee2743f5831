-- `engine_wake::wake` meets its contract.
use mathlib.Core.List.{List}
use mathlib.Core.Path.{◌≡◌, ap, ◌∙◌}
use Prim.Native.Nat.{ℕ, suc, ◌+◌}
use native.Mathlib.Omega.{arith}
use Rattle.engine_rows.specs.Ready.{insert_all_lem}
use Rattle.engine_blocks.specs.Blocks.{rows_of}
use Rattle.engine_ready.specs.Slots.{slots_of}
use Rattle.engine_wake.proofs.Waking.{triggered_by}
use Rattle.engine_triggers.specs.Chains.{triggers_at}
use Rattle.engine_wake.specs.Wakes.{triggered_from}
use Rattle.engine_wake.proofs.wake.Goals as goal

pub returns : goal.returns
returns c =
    let a = c.args in
    let m = a.m.now in
    let ss = triggers_at m a.s a.index in
    let next : a.low + 1 ≡ suc a.low = omega arith in
    let whom = ap (λ (k : ℕ). triggered_from (rows_of m) k ss) next ∙ triggered_by (rows_of m) a.low ss in
    (c.wake_from.ensures.0 ∙ ap (λ (l : List ℕ). insert_all_lem (rows_of m) l (slots_of a.q)) whom, c.wake_from.ensures.1)
