-- `end_step` meets its contract.
use mathlib.Core.Path.{◌≡◌, refl, sym, ap, ◌∙◌}
use Prim.Native.Nat.{ℕ, suc, ◌+◌, ◌-◌, ◌<◌}
use native.Mathlib.Omega.{arith}
use borrow.Author.Rules.{rules}
use Rattle.engine_rows.specs.Rows.{Row, free_row}
use Rattle.engine_blocks.specs.Blocks.{rows_of}
use Rattle.engine_steps.specs.declared.running.Running.{Running}
use Rattle.engine_end_step.proofs.Joining.{may_still_pop, free_awake, freed_place, ends_main, ends_child}
use Rattle.engine_end_step.proofs.ending.end_step.Goals as goal

pub returns-then-level-eq0 : goal.returns-then-level-eq0
returns-then-level-eq0 c =
    λ listing moment.
    let u = c.args.running in
    ends_main u (record { ready = u.ready; live = c.one_less-live.result; woken = u.woken; me = u.me }) c.free.ensures c.requires.slot
    refl c.one_less-live.ensures refl listing moment (sym c.level-level.ensures ∙ c.if-level-eq0.true)

pub join_step-requires : goal.join_step-requires
join_step-requires c =
    let a = c.args in
    let u = a.running in
    let row = rows_of a.m.now u.me in
    let v : Running = record { ready = u.ready; live = c.one_less-live.result; woken = u.woken; me = u.me } in
    let is = c.level-level.ensures in
    let deeper = c.if-level-eq0.false in
    let level : row.level ≡ suc (row.level - 1) = omega (arith, deeper) in
    let up = c.requires.parent (row.level - 1) level in
    let here : c.parent-parent.result ≡ row.parent = c.parent-parent.ensures in (
      may_still_pop (λ (r : Row). free_row) c.free.ensures free_awake u v refl refl c.requires.pops,
      rw here up.0,
      rw here (freed_place c.free.ensures row.parent up.1),
    )

pub returns : goal.returns
returns c =
    λ listing moment.
    let u = c.args.running in
    ends_child u (record { ready = u.ready; live = c.one_less-live.result; woken = u.woken; me = u.me }) c.free.ensures c.requires.slot
    refl c.one_less-live.ensures refl listing moment (λ e. c.if-level-eq0.false (c.level-level.ensures ∙ e))
    (rw c.parent-parent.ensures at c.join_step.ensures)
