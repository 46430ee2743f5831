-- `table_read::head_after` meets its contract.
use mathlib.Core.Path.{◌≡◌, refl, sym, ap, subst, ◌∙◌}
use Prim.Native.Nat.{ℕ, ◌+◌, ◌≤◌}
use native.Mathlib.Numerals.{add-one}
use native.Mathlib.Omega.{arith}
use Rattle.table.specs.Decode.{head_after, after_call}
use Rattle.table.proofs.Reach.{head_after_next}
use Rattle.table_read.proofs.head_after.Goals as goal

pub loop-init : goal.loop-init
unfolding head_after
loop-init c = refl

pub next_head-head-requires : goal.next_head-head-requires
next_head-head-requires c =
    let v = c.loop in
    (c.requires.0, subst (λ (a : ℕ). a + 2 ≤ 12288) (sym v.invariant) (c.requires.1 v.counter c.loop-test.true))

pub loop-preserved : goal.loop-preserved
loop-preserved c =
    let v = c.loop in
    let a = c.args in
    c.next_head-head.ensures ∙ (ap (after_call a.t.now) v.invariant ∙ (sym (head_after_next a.t.now a.first v.counter) ∙ ap (head_after a.t.now a.first) (sym (add-one v.counter))))

pub returns : goal.returns
returns c =
    let v = c.loop in
    let z : v.counter ≡ c.args.k = omega arith in
    v.invariant ∙ ap (head_after c.args.t.now c.args.first) z
