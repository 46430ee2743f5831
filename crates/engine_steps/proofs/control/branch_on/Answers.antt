-- `engine_steps::control::branch_on` meets its contract.
use mathlib.Core.Path.{◌≡◌, sym, ap, ◌∙◌}
use Prim.Native.Nat.{suc, ◌+◌, ◌<◌}
use native.Mathlib.Numerals.{add-one}
use native.Mathlib.Omega.{arith}
use lib.Dec.{eqb}
use borrow.Author.Rules.{rules}
use borrow.Author.Tests.{eq-eqb, ne_eqb}
use Rattle.table.specs.Decode.{pieces_at}
use Rattle.engine_rows.specs.Rows.{Row}
use Rattle.engine_blocks.specs.Blocks.{rows_of}
use Rattle.engine_values.proofs.Values.{value_given, none_given}
use Rattle.engine_steps.specs.Outcome.{Onwards}
use Rattle.engine_steps.proofs.Going.{branches, branch_fails}
use Rattle.walk.specs.Walk.{branch_place}
use Rattle.engine_steps.proofs.control.branch_on.Goals as goal

pub returns-then-condition-ge-NO_VALUE : goal.returns-then-condition-ge-NO_VALUE
unfolding Onwards
returns-then-condition-ge-NO_VALUE c =
    λ listing moment.
    let a = c.args in
    let v = c.evaluate-condition.result in
    branch_fails listing moment _ _ (pieces_at a.t.now a.cells a.pieces) a.k (rw (none_given v c.if-condition-ge-NO_VALUE.true) at c.evaluate-condition.ensures.0)

pub returns-then-condition-eq0 : goal.returns-then-condition-eq0
unfolding branch_place
returns-then-condition-eq0 c =
    λ listing moment.
    let a = c.args in
    let v = c.evaluate-condition.result in
    let small : v < 4294967296 = omega (arith, c.if-condition-ge-NO_VALUE.false) in
    let here : branch_place (eqb v 0) a.k (suc (rows_of a.m.now a.me).place) ≡ a.k = rw (eq-eqb v 0 c.if-condition-eq0.true) in
    branches listing moment _ _ (pieces_at a.t.now a.cells a.pieces) a.k v a.k (rw (value_given v small) at c.evaluate-condition.ensures.0) here
    (c.jump_on.ensures listing moment)

pub returns : goal.returns
unfolding branch_place
returns c =
    λ listing moment.
    let a = c.args in
    let pre = c.requires in
    let v = c.evaluate-condition.result in
    let small : v < 4294967296 = omega (arith, c.if-condition-ge-NO_VALUE.false) in
    let here : branch_place (eqb v 0) a.k (suc (rows_of a.m.now a.me).place) ≡ a.place + 1 =
    rw (ne_eqb v 0 c.if-condition-eq0.false, add-one) (ap suc (sym pre.0.here)) in
    branches listing moment _ _ (pieces_at a.t.now a.cells a.pieces) a.k v (a.place + 1) (rw (value_given v small) at c.evaluate-condition.ensures.0) here
    (c.jump_on-2.ensures listing moment)
