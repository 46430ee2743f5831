-- `text_jumps::read_fork` meets its contract.
use mathlib.Core.Path.{refl, sym, ◌∙◌}
use Prim.Native.Nat.{◌≤◌}
use native.Mathlib.Omega.{arith}
use Rattle.text_piece.specs.Pieces.{cap}
use Rattle.text_jumps.proofs.Chain as chain
use Rattle.text_jumps.proofs.Forks as forks
use Rattle.text_jumps.proofs.fork.read_fork.Goals as goal

pub loop-stop-init : goal.loop-stop-init
loop-stop-init c = forks.forking_begun _ _ c.args.s.now _ _ _ c.requires.0

pub returns-then-count-ge-MOST_CHILDREN : goal.returns-then-count-ge-MOST_CHILDREN
returns-then-count-ge-MOST_CHILDREN c =
    let a = c.args in
    chain.rest_bad _ a.scope _ _ _ (forks.fork_over _ _ a.s.now _ _ _ _ _ _ _ _ _ c.loop-stop.invariant c.loop-stop-test.true c.if-count-ge-MOST_CHILDREN.true)

pub figures_field-requires : goal.figures_field-requires
figures_field-requires c = c.loop-stop.invariant.within

pub returns-in_err-call : goal.returns-in_err-call
returns-in_err-call c =
    let a = c.args in
    c.from_residual.ensures ∙ chain.rest_bad _ a.scope _ _ _ (forks.fork_unread _ a.scope.names a.s.now _ _ _ _ _ _ _ _ _ c.loop-stop.invariant (omega (arith, c.well_formed)) c.loop-stop-test.true (sym c.in_err-call.was ∙ c.figures_field.ensures))

pub overflow_add-count : goal.overflow_add-count
overflow_add-count c = omega (arith, c.loop-stop.invariant.few)

pub overflow_add-pieces : goal.overflow_add-pieces
overflow_add-pieces c =
    let a = c.args in
    let s = a.s.now in
    let v = c.loop-stop in
    let small : a.scope.names ≤ cap = omega (arith, c.well_formed) in
    let g = chain.figures_got s _ _ a.scope.names small v.invariant.within _ (sym c.in_ok-call.was ∙ c.figures_field.ensures) in
    let f = forks.fork_sum _ _ s _ _ _ _ _ _ _ _ _ v.invariant _ _ _ g.0 g.1 g.2 g.4 in
    omega (arith, c.well_formed)

pub loop-stop-smaller : goal.loop-stop-smaller
loop-stop-smaller c = omega arith

pub loop-stop-preserved : goal.loop-stop-preserved
loop-stop-preserved c =
    let a = c.args in
    let s = a.s.now in
    let v = c.loop-stop in
    let small : a.scope.names ≤ cap = omega (arith, c.well_formed) in
    let g = chain.figures_got s _ _ a.scope.names small v.invariant.within _ (sym c.in_ok-call.was ∙ c.figures_field.ensures) in
    forks.fork_on _ _ s _ _ _ _ _ _ _ _ _ v.invariant _ _ _ g.0 g.1 g.2 g.4 _
    (forks.call_there a.arguments.now c.requires.1 a.scope.names _ g.0 g.1 g.4 ∙ sym c.call_is_there-there.ensures) _ refl (omega arith)

pub returns-then-count-eq0 : goal.returns-then-count-eq0
returns-then-count-eq0 c =
    let a = c.args in
    chain.rest_bad _ a.scope _ _ _ (forks.fork_empty _ _ a.s.now _ _ _ _ _ _ _ _ _ c.loop-stop.invariant c.loop-stop-test.false c.if-count-eq0.true)

pub returns : goal.returns
returns c =
    let a = c.args in
    let s = a.s.now in
    let v = c.loop-stop in
    chain.rest_is_lem _ a.scope s a.place a.stop _ _ _ _ _ (forks.fork_done _ _ s _ _ _ _ _ _ _ _ _ v.invariant c.loop-stop-test.false c.if-count-eq0.false)
    (sym v.invariant.stops ∙ chain.stop_shut s _ _ c.loop-stop-test.false) (sym v.invariant.nexts ∙ chain.next_shut s _ _ c.loop-stop-test.false)
    (forks.fork_record _ _ s _ _ _ _ _ _ _ _ _ v.invariant a.scope refl)
