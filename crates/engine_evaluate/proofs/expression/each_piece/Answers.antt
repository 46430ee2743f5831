-- `each_piece` meets its contract.
use mathlib.Core.Path.{◌≡◌}
use Prim.Native.Nat.{◌+◌, ◌*◌, ◌-◌, ◌<◌}
use native.Mathlib.Omega.{arith}
use borrow.Author.Rules.{rules}
use Rattle.engine_values.specs.Values.{found}
use Rattle.engine_evaluate.proofs.Turns.{first_turn, may_come_lem, next_turn, fails_now, last_turn}
use Rattle.engine_evaluate.proofs.expression.each_piece.Goals as goal

pub loop-k-init : goal.loop-k-init
loop-k-init c =
    let a = c.args in
    let at : a.cells + 2 * 0 ≡ a.cells = omega arith in
    let left : a.pieces - 0 ≡ a.pieces = omega arith in
    rw (at, left) (first_turn _ (search rules) c.requires)

pub piece-requires : goal.piece-requires
piece-requires c =
    let more : 0 < c.args.pieces - c.loop-k.k = omega (arith, c.loop-k-test.true) in
    may_come_lem c.loop-k.invariant more c.requires

pub loop-k-preserved : goal.loop-k-preserved
loop-k-preserved c =
    let a = c.args in
    let k = c.loop-k.k in
    let more : 0 < a.pieces - k = omega (arith, c.loop-k-test.true) in
    let at : a.cells + 2 * k + 2 ≡ a.cells + 2 * (k + 1) = omega arith in
    let left : a.pieces - k - 1 ≡ a.pieces - (k + 1) = omega arith in
    rw (at, left) at (next_turn c.loop-k.invariant more c.in_ok-held.ensures)

pub returns-in_err-held : goal.returns-in_err-held
unfolding found
returns-in_err-held c =
    let more : 0 < c.args.pieces - c.loop-k.k = omega (arith, c.loop-k-test.true) in
    rw c.from_residual.ensures (fails_now c.loop-k.invariant more c.in_err-held.ensures)

pub returns : goal.returns
unfolding found
returns c = last_turn c.loop-k.invariant (omega arith)
