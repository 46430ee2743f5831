-- `found_value` meets its contract: one piece and three by their form, others piece by piece.
use mathlib.Core.Path.{◌≡◌}
use native.Mathlib.Omega.{arith}
use Rattle.engine_values.specs.Values.{found}
use Rattle.engine_evaluate.proofs.Short.{one_piece, one_value}
use Rattle.engine_evaluate.proofs.expression.found_value.Goals as goal

pub operand-requires : goal.operand-requires
operand-requires c =
    let one : c.args.pieces ≡ 1 = omega arith in
    let piece = one_piece (rw one at c.requires) in
    (piece.piece, piece.no_sign)

pub returns-then-pieces-eq1 : goal.returns-then-pieces-eq1
unfolding found
returns-then-pieces-eq1 c =
    let one : c.args.pieces ≡ 1 = omega arith in
    rw one (one_value c.operand.ensures)

pub joined-requires : goal.joined-requires
joined-requires c =
    let three : c.args.pieces ≡ 3 = omega arith in
    rw three at c.requires

pub returns-then-pieces-eq3 : goal.returns-then-pieces-eq3
returns-then-pieces-eq3 c =
    let three : c.args.pieces ≡ 3 = omega arith in
    rw three c.joined.ensures
