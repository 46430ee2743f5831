-- `joined` meets its contract: by the form two pieces add a value and the third is a sign.
use native.Mathlib.Omega.{arith}
use Rattle.engine_evaluate.proofs.Short.{three_pieces, three_value}
use Rattle.engine_evaluate.proofs.expression.joined.Goals as goal

pub operand-left-requires : goal.operand-left-requires
operand-left-requires c =
    let first = (three_pieces c.requires).first in
    (first.piece, first.no_sign)

pub overflow_add-cells : goal.overflow_add-cells
overflow_add-cells c = omega (arith, c.requires.inside)

pub operand-right-requires : goal.operand-right-requires
operand-right-requires c =
    let second = (three_pieces c.requires).second in
    (second.piece, second.no_sign)

pub overflow_add-cells-2 : goal.overflow_add-cells-2
overflow_add-cells-2 c = omega (arith, c.requires.inside)

pub bounds-t-cells : goal.bounds-t-cells
bounds-t-cells c = omega (arith, c.requires.inside)

pub sign-requires : goal.sign-requires
sign-requires c = (three_pieces c.requires).third

pub returns : goal.returns
returns c = rw c.sign.ensures (three_value c.operand-left.ensures c.operand-right.ensures (three_pieces c.requires).third)
