-- `engine_fill::pass::header` meets its contract.
use native.Mathlib.Omega.{arith}
use Rattle.engine_fill.proofs.pass.header.Goals as goal

pub overflow_cast-result : goal.overflow_cast-result
overflow_cast-result c = omega (arith, c.type_inv.m c.args.at)
