-- `evaluate` meets its contract: the number of a value or of none.
use Prim.Native.Nat.{◌<◌}
use native.Mathlib.Omega.{arith}
use Rattle.engine_values.specs.Values.{found}
use Rattle.engine_values.proofs.Values.{value_given, none_given}
use Rattle.engine_evaluate.proofs.expression.evaluate.Goals as goal

pub returns-in-Some : goal.returns-in-Some
unfolding found
returns-in-Some c =
    let small : c.in-Some.v < 4294967296 = omega arith in
    rw c.from.ensures (rw (value_given c.in-Some.v small) c.in-Some.ensures, omega arith)

pub returns-in-None : goal.returns-in-None
unfolding found
returns-in-None c = (rw (none_given 4294967296 (omega arith)) c.in-None.ensures, omega arith)
