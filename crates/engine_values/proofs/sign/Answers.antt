-- `sign` meets its contract: a sign's number is 3 or 4, 5 or 6, 7 or 8.
use mathlib.Core.Path.{sym}
use Rattle.engine_values.specs.Values.{found}
use Rattle.engine_values.proofs.sign.Goals as goal

pub returns-then-kind-le-MINUS : goal.returns-then-kind-le-MINUS
unfolding found
returns-then-kind-le-MINUS c = sym c.sum.ensures

pub returns-then-kind-le-LESS : goal.returns-then-kind-le-LESS
unfolding found
returns-then-kind-le-LESS c = sym c.product.ensures
