-- `session_print::digit_count` meets its contract.
use mathlib.Core.Path.{refl}
use native.Mathlib.Omega.{arith}
use Rattle.session_print.proofs.Decimals as decimals
use Rattle.session_print.proofs.figure.digit_count.Goals as goal

pub loop-rest-init : goal.loop-rest-init
loop-rest-init c = refl

pub overflow_add-count : goal.overflow_add-count
overflow_add-count c = let f = decimals.count_few c.args.n _ c.loop-rest.rest c.ranges.n.fits c.loop-rest.invariant in record { fits = omega arith }

pub loop-rest-preserved : goal.loop-rest-preserved
loop-rest-preserved c = decimals.count_on c.args.n _ _ c.loop-rest.invariant (omega (arith, c.loop-rest-test.true))

pub returns : goal.returns
returns c = (
  decimals.count_done c.args.n _ c.loop-rest.rest c.loop-rest.invariant (omega (arith, c.loop-rest-test.false)),
  decimals.count_few c.args.n _ c.loop-rest.rest c.ranges.n.fits c.loop-rest.invariant,
)
