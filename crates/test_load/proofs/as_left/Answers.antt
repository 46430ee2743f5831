use Rattle.test_load.proofs.Right.{of_loaded_lem, of_refused}
use Rattle.test_load.proofs.as_left.Goals as goal

pub returns-then-number-eq0 : goal.returns-then-number-eq0
returns-then-number-eq0 c = of_loaded_lem c.if-number-eq0.true c.written.ensures

pub returns-else-number-eq0 : goal.returns-else-number-eq0
returns-else-number-eq0 c = of_refused c.args.number c.if-number-eq0.false c.untouched.ensures
