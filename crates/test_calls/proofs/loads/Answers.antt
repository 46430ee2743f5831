use Rattle.test_calls.proofs.Loading.{it_loads, it_fails}
use Rattle.test_calls.proofs.loads.Goals as goal

pub returns-in-Done : goal.returns-in-Done
returns-in-Done c = it_loads _ _ _ c.load.result c.load.ensures c.in-Done.is

pub returns-in-Refused : goal.returns-in-Refused
returns-in-Refused c = it_fails _ _ _ c.load.result c.load.ensures _ _ c.in-Refused.is
