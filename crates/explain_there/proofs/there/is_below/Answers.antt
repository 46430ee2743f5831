-- `explain_there::there::is_below` meets its contract.
use Rattle.explain_there.proofs.there.is_below.Goals as goal

pub returns-in-Value : goal.returns-in-Value
returns-in-Value c = rw c.in-Value.is

pub returns-in-Mark : goal.returns-in-Mark
returns-in-Mark c = rw c.in-Mark.is
