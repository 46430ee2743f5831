-- `fabrwent::fabrwent_instant` meets its contract.
use Rattle.fabrwent.proofs.Told as told
use Rattle.fabrwent.proofs.calls.fabrwent_instant.Goals as goal

pub returns : goal.returns
returns c = told.call_told _ _ _ _ _ _ _ _ _ c.instant.ensures _ c.figures_of.ensures
