-- `fabrwent::fabrwent_alike` meets its contract.
use Rattle.fabrwent.proofs.Told as told
use Rattle.fabrwent.proofs.calls.fabrwent_alike.Goals as goal

pub returns : goal.returns
returns c = told.alike_told _ _ _ _ c.alike.ensures _ c.alike_figures.ensures
