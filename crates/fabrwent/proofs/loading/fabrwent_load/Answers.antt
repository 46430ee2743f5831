-- `fabrwent::fabrwent_load` meets its contract.
use Rattle.fabrwent.proofs.Told as told
use Rattle.fabrwent.proofs.loading.fabrwent_load.Goals as goal

pub returns : goal.returns
returns c = told.load_told _ _ _ c.load.result c.load.ensures _ c.load_figures.ensures
