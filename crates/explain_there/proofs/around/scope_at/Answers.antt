-- `explain_there::around::scope_at` meets its contract.
use Rattle.explain_there.proofs.around.scope_at.Goals as goal

pub returns : goal.returns
returns c = rw (c.names_on.ensures, c.part_of.ensures.is, c.around_all-held.ensures)
