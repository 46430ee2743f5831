-- `explain_there::around::names_on` meets its contract.
use native.Mathlib.Omega.{arith}
use Rattle.explain_there.proofs.around.names_on.Goals as goal

pub overflow_add-result : goal.overflow_add-result
overflow_add-result c = record { fits = omega (arith, c.kinds_count.ensures.1, c.locals_on.ensures.1, c.part_of.ensures.within, c.requires) }

pub returns : goal.returns
returns c = rw (c.kinds_count.ensures.0, c.part_of.ensures.is, c.locals_on.ensures.0)
