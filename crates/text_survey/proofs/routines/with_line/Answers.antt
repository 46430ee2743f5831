-- `text_survey::with_line` meets its contract.
use Rattle.text_survey.proofs.routines.with_line.Goals as goal

pub with_routine-requires : goal.with_routine-requires
with_routine-requires c = c.requires

pub returns-in-Opens : goal.returns-in-Opens
returns-in-Opens c = rw c.in-Opens.is c.with_routine.ensures
