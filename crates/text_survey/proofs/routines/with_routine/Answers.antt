-- `text_survey::with_routine` meets its contract.
use borrow.Author.Tests.{lt-ltb, le-ltb}
use Rattle.text_survey.proofs.routines.with_routine.Goals as goal

pub returns-then-survey-ge64 : goal.returns-then-survey-ge64
returns-then-survey-ge64 c = rw (le-ltb c.args.survey.routines 64 c.if-survey-ge64.true)

pub returns : goal.returns
returns c = rw (lt-ltb c.args.survey.routines 64 c.if-survey-ge64.false, ← c.few.ensures, c.from-at.ensures)
