-- `schedule_calendar::is_leap` meets its contract.
use borrow.Author.Tests.{eq-eqb, ne_eqb}
use Rattle.schedule.specs.Calendar.{is_leap}
use Rattle.schedule_calendar.proofs.is_leap.Goals as goal

pub returns-then-year-ne0 : goal.returns-then-year-ne0
unfolding is_leap
returns-then-year-ne0 c = rw (eq-eqb _ _ c.if-year-eq0.true, ne_eqb _ _ c.if-year-ne0.true)

pub returns-else-year-ne0 : goal.returns-else-year-ne0
unfolding is_leap
returns-else-year-ne0 c = rw (eq-eqb _ _ c.if-year-eq0.true, eq-eqb _ _ c.if-year-ne0.false)

pub returns-else-year-eq0 : goal.returns-else-year-eq0
unfolding is_leap
returns-else-year-eq0 c = rw (ne_eqb _ _ c.if-year-eq0.false)
