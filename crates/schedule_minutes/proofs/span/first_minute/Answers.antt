-- `schedule_minutes::first_minute` meets its contract.
use Rattle.schedule_minutes.proofs.Whole as whole
use Rattle.schedule_minutes.proofs.span.first_minute.Goals as goal

pub returns-then-moment-eq0 : goal.returns-then-moment-eq0
returns-then-moment-eq0 c = rw (whole.from_start _ c.if-moment-eq0.true) c.later_moment.ensures

pub returns-then-past-eq0 : goal.returns-then-past-eq0
returns-then-past-eq0 c = rw (whole.on_minute _ c.if-moment-eq0.false c.if-past-eq0.true) c.later_moment-then-past-eq0.ensures

pub returns : goal.returns
returns c = rw (whole.in_minute _ c.if-moment-eq0.false c.if-past-eq0.false) c.later_moment-2.ensures
