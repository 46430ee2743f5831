-- `schedule_calendar::is_real_date` meets its contract.
use borrow.Author.Tests.{le-leb, lt-leb}
use Rattle.schedule.specs.Calendar.{is_real_date}
use Rattle.schedule_calendar.proofs.is_real_date.Goals as goal
use Rattle.schedule_calendar.proofs.is_real_date.Goals.{then-date-lt-FIRST_YEAR-via-then-date-lt-FIRST_YEAR, then-date-lt-FIRST_YEAR-via-else-date-lt-FIRST_YEAR+then-date-gt-LAST_YEAR, then-date-lt1-via-then-date-lt1, then-date-lt1-via-else-date-lt1+then-date-gt-MONTHS}

pub returns-then-date-lt-FIRST_YEAR : goal.returns-then-date-lt-FIRST_YEAR
unfolding is_real_date
returns-then-date-lt-FIRST_YEAR c =
    elim c.then-date-lt-FIRST_YEAR.branch [
      | then-date-lt-FIRST_YEAR-via-then-date-lt-FIRST_YEAR w ↦ rw (lt-leb 2000 _ w.if-date-lt-FIRST_YEAR.true)
      | then-date-lt-FIRST_YEAR-via-else-date-lt-FIRST_YEAR+then-date-gt-LAST_YEAR w ↦ rw (le-leb 2000 _ w.if-date-lt-FIRST_YEAR.false, lt-leb _ 2199 w.if-date-gt-LAST_YEAR.true)
    ]

pub returns-then-date-lt1 : goal.returns-then-date-lt1
unfolding is_real_date
returns-then-date-lt1 c =
    elim c.then-date-lt1.branch [
      | then-date-lt1-via-then-date-lt1 w ↦ rw (le-leb 2000 _ c.if-date-lt-FIRST_YEAR.false, le-leb _ 2199 c.if-date-gt-LAST_YEAR.false, lt-leb 1 _ w.if-date-lt1.true)
      | then-date-lt1-via-else-date-lt1+then-date-gt-MONTHS w ↦
          rw (le-leb 2000 _ c.if-date-lt-FIRST_YEAR.false, le-leb _ 2199 c.if-date-gt-LAST_YEAR.false, le-leb 1 _ w.if-date-lt1.false, lt-leb _ 12 w.if-date-gt-MONTHS.true)
    ]

pub returns-then-date-ge1 : goal.returns-then-date-ge1
unfolding is_real_date
returns-then-date-ge1 c =
    rw (c.month_days.ensures.0, le-leb 2000 _ c.if-date-lt-FIRST_YEAR.false, le-leb _ 2199 c.if-date-gt-LAST_YEAR.false, le-leb 1 _ c.if-date-lt1.false, le-leb _ 12 c.if-date-gt-MONTHS.false, le-leb 1 _ c.if-date-ge1.true)

pub returns-else-date-ge1 : goal.returns-else-date-ge1
unfolding is_real_date
returns-else-date-ge1 c =
    rw (le-leb 2000 _ c.if-date-lt-FIRST_YEAR.false, le-leb _ 2199 c.if-date-gt-LAST_YEAR.false, le-leb 1 _ c.if-date-lt1.false, le-leb _ 12 c.if-date-gt-MONTHS.false, lt-leb 1 _ c.if-date-ge1.false)
