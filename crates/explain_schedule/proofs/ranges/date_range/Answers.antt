-- `explain_schedule::ranges::date_range` meets its contract.
use borrow.Author.Tests.{le-leb, lt-leb}
use Rattle.explain_schedule.specs.Ranges.{date_range}
use Rattle.explain_schedule.proofs.ranges.date_range.Goals as goal

pub returns-then-year-lt-FIRST_YEAR : goal.returns-then-year-lt-FIRST_YEAR
unfolding date_range
returns-then-year-lt-FIRST_YEAR c = rw (lt-leb 2000 _ c.if-year-lt-FIRST_YEAR.true, c.outside.ensures)

pub returns-then-year-gt-LAST_YEAR : goal.returns-then-year-gt-LAST_YEAR
unfolding date_range
returns-then-year-gt-LAST_YEAR c = rw (le-leb 2000 _ c.if-year-lt-FIRST_YEAR.false, lt-leb _ 2199 c.if-year-gt-LAST_YEAR.true, c.outside-then-year-gt-LAST_YEAR.ensures)

pub returns-then-month-lt1 : goal.returns-then-month-lt1
unfolding date_range
returns-then-month-lt1 c = rw (le-leb 2000 _ c.if-year-lt-FIRST_YEAR.false, le-leb _ 2199 c.if-year-gt-LAST_YEAR.false, lt-leb 1 _ c.if-month-lt1.true, c.outside-then-month-lt1.ensures)

pub returns-then-month-gt-MONTHS : goal.returns-then-month-gt-MONTHS
unfolding date_range
returns-then-month-gt-MONTHS c = rw (le-leb 2000 _ c.if-year-lt-FIRST_YEAR.false, le-leb _ 2199 c.if-year-gt-LAST_YEAR.false, le-leb 1 _ c.if-month-lt1.false, lt-leb _ 12 c.if-month-gt-MONTHS.true, c.outside-then-month-gt-MONTHS.ensures)

pub returns-then-day-lt1 : goal.returns-then-day-lt1
unfolding date_range
returns-then-day-lt1 c =
    rw (le-leb 2000 _ c.if-year-lt-FIRST_YEAR.false, le-leb _ 2199 c.if-year-gt-LAST_YEAR.false, le-leb 1 _ c.if-month-lt1.false, le-leb _ 12 c.if-month-gt-MONTHS.false, lt-leb 1 _ c.if-day-lt1.true, c.outside-then-day-lt1.ensures, c.month_days-days.ensures.0)

pub returns-then-day-days : goal.returns-then-day-days
unfolding date_range
returns-then-day-days c =
    let past = rw c.month_days-days.ensures.0 at c.if-day-days.true in
    rw (le-leb 2000 _ c.if-year-lt-FIRST_YEAR.false, le-leb _ 2199 c.if-year-gt-LAST_YEAR.false, le-leb 1 _ c.if-month-lt1.false, le-leb _ 12 c.if-month-gt-MONTHS.false, le-leb 1 _ c.if-day-lt1.false, lt-leb _ _ past, c.outside-then-day-days.ensures, c.month_days-days.ensures.0)

pub returns : goal.returns
unfolding date_range
returns c =
    let inside = rw c.month_days-days.ensures.0 at c.if-day-days.false in
    rw (le-leb 2000 _ c.if-year-lt-FIRST_YEAR.false, le-leb _ 2199 c.if-year-gt-LAST_YEAR.false, le-leb 1 _ c.if-month-lt1.false, le-leb _ 12 c.if-month-gt-MONTHS.false, le-leb 1 _ c.if-day-lt1.false, le-leb _ _ inside)
