-- `explain_schedule::ranges::window_range` meets its contract.
use borrow.Author.Tests.{lt-ltb, le-ltb, le-leb, lt-leb}
use Rattle.explain_schedule.specs.Ranges.{window_range}
use Rattle.explain_schedule.proofs.ranges.window_range.Goals as goal

pub returns-then-input-ge-INPUTS : goal.returns-then-input-ge-INPUTS
unfolding window_range
returns-then-input-ge-INPUTS c = rw (le-ltb _ 16 c.if-input-ge-INPUTS.true, c.outside.ensures)

pub returns-then-weekday-lt1 : goal.returns-then-weekday-lt1
unfolding window_range
returns-then-weekday-lt1 c = rw (lt-ltb _ 16 c.if-input-ge-INPUTS.false, lt-leb 1 _ c.if-weekday-lt1.true, c.outside-then-weekday-lt1.ensures)

pub returns-then-weekday-gt-WEEKDAYS : goal.returns-then-weekday-gt-WEEKDAYS
unfolding window_range
returns-then-weekday-gt-WEEKDAYS c = rw (lt-ltb _ 16 c.if-input-ge-INPUTS.false, le-leb 1 _ c.if-weekday-lt1.false, lt-leb _ 7 c.if-weekday-gt-WEEKDAYS.true, c.outside-then-weekday-gt-WEEKDAYS.ensures)

pub returns-then-closing-gt-DAY_MINUTES : goal.returns-then-closing-gt-DAY_MINUTES
unfolding window_range
returns-then-closing-gt-DAY_MINUTES c = rw (lt-ltb _ 16 c.if-input-ge-INPUTS.false, le-leb 1 _ c.if-weekday-lt1.false, le-leb _ 7 c.if-weekday-gt-WEEKDAYS.false, lt-leb _ 1440 c.if-closing-gt-DAY_MINUTES.true, c.outside-then-closing-gt-DAY_MINUTES.ensures)

pub returns-then-opening-closing : goal.returns-then-opening-closing
unfolding window_range
returns-then-opening-closing c =
    rw (lt-ltb _ 16 c.if-input-ge-INPUTS.false, le-leb 1 _ c.if-weekday-lt1.false, le-leb _ 7 c.if-weekday-gt-WEEKDAYS.false, le-leb _ 1440 c.if-closing-gt-DAY_MINUTES.false, le-ltb _ _ c.if-opening-closing.true, c.outside-then-opening-closing.ensures)

pub returns : goal.returns
unfolding window_range
returns c =
    rw (lt-ltb _ 16 c.if-input-ge-INPUTS.false, le-leb 1 _ c.if-weekday-lt1.false, le-leb _ 7 c.if-weekday-gt-WEEKDAYS.false, le-leb _ 1440 c.if-closing-gt-DAY_MINUTES.false, lt-ltb _ _ c.if-opening-closing.false)
