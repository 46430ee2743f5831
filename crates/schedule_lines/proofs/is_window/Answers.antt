-- `schedule_lines::is_window` meets its contract.
use borrow.Author.Tests.{lt-ltb, le-ltb, le-leb, lt-leb}
use Rattle.schedule.specs.Schedule.{is_window}
use Rattle.schedule_lines.proofs.is_window.Goals as goal
use Rattle.schedule_lines.proofs.is_window.Goals.{then-window-lt1-via-then-window-lt1, then-window-lt1-via-else-window-lt1+then-window-gt-WEEKDAYS}

pub returns-then-window-ge-INPUTS : goal.returns-then-window-ge-INPUTS
unfolding is_window
returns-then-window-ge-INPUTS c = rw (le-ltb _ 16 c.if-window-ge-INPUTS.true)

pub returns-then-window-lt1 : goal.returns-then-window-lt1
unfolding is_window
returns-then-window-lt1 c =
    elim c.then-window-lt1.branch [
      | then-window-lt1-via-then-window-lt1 w ↦ rw (lt-ltb _ 16 c.if-window-ge-INPUTS.false, lt-leb 1 _ w.if-window-lt1.true)
      | then-window-lt1-via-else-window-lt1+then-window-gt-WEEKDAYS w ↦ rw (lt-ltb _ 16 c.if-window-ge-INPUTS.false, le-leb 1 _ w.if-window-lt1.false, lt-leb _ 7 w.if-window-gt-WEEKDAYS.true)
    ]

pub returns-then-window : goal.returns-then-window
unfolding is_window
returns-then-window c = rw (lt-ltb _ 16 c.if-window-ge-INPUTS.false, le-leb 1 _ c.if-window-lt1.false, le-leb _ 7 c.if-window-gt-WEEKDAYS.false, lt-ltb _ _ c.if-window.true)

pub returns-else-window : goal.returns-else-window
unfolding is_window
returns-else-window c = rw (lt-ltb _ 16 c.if-window-ge-INPUTS.false, le-leb 1 _ c.if-window-lt1.false, le-leb _ 7 c.if-window-gt-WEEKDAYS.false, le-ltb _ _ c.if-window.false)
