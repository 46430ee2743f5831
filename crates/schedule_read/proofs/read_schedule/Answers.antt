-- `schedule_read::read_schedule` meets its contract.
use mathlib.Core.Path.{sym, ◌∙◌}
use native.Mathlib.Omega.{arith}
use Rattle.schedule_read.proofs.Answers as answers
use Rattle.schedule_read.proofs.Reading as reading
use Rattle.schedule_read.proofs.read_schedule.Goals as goal

pub returns-in_default : goal.returns-in_default
returns-in_default c =
    let s = c.args.s.now in
    reading.dateless s _ c.requires (λ e. answers.date_unread s (record { offset = 0; line = 1 }) (sym c.in_default.is ∙ c.read_date.ensures))

pub returns-then-read-ne10 : goal.returns-then-read-ne10
returns-then-read-ne10 c =
    let date = answers.date_read c.args.s.now (record { offset = 0; line = 1 }) _ (sym c.in-Some.is ∙ c.read_date.ensures) in
    let l = date.0 in
    reading.dateless _ _ c.requires (λ e. absurd (c.if-read-ne10.true (sym l.stop_is_lem ∙ e)))

pub weekday_of-requires : goal.weekday_of-requires
weekday_of-requires c =
    let date = answers.date_read c.args.s.now (record { offset = 0; line = 1 }) _ (sym c.in-Some.is ∙ c.read_date.ensures) in
    date.1

pub read_windows-requires : goal.read_windows-requires
read_windows-requires c =
    let date = answers.date_read c.args.s.now (record { offset = 0; line = 1 }) _ (sym c.in-Some.is ∙ c.read_date.ensures) in
    let closed = answers.past_feed date.0 c.if-read-ne10.false in
    let day = c.weekday_of.ensures in
    (answers.next_within closed (record { inside = omega arith; counted = omega arith }), answers.next_numbered closed, day.1, day.2, c.requires)

pub returns : goal.returns
returns c =
    let date = answers.date_read c.args.s.now (record { offset = 0; line = 1 }) _ (sym c.in-Some.is ∙ c.read_date.ensures) in
    let closed = answers.past_feed date.0 c.if-read-ne10.false in
    reading.dated _ _ _ _ _ closed (rw c.weekday_of.ensures.0 at c.read_windows.ensures)
