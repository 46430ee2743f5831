-- `windows::list_windows` meets its contract.
use mathlib.Core.Path.{sym, ◌∙◌}
use Rattle.schedule_laws.proofs.Places as places
use Rattle.schedule_minutes.proofs.Agree.{spans_agree}
use Rattle.windows.proofs.Answers as answers
use Rattle.windows.proofs.Weeks as weeks
use Rattle.windows.proofs.call.list_windows.Goals as goal

pub returns-then-line-ne0 : goal.returns-then-line-ne0
returns-then-line-ne0 c =
    let a = c.args in
    answers.out_of_form_lem a.schedule.now a.from a.to _ _ _ (places.refused a.schedule.now (λ e. c.if-line-ne0.true (c.read_schedule-line.ensures.line_is_lem ∙ e))) _ c.refused.ensures

pub returns : goal.returns
returns c =
    let a = c.args in
    let text = a.schedule.now in
    let read = c.read_schedule-line.ensures in
    let form = places.passes text (sym read.line_is_lem ∙ c.if-line-ne0.false) in
    answers.in_form text a.from a.to _ _ _ form.schedule _ form.form.reads (spans_agree form.schedule _ (weeks.week_tells text form.schedule _ form.form read.week_is) a.from a.to)
    c.list_span.ensures
