-- `schedule_read::read_windows` meets its contract.
use mathlib.Core.Path.{sym, ◌∙◌}
use native.Mathlib.Omega.{arith}
use Rattle.schedule_read.proofs.Answers as answers
use Rattle.schedule_read.proofs.Reading as reading
use Rattle.schedule_read.proofs.read_windows.Goals as goal

pub loop-at-init : goal.loop-at-init
loop-at-init c = reading.begun _ _ _ _ _ c.requires.0 c.requires.4

pub read_window-requires : goal.read_window-requires
read_window-requires c = c.loop-at.invariant.within

pub returns-in_default : goal.returns-in_default
returns-in_default c =
    let v = c.loop-at in
    let s = c.args.s.now in
    reading.ended _ _ _ _ _ _ _ _ v.invariant _ (reading.ends_unread s _ _ c.loop-at-test.true (answers.window_unread s v.at (sym c.in_default.is ∙ c.read_window.ensures)))

pub returns-then-read-ne10 : goal.returns-then-read-ne10
returns-then-read-ne10 c =
    let v = c.loop-at in
    let s = c.args.s.now in
    let window = answers.window_read s v.at _ (sym c.in-Some.is ∙ c.read_window.ensures) in
    let l = window.0 in
    reading.ended _ _ _ _ _ _ _ _ v.invariant _ (reading.ends_open s _ _ c.loop-at-test.true (λ e. c.if-read-ne10.true (sym l.stop_is_lem ∙ e)))

pub mark_window-requires : goal.mark_window-requires
mark_window-requires c =
    let v = c.loop-at in
    let window = answers.window_read c.args.s.now v.at _ (sym c.in-Some.is ∙ c.read_window.ensures) in
    (c.requires.2, c.requires.3, window.1, v.invariant.week_is.size)

pub loop-at-smaller : goal.loop-at-smaller
loop-at-smaller c =
    let window = answers.window_read c.args.s.now c.loop-at.at _ (sym c.in-Some.is ∙ c.read_window.ensures) in
    let further = answers.next_further (answers.past_feed window.0 c.if-read-ne10.false) in
    omega (arith, c.loop-at-test.true)

pub loop-at-preserved : goal.loop-at-preserved
loop-at-preserved c =
    let v = c.loop-at in
    let window = answers.window_read c.args.s.now v.at _ (sym c.in-Some.is ∙ c.read_window.ensures) in
    reading.passed_on _ _ _ _ _ _ _ _ v.invariant _ _ (answers.past_feed window.0 c.if-read-ne10.false) _ c.mark_window.ensures

pub returns : goal.returns
returns c =
    let v = c.loop-at in
    reading.ended _ _ _ _ _ _ _ _ v.invariant _ (reading.ends_all _ _ _ c.loop-at-test.false)
