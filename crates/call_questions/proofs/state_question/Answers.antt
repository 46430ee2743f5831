-- `call_questions::state_question` meets its contract.
use native.Mathlib.Omega.{arith}
use mathlib.Core.Path.{◌≡◌, sym, ◌∙◌}
use mathlib.Core.Bool.{true, false}
use lib.Dec.{ltb}
use borrow.Author.Tests.{le-ltb, lt-ltb}
use Rattle.machine.specs.Words.{moment_at}
use Rattle.call_arguments.proofs.Asking.{refused_9, refused_10, refused_11, refused_12, none_refused}
use Rattle.call_questions.proofs.state_question.Goals as goal

pub returns-then-moment-present : goal.returns-then-moment-present
returns-then-moment-present c =
    let a = c.args in
    let p = c.present_moment-present.ensures in
    let l : ltb (moment_at a.machine.now 1) a.moment.0 ≡ false = le-ltb (moment_at a.machine.now 1) a.moment.0 (omega arith) in
    λ next. refused_9 _ _ next l

pub returns-then-due_before : goal.returns-then-due_before
returns-then-due_before c =
    let a = c.args in
    let p = c.present_moment-present.ensures in
    let l : ltb (moment_at a.machine.now 1) a.moment.0 ≡ true = lt-ltb (moment_at a.machine.now 1) a.moment.0 (omega arith) in
    λ next. refused_10 _ _ _ _ next l (sym c.due_before.ensures ∙ c.if-due_before.true)

pub returns-then-not-numbers_rise : goal.returns-then-not-numbers_rise
returns-then-not-numbers_rise c =
    let a = c.args in
    let p = c.present_moment-present.ensures in
    let l : ltb (moment_at a.machine.now 1) a.moment.0 ≡ true = lt-ltb (moment_at a.machine.now 1) a.moment.0 (omega arith) in
    λ next. refused_11 _ _ _ _ next l (sym c.due_before.ensures ∙ c.if-due_before.false) (sym c.numbers_rise.ensures ∙ c.if-not-numbers_rise.true)

pub returns-then-not-allowance_fits : goal.returns-then-not-allowance_fits
returns-then-not-allowance_fits c =
    let a = c.args in
    let p = c.present_moment-present.ensures in
    let l : ltb (moment_at a.machine.now 1) a.moment.0 ≡ true = lt-ltb (moment_at a.machine.now 1) a.moment.0 (omega arith) in
    λ next. refused_12 _ _ _ _ next l (sym c.due_before.ensures ∙ c.if-due_before.false) (sym c.numbers_rise.ensures ∙ c.if-not-numbers_rise.false)
    (sym c.allowance_fits.ensures ∙ c.if-not-allowance_fits.true)

pub returns : goal.returns
returns c =
    let a = c.args in
    let p = c.present_moment-present.ensures in
    let l : ltb (moment_at a.machine.now 1) a.moment.0 ≡ true = lt-ltb (moment_at a.machine.now 1) a.moment.0 (omega arith) in
    λ next. none_refused _ _ _ _ next l (sym c.due_before.ensures ∙ c.if-due_before.false) (sym c.numbers_rise.ensures ∙ c.if-not-numbers_rise.false)
    (sym c.allowance_fits.ensures ∙ c.if-not-allowance_fits.false)
