-- `text_main::is_stated` meets its contract.
use borrow.Author.Tests.{not-true, not-false}
use Rattle.text_main.proofs.StatedLaws as laws
use Rattle.text_main.proofs.main_routine.is_stated.Goals as goal

pub returns-then-not-here : goal.returns-then-not-here
returns-then-not-here c = rw (not-true c.args.here.unopened c.if-not-here.true)

pub returns-then-arguments-here : goal.returns-then-arguments-here
returns-then-arguments-here c =
    let a = c.args in
    laws.too_few a.here a.arguments a.stated (not-false a.here.unopened c.if-not-here.false) c.if-arguments-here.true

pub returns-then-arguments-here-2 : goal.returns-then-arguments-here-2
returns-then-arguments-here-2 c =
    let a = c.args in
    laws.as_many a.here a.arguments a.stated (not-false a.here.unopened c.if-not-here.false) c.if-arguments-here.false c.if-arguments-here-2.true

pub returns : goal.returns
returns c =
    let a = c.args in
    laws.other_many a.here a.arguments a.stated (not-false a.here.unopened c.if-not-here.false) c.if-arguments-here.false c.if-arguments-here-2.false
