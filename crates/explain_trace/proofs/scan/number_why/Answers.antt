-- `explain_trace::scan::number_why` meets its contract.
use borrow.Author.Tests.{lt-ltb, le-ltb, le-leb, lt-leb}
use Rattle.explain_trace.specs.Scans.{number_why}
use Rattle.explain_trace.proofs.scan.number_why.Goals as goal

pub returns-then-number-inputs : goal.returns-then-number-inputs
unfolding number_why
returns-then-number-inputs c = rw (le-ltb _ _ c.if-number-inputs.true)

pub returns-then-number-least : goal.returns-then-number-least
unfolding number_why
returns-then-number-least c = rw (lt-ltb _ _ c.if-number-inputs.false, lt-leb _ _ c.if-number-least.true)

pub returns : goal.returns
unfolding number_why
returns c = rw (lt-ltb _ _ c.if-number-inputs.false, le-leb _ _ c.if-number-least.false)
