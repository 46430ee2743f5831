-- `explain_trace::scan::input_why` meets its contract.
use borrow.Author.Tests.{lt-ltb, le-ltb, eq-eqb, ne_eqb}
use Rattle.explain_trace.specs.Scans.{input_why}
use Rattle.explain_trace.proofs.scan.input_why.Goals as goal

pub returns-then-t-time : goal.returns-then-t-time
unfolding input_why
returns-then-t-time c = rw (lt-ltb _ _ c.if-t-time.true) c.number_why.ensures

pub returns-then-t-time-2 : goal.returns-then-t-time-2
unfolding input_why
returns-then-t-time-2 c = rw (le-ltb _ _ c.if-t-time.false, lt-ltb _ _ c.if-t-time-2.true)

pub returns-then-t-eq0 : goal.returns-then-t-eq0
unfolding input_why
returns-then-t-eq0 c = rw (le-ltb _ _ c.if-t-time.false, le-ltb _ _ c.if-t-time-2.false, eq-eqb _ 0 c.if-t-eq0.true)

pub returns : goal.returns
unfolding input_why
returns c = rw (le-ltb _ _ c.if-t-time.false, le-ltb _ _ c.if-t-time-2.false, ne_eqb _ 0 c.if-t-eq0.false) c.number_why-2.ensures
