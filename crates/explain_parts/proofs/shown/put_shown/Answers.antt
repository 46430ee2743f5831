-- `explain_parts::shown::put_shown` meets its contract.
use Rattle.std.proofs.Common.{rules}
use Rattle.explain_parts.proofs.Showing.{showing_begun, showing_on, shown_cut, shown_whole}
use Rattle.explain_parts.proofs.shown.put_shown.Goals as goal

pub loop-b-init : goal.loop-b-init
loop-b-init c = showing_begun _ _ _

pub loop-b-preserved : goal.loop-b-preserved
loop-b-preserved c = showing_on c.loop-b.invariant c.loop-b-test.true c.put_escaped-past.ensures

pub returns-then-bytes-most : goal.returns-then-bytes-most
returns-then-bytes-most c = shown_cut _ _ _ (search rules) c.loop-b.invariant c.loop-b-test.false (search rules) c.if-bytes-most.true c.put_byte.ensures c.put_byte-then-bytes-most.ensures

pub returns : goal.returns
returns c = shown_whole _ _ _ (search rules) c.loop-b.invariant c.loop-b-test.false (search rules) c.if-bytes-most.false
