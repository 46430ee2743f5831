-- `explain_listing::said::put_reasoned` meets its contract.
use mathlib.Core.Path.{ap}
use native.Mathlib.Omega.{arith}
use Rattle.listing.specs.Bytes.{bytes_of}
use Rattle.session_print.proofs.LineBytes as line
use Rattle.explain_said.specs.Spots.{fault_text}
use Rattle.explain_listing.specs.Said.{reasoned}
use Rattle.explain_listing.proofs.said.put_reasoned.Goals as goal

pub returns : goal.returns
unfolding reasoned bytes_of
returns c =
    let fault = c.put_fault-a.ensures in
    let next = c.put_text-b.ensures in
    let shown = c.put_shown-c.ensures in
    let rule = c.put_question.ensures in
    let is = ap (fault_text c.args.line.now) c.reason_at-fault.ensures in
    (line.then_bytes (line.same_bytes is fault.0) (line.then_bytes next.0 (line.then_bytes shown.0 rule.0)), omega (arith, fault.1, next.1, shown.1, rule.1))
