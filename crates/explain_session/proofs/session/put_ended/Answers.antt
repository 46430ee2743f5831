-- `explain_session::session::put_ended` meets its contract.
use native.Mathlib.Omega.{arith}
use Rattle.listing.specs.Bytes.{bytes_of}
use Rattle.session_print.proofs.LineBytes as line
use Rattle.explain_session.proofs.Telling.{plays, stops, refuses}
use Rattle.explain_session.proofs.session.put_ended.Goals as goal

pub returns-then-code-eq0 : goal.returns-then-code-eq0
unfolding bytes_of
returns-then-code-eq0 c = let p = c.put_plain.ensures in (line.same_bytes (plays _ _ _ _ _ c.if-code-eq0.true) p.0, p.1)

pub returns-then-code-ge-FIRST_STOP : goal.returns-then-code-ge-FIRST_STOP
returns-then-code-ge-FIRST_STOP c = let p = c.put_stopped.ensures in (line.same_bytes (stops _ _ _ _ _ c.if-code-eq0.false c.if-code-ge-FIRST_STOP.true) p.0, p.1)

pub trace_fault-fault-requires : goal.trace_fault-fault-requires
trace_fault-fault-requires c = omega (arith, c.requires.1)

pub returns : goal.returns
returns c = let p = c.put_refused.ensures in (line.same_bytes (refuses _ _ _ _ _ c.if-code-eq0.false c.if-code-ge-FIRST_STOP.false _ _ c.leading_figure-inputs.ensures c.trace_fault-fault.ensures) p.0, p.1)
