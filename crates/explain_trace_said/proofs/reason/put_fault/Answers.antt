-- `explain_trace_said::reason::put_fault` meets its contract.
use native.Mathlib.Omega.{arith}
use Rattle.listing.specs.Bytes.{bytes_of}
use Rattle.session_print.proofs.LineBytes as line
use Rattle.explain_trace_said.proofs.reason.put_fault.Goals as goal

pub returns-in-Some : goal.returns-in-Some
returns-in-Some g c =
    let spot = c.put_spot-past.ensures in
    let reason = c.put.ensures in
    rw c.in-Some.is (line.then_bytes spot.0 reason.0, omega (arith, spot.1, reason.1))

pub returns-in-None : goal.returns-in-None
unfolding bytes_of
returns-in-None g c = rw c.in-None.is (c.put_text.ensures.0, omega (arith, c.put_text.ensures.1))
