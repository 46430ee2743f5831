-- `explain::said::put_head` meets its contract.
use native.Mathlib.Omega.{arith}
use Rattle.listing.specs.Bytes.{bytes_of}
use Rattle.session_print.proofs.LineBytes as line
use Rattle.explain_listing.specs.Said.{headline}
use Rattle.explain_listing.proofs.said.put_head.Goals as goal

pub returns : goal.returns
unfolding headline bytes_of
returns c =
    let name = c.put_name-a.ensures in
    let colon = c.put_text-b.ensures in
    let place = c.put_figure-c.ensures in
    let last = c.put_text.ensures in
    (line.then_bytes name.0 (line.then_bytes colon.0 (line.then_bytes place.0 last.0)), omega (arith, name.1, colon.1, place.1, last.1))
