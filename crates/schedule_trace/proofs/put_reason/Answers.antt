-- `schedule_trace::put_reason` meets its contract.
use native.Mathlib.Omega.{arith}
use Rattle.listing.specs.Bytes.{bytes_of}
use Rattle.session_print.proofs.LineBytes as line
use Rattle.schedule_trace.specs.Reasons.{too_long_lem, no_date, no_window}
use Rattle.schedule_trace.proofs.Saying.{too_long, printed, no_date_lem, no_window_lem}
use Rattle.schedule_trace.proofs.put_reason.Goals as goal

pub returns-then-read-eq-SCHEDULE_BYTES : goal.returns-then-read-eq-SCHEDULE_BYTES
unfolding too_long_lem bytes_of
returns-then-read-eq-SCHEDULE_BYTES c =
    let p = c.put_text.ensures in
    (too_long _ _ c.if-read-eq-SCHEDULE_BYTES.true p.0, omega (arith, p.1))

pub returns-then-line-eq0 : goal.returns-then-line-eq0
returns-then-line-eq0 c = (printed _ _ c.if-read-eq-SCHEDULE_BYTES.false _ c.if-line-eq0.true, omega arith)

pub returns-then-line-eq1 : goal.returns-then-line-eq1
unfolding no_date bytes_of
returns-then-line-eq1 c =
    let name = c.put_figure-b.ensures in
    let first = c.put_text-a.ensures in
    let rest = c.put_text-then-line-eq1.ensures in
    (no_date_lem _ _ c.if-read-eq-SCHEDULE_BYTES.false c.if-line-eq0.false c.if-line-eq1.true (line.then_bytes first.0 (line.then_bytes name.0 rest.0)), omega (arith, first.1, name.1, rest.1))

pub returns : goal.returns
unfolding no_window bytes_of
returns c =
    let name = c.put_figure-b.ensures in
    let first = c.put_text-a.ensures in
    let rest = c.put_text-2.ensures in
    (no_window_lem _ _ c.if-read-eq-SCHEDULE_BYTES.false c.if-line-eq0.false c.if-line-eq1.false (line.then_bytes first.0 (line.then_bytes name.0 rest.0)), omega (arith, first.1, name.1, rest.1))
