-- `test_cases::report::put_summary` meets its contract.
use native.Mathlib.Omega.{arith}
use Rattle.listing.specs.Bytes.{bytes_of}
use Rattle.session_print.proofs.LineBytes as line
use Rattle.test_cases.proofs.Texts as texts
use Rattle.test_cases.proofs.report.put_summary.Goals as goal

pub returns-then-tally-eq0 : goal.returns-then-tally-eq0
unfolding bytes_of
returns-then-tally-eq0 c =
    let title = c.put_text-a.ensures in
    let second = c.put_figure-b.ensures in
    let third = c.put_text.ensures in
    let said = texts.counted_agree _ _ c.if-tally-eq0.true in
    let puts = line.then_bytes title.0 (line.same_bytes said (line.then_bytes second.0 third.0)) in
    let pre = c.requires in
    (puts, texts.counts puts (omega (arith, title.1, second.1, third.1, pre.0, pre.1)))

pub returns : goal.returns
unfolding bytes_of
returns c =
    let title = c.put_text-a.ensures in
    let second = c.put_figure-b-2.ensures in
    let third = c.put_text-c.ensures in
    let fourth = c.put_figure-d.ensures in
    let fifth = c.put_text-2.ensures in
    let said = texts.counted_fail _ _ c.if-tally-eq0.false in
    let puts = line.then_bytes title.0 (line.same_bytes said (line.then_bytes second.0 (line.then_bytes third.0 (line.then_bytes fourth.0 fifth.0)))) in
    let pre = c.requires in
    (puts, texts.counts puts (omega (arith, title.1, second.1, third.1, fourth.1, fifth.1, pre.0, pre.1)))
