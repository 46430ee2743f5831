-- `explain::said::put_question` meets its contract.
use native.Mathlib.Omega.{arith}
use Rattle.listing.specs.Bytes.{bytes_of}
use Rattle.session_print.proofs.LineBytes as line
use Rattle.explain_listing.specs.Said.{question_line}
use Rattle.explain_listing.proofs.said.put_question.Goals as goal

pub returns : goal.returns
unfolding question_line bytes_of
returns c =
    let first = c.put_text-a.ensures in
    let number = c.put_figure-b.ensures in
    let colon = c.put_text-c.ensures in
    let rule = c.put_rule.ensures in
    (line.then_bytes first.0 (line.then_bytes number.0 (line.then_bytes colon.0 rule.0)), omega (arith, first.1, number.1, colon.1, rule.1))
