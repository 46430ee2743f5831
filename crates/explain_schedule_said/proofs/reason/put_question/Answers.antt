-- `explain_schedule_said::reason::put_question` meets its contract.
use native.Mathlib.Omega.{arith}
use Rattle.session_print.proofs.LineBytes as line
use Rattle.listing.specs.Bytes.{bytes_of}
use Rattle.explain_schedule_said.specs.Reasons.{question_text}
use Rattle.explain_schedule_said.proofs.reason.put_question.Goals as goal

pub returns : goal.returns
unfolding question_text bytes_of
returns c =
    let a = c.put_text-a.ensures in
    let b = c.put_rule.ensures in
    (line.then_bytes a.0 b.0, omega (arith, a.1, b.1))
