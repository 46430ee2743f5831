-- `explain_said::reason::put_line` meets its contract.
use native.Mathlib.Omega.{arith}
use Rattle.session_print.proofs.LineBytes as line
use Rattle.explain_said.proofs.reason.put_line.Goals as goal

pub returns : goal.returns
returns c =
    let part = c.part_of.ensures in
    (line.same_bytes part.is c.put_text.ensures.0, omega (arith, c.put_text.ensures.1, part.within, c.requires.1))
