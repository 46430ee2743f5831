-- `windows_trace::put_last_line` meets its contract.
use native.Mathlib.Omega.{arith}
use Rattle.session_print.proofs.LineBytes as line
use Rattle.windows_trace.proofs.PutLines.{last_line_is}
use Rattle.windows_trace.proofs.lines.put_last_line.Goals as goal

pub returns : goal.returns
returns c =
    let letter = c.put_letter-a.ensures in
    let field = c.put_field.ensures in
    (line.same_bytes (last_line_is _) (line.then_bytes letter.0 field.0), omega (arith, letter.1, field.1))
