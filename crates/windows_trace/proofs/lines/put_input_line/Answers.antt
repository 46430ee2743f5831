-- `windows_trace::put_input_line` meets its contract.
use native.Mathlib.Omega.{arith}
use Rattle.session_print.proofs.LineBytes as line
use Rattle.windows_trace.proofs.PutLines.{input_line_is}
use Rattle.windows_trace.proofs.lines.put_input_line.Goals as goal

pub returns : goal.returns
returns c =
    let second = c.put_field-c in
    let letter = c.put_letter-a.ensures in
    let a = c.args in (
      line.same_bytes (input_line_is (record { moment = a.moment; input = a.input; value = a.value }))
          (line.then_bytes letter.0 (line.then_bytes c.put_field-b.ensures.0 (line.then_bytes (rw c.from.ensures at second.ensures.0) (rw c.from-2.ensures at c.put_field.ensures.0)))),
      omega (arith, letter.1, c.put_field-b.ensures.1, second.ensures.1, c.put_field.ensures.1),
    )
