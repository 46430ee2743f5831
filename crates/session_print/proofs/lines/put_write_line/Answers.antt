-- `session_print::put_write_line` meets its contract.
use native.Mathlib.Omega.{arith}
use Rattle.session_print.proofs.LineBytes as line
use Rattle.session_print.proofs.lines.put_write_line.Goals as goal

pub returns : goal.returns
returns c =
    let a = c.args in
    let front = c.put_front-a.ensures in
    let second = rw c.from.ensures at c.put_figure-b.ensures in
    let third = c.put_signed-c.ensures in (
      line.same_bytes (line.write_line_is (record { moment = a.moment; number = a.number; value = a.value }))
          (line.then_bytes front.0
          (line.then_bytes second.0
          (line.then_bytes (line.one_byte c.put_figure-b.new.out c.put_figure-b.result 9 _ c.put_byte.ensures)
          (line.then_bytes third.0
          (line.one_byte c.put_signed-c.new.out c.put_signed-c.result 10 _ c.put_byte-2.ensures))))),
      omega (arith, front.1, second.1, third.1),
    )
