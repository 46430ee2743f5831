-- `session_print::put_end_line` meets its contract.
use native.Mathlib.Omega.{arith}
use Rattle.session_print.proofs.LineBytes as line
use Rattle.session_print.proofs.lines.put_end_line.Goals as goal

pub returns : goal.returns
returns c =
    let a = c.args in
    let front = rw c.from.ensures at c.put_front-a.ensures in
    let second = c.put_figure-b.ensures in (
      line.same_bytes (line.end_line_is a.code a.moment)
          (line.then_bytes front.0
          (line.then_bytes second.0
          (line.one_byte c.put_figure-b.new.out c.put_figure-b.result 10 _ c.put_byte.ensures))),
      omega (arith, front.1, second.1),
    )
