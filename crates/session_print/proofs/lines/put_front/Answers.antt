-- `session_print::put_front` meets its contract.
use native.Mathlib.Omega.{arith}
use Prim.Native.Nat.{◌+◌}
use Rattle.session_print.proofs.LineBytes as line
use Rattle.session_print.proofs.lines.put_front.Goals as goal

pub returns : goal.returns
returns c =
    let a = c.args in
    let figure = c.put_figure-a.ensures in (
      line.then_bytes (line.one_byte a.out.now a.at a.letter _ c.put_byte.ensures)
          (line.then_bytes (line.one_byte c.put_byte.new.out (a.at + 1) 9 _ c.put_byte-2.ensures)
          (line.then_bytes (line.put_at_lem (omega arith) figure.0)
          (line.one_byte c.put_figure-a.new.out c.put_figure-a.result 9 _ c.put_byte-3.ensures))),
      omega (arith, figure.1),
    )
