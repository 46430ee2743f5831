-- `windows_trace::put_field` meets its contract.
use native.Mathlib.Omega.{arith}
use Rattle.session_print.proofs.LineBytes as line
use Rattle.windows_trace.proofs.lines.put_field.Goals as goal

pub returns : goal.returns
returns c =
    let figure = c.put_figure-a in
    (line.then_bytes figure.ensures.0 (line.one_byte figure.new.out figure.result _ _ c.put_byte.ensures), omega (arith, figure.ensures.1))
