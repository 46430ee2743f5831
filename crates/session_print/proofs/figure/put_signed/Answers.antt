-- `session_print::put_signed` meets its contract.
use native.Mathlib.Omega.{arith}
use Rattle.session_print.proofs.LineBytes as line
use Rattle.session_print.proofs.figure.put_signed.Goals as goal

pub returns-then-word-lt-HALF : goal.returns-then-word-lt-HALF
returns-then-word-lt-HALF c =
    let a = c.args in
    let e = rw c.from.ensures at c.put_figure.ensures in (
      line.same_bytes (line.signed_low a.word (omega (arith, c.if-word-lt-HALF.true))) e.0,
      omega (arith, e.1),
    )

pub returns : goal.returns
returns c =
    let a = c.args in
    let e = rw c.from-2.ensures at c.put_figure-2.ensures in (
      line.same_bytes (line.signed_high a.word (omega (arith, c.if-word-lt-HALF.false)))
          (line.then_bytes (line.one_byte a.out.now a.at 45 _ c.put_byte.ensures) e.0),
      omega (arith, e.1),
    )
