-- `explain_session::told::put_refused` meets its contract.
use native.Mathlib.Omega.{arith}
use Rattle.session_print.proofs.LineBytes as line
use Rattle.explain_session.specs.Told.{refused_text}
use Rattle.explain_session.proofs.told.put_refused.Goals as goal

pub put_told-requires : goal.put_told-requires
put_told-requires g c = omega (arith, c.put_place-a.ensures.1)

pub returns : goal.returns
unfolding refused_text
returns g c =
    let head = c.put_place-a.ensures in
    let told = c.put_told.ensures in
    rw (← c.line_of-number.ensures, ← c.saturating_sub.ensures, ← c.part_of-line.ensures.is, ← c.wrong_in.ensures) (line.then_bytes head.0 told.0, omega (arith, head.1, told.1))
