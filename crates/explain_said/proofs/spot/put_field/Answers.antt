-- `explain_said::spot::put_field` meets its contract.
use native.Mathlib.Omega.{arith}
use Rattle.listing.specs.Bytes.{bytes_of}
use Rattle.session_print.proofs.LineBytes as line
use Rattle.explain_said.specs.Spots.{field_text}
use Rattle.explain_said.proofs.spot.put_field.Goals as goal

pub returns : goal.returns
unfolding field_text bytes_of
returns c =
    let first = c.put_text-a.ensures in
    let number = c.put_figure.ensures in
    (line.then_bytes first.0 number.0, omega (arith, first.1, number.1))
