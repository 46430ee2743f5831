-- `explain_said::spot::put_spot` meets its contract.
use native.Mathlib.Omega.{arith}
use Rattle.listing.specs.Bytes.{bytes_of}
use Rattle.session_print.proofs.LineBytes as line
use Rattle.explain_said.specs.Spots.{spot_text}
use Rattle.explain_said.proofs.Saying as saying
use Rattle.explain_said.proofs.spot.put_spot.Goals as goal

pub returns-in-Line : goal.returns-in-Line
unfolding spot_text
returns-in-Line c = rw c.in-Line.is (saying.none_put _ _, omega arith)

pub returns-in-Field : goal.returns-in-Field
unfolding spot_text bytes_of
returns-in-Field c =
    let field = c.put_field-a.ensures in
    let last = c.put_text.ensures in
    rw c.in-Field.is (line.then_bytes field.0 last.0, omega (arith, field.1, last.1))

pub returns-in-Piece : goal.returns-in-Piece
unfolding spot_text bytes_of
returns-in-Piece c =
    let field = c.put_field-a-in-Piece.ensures in
    let piece = c.put_numbered-b.ensures in
    let last = c.put_text-in-Piece.ensures in
    rw c.in-Piece.is (line.then_bytes field.0 (line.then_bytes piece.0 last.0), omega (arith, field.1, piece.1, last.1))
