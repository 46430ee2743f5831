-- `explain_said::spot::put_piece` meets its contract.
use mathlib.Core.Path.{ap, ◌∙◌}
use native.Mathlib.Omega.{arith}
use Rattle.listing.specs.Bytes.{bytes_of}
use Rattle.session_print.proofs.LineBytes as line
use Rattle.explain_parts.specs.Parts.{part_of}
use Rattle.explain_parts.specs.Shown.{shown}
use Rattle.explain_said.specs.Spots.{piece_text}
use Rattle.explain_said.proofs.spot.put_piece.Goals as goal

pub returns : goal.returns
unfolding piece_text bytes_of
returns c =
    let first = c.put_text-a.ensures in
    let middle = c.put_shown-b.ensures in
    let last = c.put_text.ensures in
    let is = ap (shown 40) (c.part_of-shown.ensures.is ∙ ap (part_of 32 c.args.field.now) c.saturating_sub.ensures) in
    (line.then_bytes first.0 (line.then_bytes (line.same_bytes is middle.0) last.0), omega (arith, first.1, middle.1, last.1))
