-- `explain_said::spot::put_numbered` meets its contract.
use mathlib.Core.Path.{ap, ◌∙◌}
use Prim.Native.Nat.{ℕ}
use mathlib.Core.List.{List}
use native.Mathlib.Omega.{arith}
use Rattle.listing.specs.Bytes.{bytes_of}
use Rattle.session_print.proofs.LineBytes as line
use Rattle.explain_parts.specs.Parts.{part_of}
use Rattle.explain_said.specs.Spots.{piece_text, numbered_text}
use Rattle.explain_said.proofs.spot.put_numbered.Goals as goal

pub returns : goal.returns
unfolding numbered_text bytes_of
returns c =
    let a = c.args in
    let first = c.put_text-a.ensures in
    let number = c.put_figure-b.ensures in
    let last = c.put_piece.ensures in
    let is = ap (λ (f : List ℕ). piece_text f a.piece) (c.part_of-whole.ensures.is ∙ ap (part_of 9 a.line.now) c.saturating_sub.ensures) in
    (line.then_bytes first.0 (line.then_bytes number.0 (line.same_bytes is last.0)), omega (arith, first.1, number.1, last.1))
