-- `explain::said::put_refusal` meets its contract.
use mathlib.Core.Path.{ap, ◌∙◌}
use native.Mathlib.Omega.{arith}
use Rattle.session_print.proofs.LineBytes as line
use Rattle.explain_parts.specs.Parts.{part_of}
use Rattle.explain_listing.specs.Said.{reasoned, refusal}
use Rattle.explain_listing.proofs.said.put_refusal.Goals as goal

pub put_reasoned-requires : goal.put_reasoned-requires
put_reasoned-requires c =
    (omega (arith, c.put_head-a.ensures.1), c.requires, omega (arith, c.part_of-line.ensures.within, c.requires))

pub returns : goal.returns
unfolding refusal
returns c =
    let head = c.put_head-a.ensures in
    let part = c.part_of-line.ensures in
    let last = c.put_reasoned.ensures in
    let s = c.args.listing.now in
    let is = ap (reasoned s c.args.number c.args.place) (part.is ∙ ap (part_of 10 s) c.saturating_sub.ensures) in
    (line.then_bytes head.0 (line.same_bytes is last.0), omega (arith, head.1, last.1))
