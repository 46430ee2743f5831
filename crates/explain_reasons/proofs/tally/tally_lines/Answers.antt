-- `explain_reasons::tally::tally_lines` meets its contract.
use native.Mathlib.Omega.{arith}
use native.Mathlib.Numerals.{unary_clauses}
use Rattle.explain_reasons.proofs.Tallies.{tallying_begun, bounded_small, all_tallied, tallied_last, tallying_on, part_long}
use Rattle.explain_reasons.proofs.tally.tally_lines.Goals as goal

pub loop-done-init : goal.loop-done-init
loop-done-init c = simp unary_clauses (tallying_begun _ _)

pub part_end-end-requires : goal.part_end-end-requires
part_end-end-requires c = c.loop-done.invariant.inside

pub tally_line-held-requires : goal.tally_line-held-requires
tally_line-held-requires c =
    let v = c.loop-done.invariant in
    (bounded_small _ v.bounded (omega (arith, v.inside, c.requires)), part_long _ _ _ c.part_end-end.ensures.1 c.part_end-end.ensures.2 c.requires)

pub returns-then-end-listing : goal.returns-then-end-listing
returns-then-end-listing c = tallied_last _ _ _ _ _ c.loop-done.invariant _ c.part_end-end.ensures.0 _ c.tally_line-held.ensures c.if-end-listing.true (omega (arith, c.loop-done-test.true))

pub loop-done-preserved : goal.loop-done-preserved
loop-done-preserved c = tallying_on _ _ _ _ _ c.loop-done.invariant _ c.part_end-end.ensures.0 _ c.tally_line-held.ensures (omega (arith, c.part_end-end.ensures.2, c.if-end-listing.false)) (omega (arith, c.loop-done-test.true)) _ (omega arith)

pub returns : goal.returns
returns c = all_tallied _ _ _ _ _ c.loop-done.invariant (omega (arith, c.loop-done-test.false))
