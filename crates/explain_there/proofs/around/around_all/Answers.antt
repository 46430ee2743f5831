-- `explain_there::around::around_all` meets its contract.
use Rattle.std.proofs.Common.{rules, tests, arith}
use Rattle.std.proofs.lemmas.List.{length_push}
use mathlib.Core.Path.{refl}
use Rattle.explain_parts.proofs.Parts.{part_turn, parts_end, few_parts}
use Rattle.explain_there.proofs.Arounds.{nothing_held, bounded_small, bounded_on, told_all, told_on}
use Rattle.explain_there.proofs.around.around_all.Goals as goal

pub loop-line-init : goal.loop-line-init
loop-line-init c = record { bounded = nothing_held; same = refl }

pub around_line-held-requires : goal.around_line-held-requires
around_line-held-requires c =
    let turn = part_turn 10 _ _ _ _ c.args.listing.now c.loop-line.yielded_by c.next.ensures.steps c.into_iter-line-iterator.ensures.into_iter_gives c.split-line-items.ensures.rest c.split-line-items.ensures.done c.split-line-items.ensures.closure (λ x b q k. search (rules, tests)) c.in-Some.line c.in-Some.is in
    bounded_small _ c.loop-line.invariant.bounded (omega (arith, turn.0, few_parts 10 c.args.listing.now, c.requires))

pub loop-line-preserved : goal.loop-line-preserved
loop-line-preserved c =
    let turn = part_turn 10 _ _ _ _ c.args.listing.now c.loop-line.yielded_by c.next.ensures.steps c.into_iter-line-iterator.ensures.into_iter_gives c.split-line-items.ensures.rest c.split-line-items.ensures.done c.split-line-items.ensures.closure (λ x b q k. search (rules, tests)) c.in-Some.line c.in-Some.is in
    let more = length_push c.loop-line.yielded c.in-Some.line in
    record {
      bounded = rw c.around_line-held.ensures (bounded_on _ _ _ _ _ (omega arith) c.loop-line.invariant.bounded);
      same = told_on _ _ _ _ c.loop-line.invariant.same _ turn _ _ c.around_line-held.ensures more;
    }

pub returns : goal.returns
returns c = told_all _ _ _ _ c.loop-line.invariant.same (parts_end 10 _ _ _ _ c.args.listing.now c.loop-line.yielded_by c.next.ensures.steps c.into_iter-line-iterator.ensures.into_iter_gives c.split-line-items.ensures.rest c.split-line-items.ensures.done c.split-line-items.ensures.closure (λ x b q k. search (rules, tests)) c.in-None.is)
