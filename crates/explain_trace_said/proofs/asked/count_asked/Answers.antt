-- `explain_trace_said::asked::count_asked` meets its contract.
use Rattle.std.proofs.Common.{rules, tests, arith}
use Rattle.std.proofs.lemmas.List.{length_push}
use Rattle.explain_parts.proofs.Parts.{part_turn, parts_end, few_parts}
use Rattle.explain_trace_said.proofs.Asking.{counted, counting_on}
use Rattle.explain_trace_said.proofs.asked.count_asked.Goals as goal

pub seen_after-seen-requires : goal.seen_after-seen-requires
seen_after-seen-requires c =
    let turn = part_turn 10 _ _ _ _ c.args.listing.now c.loop-line.yielded_by c.next.ensures.steps c.into_iter-line-iterator.ensures.into_iter_gives c.split-line-items.ensures.rest c.split-line-items.ensures.done c.split-line-items.ensures.closure (λ x b q k. search (rules, tests)) c.in-Some.line c.in-Some.is in
    omega (arith, c.loop-line.invariant.few, turn.0, few_parts 10 c.args.listing.now, c.requires)

pub loop-line-preserved : goal.loop-line-preserved
loop-line-preserved c =
    let turn = part_turn 10 _ _ _ _ c.args.listing.now c.loop-line.yielded_by c.next.ensures.steps c.into_iter-line-iterator.ensures.into_iter_gives c.split-line-items.ensures.rest c.split-line-items.ensures.done c.split-line-items.ensures.closure (λ x b q k. search (rules, tests)) c.in-Some.line c.in-Some.is in
    let more = length_push c.loop-line.yielded c.in-Some.line in
    record {
      few = omega (arith, c.loop-line.invariant.few, c.seen_after-seen.ensures.1);
      same = counting_on _ _ _ _ c.loop-line.invariant.same _ turn _ _ c.seen_after-seen.ensures.0 more;
    }

pub returns : goal.returns
returns c = counted _ _ _ _ c.loop-line.invariant.same (parts_end 10 _ _ _ _ c.args.listing.now c.loop-line.yielded_by c.next.ensures.steps c.into_iter-line-iterator.ensures.into_iter_gives c.split-line-items.ensures.rest c.split-line-items.ensures.done c.split-line-items.ensures.closure (λ x b q k. search (rules, tests)) c.in-None.is)
