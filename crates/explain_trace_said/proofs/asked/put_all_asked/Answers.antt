-- `explain_trace_said::asked::put_all_asked` meets its contract.
use Rattle.std.proofs.Common.{rules, tests, arith}
use Rattle.std.proofs.lemmas.List.{length_push}
use Rattle.session_print.proofs.ListedWrites.{still_long}
use Rattle.explain_parts.proofs.Parts.{part_turn, parts_end, few_parts}
use Rattle.explain_trace_said.proofs.Asking.{asking_begun, still_short, all_asked, asking_on}
use Rattle.explain_trace_said.proofs.asked.put_all_asked.Goals as goal

pub loop-line-init : goal.loop-line-init
loop-line-init c = asking_begun _ _ _ _ _ _

pub put_if_asked-past-requires : goal.put_if_asked-past-requires
put_if_asked-past-requires c = omega (arith, still_short _ _ _ _ c.loop-line.invariant, c.requires.0)

pub seen_after-seen-requires : goal.seen_after-seen-requires
seen_after-seen-requires c =
    let turn = part_turn 10 _ _ _ _ c.args.listing.now c.loop-line.yielded_by c.next.ensures.steps c.into_iter-line-iterator.ensures.into_iter_gives c.split-line-items.ensures.rest c.split-line-items.ensures.done c.split-line-items.ensures.closure (λ x b q k. search (rules, tests)) c.in-Some.line c.in-Some.is in
    omega (arith, c.loop-line.invariant.few, turn.0, few_parts 10 c.args.listing.now, c.requires.1)

pub overflow_add-number : goal.overflow_add-number
overflow_add-number c =
    let turn = part_turn 10 _ _ _ _ c.args.listing.now c.loop-line.yielded_by c.next.ensures.steps c.into_iter-line-iterator.ensures.into_iter_gives c.split-line-items.ensures.rest c.split-line-items.ensures.done c.split-line-items.ensures.closure (λ x b q k. search (rules, tests)) c.in-Some.line c.in-Some.is in
    record { fits = omega (arith, c.loop-line.invariant.numbered, turn.0, few_parts 10 c.args.listing.now, c.requires.1) }

pub loop-line-preserved : goal.loop-line-preserved
loop-line-preserved c =
    let turn = part_turn 10 _ _ _ _ c.args.listing.now c.loop-line.yielded_by c.next.ensures.steps c.into_iter-line-iterator.ensures.into_iter_gives c.split-line-items.ensures.rest c.split-line-items.ensures.done c.split-line-items.ensures.closure (λ x b q k. search (rules, tests)) c.in-Some.line c.in-Some.is in
    let p = c.put_if_asked-past.ensures in
    asking_on _ _ _ _ c.loop-line.invariant _ turn p.0 _ c.seen_after-seen.ensures.0 p.1 _ (length_push c.loop-line.yielded c.in-Some.line)

pub put_more-requires : goal.put_more-requires
put_more-requires c = omega (arith, still_short _ _ _ _ c.loop-line.invariant, c.requires.0)

pub shape_of-out : goal.shape_of-out
shape_of-out c = still_long (all_asked _ _ _ _ c.loop-line.invariant (parts_end 10 _ _ _ _ c.args.listing.now c.loop-line.yielded_by c.next.ensures.steps c.into_iter-line-iterator.ensures.into_iter_gives c.split-line-items.ensures.rest c.split-line-items.ensures.done c.split-line-items.ensures.closure (λ x b q k. search (rules, tests)) c.in-None.is) c.put_more.ensures.0)

pub returns : goal.returns
returns c =
    let v = c.loop-line.invariant in
    let q = c.put_more.ensures in
    (all_asked _ _ _ _ v (parts_end 10 _ _ _ _ c.args.listing.now c.loop-line.yielded_by c.next.ensures.steps c.into_iter-line-iterator.ensures.into_iter_gives c.split-line-items.ensures.rest c.split-line-items.ensures.done c.split-line-items.ensures.closure (λ x b q k. search (rules, tests)) c.in-None.is) q.0, omega (arith, still_short _ _ _ _ v, q.1))
