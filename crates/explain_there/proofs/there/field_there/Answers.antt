-- `explain_there::there::field_there` meets its contract.
use Rattle.std.proofs.Common.{rules, tests, arith}
use Rattle.std.proofs.lemmas.List.{length_push}
use Rattle.explain_parts.proofs.Parts.{part_turn, parts_end}
use Rattle.explain_there.proofs.Pointing.{missing_here, all_there, there_on}
use Rattle.explain_there.proofs.there.field_there.Goals as goal

pub returns-then-not-piece_there : goal.returns-then-not-piece_there
returns-then-not-piece_there c =
    let turn = part_turn 32 _ _ _ _ c.args.field.now c.loop-piece.yielded_by c.next.ensures.steps c.into_iter-piece-iterator.ensures.into_iter_gives c.split-piece-items.ensures.rest c.split-piece-items.ensures.done c.split-piece-items.ensures.closure (λ x b q k. search (rules, tests)) c.in-Some.piece c.in-Some.is in
    missing_here _ _ _ _ _ _ c.loop-piece.invariant.same _ turn _ c.bound_of-bound.ensures _ c.piece_there.ensures c.if-not-piece_there.true _ c.missing.ensures

pub loop-piece-preserved : goal.loop-piece-preserved
loop-piece-preserved c =
    let turn = part_turn 32 _ _ _ _ c.args.field.now c.loop-piece.yielded_by c.next.ensures.steps c.into_iter-piece-iterator.ensures.into_iter_gives c.split-piece-items.ensures.rest c.split-piece-items.ensures.done c.split-piece-items.ensures.closure (λ x b q k. search (rules, tests)) c.in-Some.piece c.in-Some.is in
    let more = length_push c.loop-piece.yielded c.in-Some.piece in
    record {
      counted = omega arith;
      same = there_on _ _ _ _ _ _ c.loop-piece.invariant.same _ turn _ c.bound_of-bound.ensures _ c.piece_there.ensures c.if-not-piece_there.false _ more;
    }

pub returns : goal.returns
returns c = all_there _ _ _ _ _ _ c.loop-piece.invariant.same (parts_end 32 _ _ _ _ c.args.field.now c.loop-piece.yielded_by c.next.ensures.steps c.into_iter-piece-iterator.ensures.into_iter_gives c.split-piece-items.ensures.rest c.split-piece-items.ensures.done c.split-piece-items.ensures.closure (λ x b q k. search (rules, tests)) c.in-None.is)
