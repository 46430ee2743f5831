-- `explain_fields::field::field_fault` meets its contract.
use Rattle.std.proofs.Common.{rules, tests, arith, sym}
use Rattle.std.proofs.lemmas.List.{length_push}
use Rattle.explain_parts.proofs.Parts.{part_turn, parts_end}
use Rattle.explain_fields.proofs.Fields.{wrong_here, fine_here, all_fine}
use Rattle.explain_fields.proofs.field.field_fault.Goals as goal

pub returns-in-Err : goal.returns-in-Err
returns-in-Err c =
    let s = c.split-piece-items.ensures in
    let turn = part_turn 32 _ _ _ _ c.args.field.now c.loop-piece.yielded_by c.next.ensures.steps c.into_iter-piece-iterator.ensures.into_iter_gives s.rest s.done s.closure (λ x b q k. search (rules, tests)) c.in-Some.piece c.in-Some.is in
    wrong_here _ _ _ _ _ c.loop-piece.invariant.same _ turn _ c.in-Err.ensures

pub loop-piece-preserved : goal.loop-piece-preserved
loop-piece-preserved c =
    let s = c.split-piece-items.ensures in
    let turn = part_turn 32 _ _ _ _ c.args.field.now c.loop-piece.yielded_by c.next.ensures.steps c.into_iter-piece-iterator.ensures.into_iter_gives s.rest s.done s.closure (λ x b q k. search (rules, tests)) c.in-Some.piece c.in-Some.is in
    let more = length_push c.loop-piece.yielded c.in-Some.piece in
    record { counted = omega arith; same = fine_here _ _ _ _ _ c.loop-piece.invariant.same _ turn _ _ c.in-Ok.ensures (omega arith) }

pub returns-in-Some-ended_why : goal.returns-in-Some-ended_why
returns-in-Some-ended_why c =
    let s = c.split-piece-items.ensures in
    let end = parts_end 32 _ _ _ _ c.args.field.now c.loop-piece.yielded_by c.next.ensures.steps c.into_iter-piece-iterator.ensures.into_iter_gives s.rest s.done s.closure (λ x b q k. search (rules, tests)) c.in-None.is in
    all_fine _ _ _ _ _ c.loop-piece.invariant.same end _ c.in-Some-ended_why.ensures

pub returns-in-None-ended_why : goal.returns-in-None-ended_why
returns-in-None-ended_why c =
    let s = c.split-piece-items.ensures in
    let end = parts_end 32 _ _ _ _ c.args.field.now c.loop-piece.yielded_by c.next.ensures.steps c.into_iter-piece-iterator.ensures.into_iter_gives s.rest s.done s.closure (λ x b q k. search (rules, tests)) c.in-None.is in
    all_fine _ _ _ _ _ c.loop-piece.invariant.same end _ c.in-None-ended_why.ensures
