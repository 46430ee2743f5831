-- `call_engine::start_call::start` meets its contract.
use mathlib.Core.Path.{◌≡◌}
use native.Mathlib.Omega.{arith}
use Rattle.std.specs.Prelude.{Err}
use Rattle.call_conclude.specs.declared.answers.Failure.TheVariants.{Refused}
use lib.ListN.{length-take}
use Rattle.call_engine.proofs.Accepted.{start_refused, start_accepted, conclusion_keeps}
use borrow.Author.Rules.{rules}
use Rattle.call_engine.proofs.start_call.start.Goals as goal

pub returns-in_err-start_question : goal.returns-in_err-start_question
returns-in_err-start_question c =
    let same : c.from_residual.result ≡ Err (Refused c.in_err-start_question.field-0.0) = search rules in
    rw same (start_refused _ _ _ _ _ _ _ c.start_question.ensures c.in_err-start_question.was)

pub slice_bounds-start_work-end : goal.slice_bounds-start_work-end
slice_bounds-start_work-end c =
    let A = start_accepted _ _ _ _ _ _ c.start_question.ensures c.in_ok-start_question.was in
    omega (arith, A.lengths.table_long)

pub start_work-requires : goal.start_work-requires
start_work-requires c =
    let A = start_accepted _ _ _ _ _ _ c.start_question.ensures c.in_ok-start_question.was in
    (simp length-take (omega (arith, A.lengths.table_long)), A.passes, A.lengths.machine_long, A.most, A.lengths.numbers_long, A.lengths.values_long)

pub returns : goal.returns
returns c =
    let A = start_accepted _ _ _ _ _ _ c.start_question.ensures c.in_ok-start_question.was in
    conclusion_keeps _ _ _ _ _ _ _ _ _ _ A.passes A.outcome c.start_work.ensures
