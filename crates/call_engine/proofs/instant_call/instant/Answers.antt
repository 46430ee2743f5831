-- `call_engine::instant_call::instant` meets its contract.
use mathlib.Core.Path.{◌≡◌}
use native.Mathlib.Omega.{arith}
use Rattle.std.specs.Prelude.{Err}
use Rattle.call_conclude.specs.declared.answers.Failure.TheVariants.{Refused}
use lib.ListN.{length-take}
use Rattle.call_engine.proofs.Accepted.{instant_refused, instant_accepted, conclusion_keeps}
use borrow.Author.Rules.{rules}
use Rattle.call_engine.proofs.instant_call.instant.Goals as goal

pub returns-in_err-asked : goal.returns-in_err-asked
returns-in_err-asked c =
    let same : c.from_residual.result ≡ Err (Refused c.in_err-asked.field-0.0) = search rules in
    rw same (instant_refused _ _ _ _ _ _ _ _ _ _ _ c.instant_question-asked.ensures c.in_err-asked.was)

pub slice_bounds-instant_work-end : goal.slice_bounds-instant_work-end
slice_bounds-instant_work-end c =
    let A = instant_accepted _ _ _ _ _ _ _ _ _ _ c.instant_question-asked.ensures c.in_ok-asked.was in
    omega (arith, A.lengths.table_long)

pub instant_work-requires : goal.instant_work-requires
instant_work-requires c =
    let A = instant_accepted _ _ _ _ _ _ _ _ _ _ c.instant_question-asked.ensures c.in_ok-asked.was in
    (simp length-take (omega (arith, A.lengths.table_long)), A.may, A.lengths.numbers_long, A.lengths.values_long)

pub returns : goal.returns
returns c =
    let A = instant_accepted _ _ _ _ _ _ _ _ _ _ c.instant_question-asked.ensures c.in_ok-asked.was in
    conclusion_keeps _ _ _ _ _ _ _ _ _ _ A.may.table A.outcome (c.instant_work.ensures A.may)
