-- `test_sessions::run_file` meets its contract.
use mathlib.Core.Path.{refl, sym, ◌∙◌}
use native.Mathlib.Omega.{arith}
use Rattle.session_replay.proofs.Ending.{still_long}
use Rattle.test_cases.proofs.Telling.{never}
use Rattle.test_sessions.proofs.Turning.{begun, one_agrees, one_fails, ended}
use Rattle.test_sessions.proofs.run_file.Goals as goal
use Rattle.test_sessions.proofs.run_file.Goals.{then-not-run_case, else-not-run_case}

pub loop-done-init : goal.loop-done-init
loop-done-init c = (omega arith, record { table_is = refl; machine_is_lem = refl; out_is = refl }, begun c.past-at.ensures)

pub run_case-requires : goal.run_case-requires
run_case-requires c = (c.case_at-case.ensures.1, still_long c.loop-done.invariant.1 c.requires)

pub loop-done-preserved : goal.loop-done-preserved
loop-done-preserved c =
    let i = c.loop-done.invariant in
    let r = c.run_case.ensures in
    let case = c.case_at-case in (
      elim c.if-not-run_case.branch [ then-not-run_case w ↦ omega arith | else-not-run_case w ↦ omega arith ],
      record { table_is = r.1.table_is ∙ i.1.table_is; machine_is_lem = r.1.machine_is_lem ∙ i.1.machine_is_lem; out_is = r.1.out_is ∙ i.1.out_is },
      elim c.if-not-run_case.branch [
        | then-not-run_case w ↦ one_fails case.result case.ensures.0 c.loop-done-test.true i.2 (λ a. never (sym w.if-not-run_case.true ∙ r.0.whenever a)) w.failed-is
        | else-not-run_case w ↦ one_agrees case.result case.ensures.0 c.loop-done-test.true i.2 (r.0.means w.if-not-run_case.false) w.failed-is
      ],
    )

pub shape_of-table : goal.shape_of-table
shape_of-table c = c.loop-done.invariant.1.table_is

pub shape_of-machine : goal.shape_of-machine
shape_of-machine c = c.loop-done.invariant.1.machine_is_lem

pub shape_of-out : goal.shape_of-out
shape_of-out c = c.loop-done.invariant.1.out_is

pub returns : goal.returns
returns c =
    let i = c.loop-done.invariant in
    (record { count = c.from-cases.ensures ∙ c.word_at.ensures; few = omega arith; failed = omega arith; counts = ended c.loop-done-test.false i.2 }, i.1)
