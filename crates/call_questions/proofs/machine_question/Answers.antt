-- `call_questions::machine_question` meets its contract.
use native.Mathlib.Omega.{arith}
use mathlib.Core.Path.{◌≡◌, sym, ◌∙◌}
use borrow.Author.Rules.{rules}
use Rattle.std.specs.Prelude.{Err}
use lib.ListN.{take, length-take}
use Rattle.call_arguments.proofs.Asking.{machine_refused, machine_passed_with}
use Rattle.call_questions.proofs.Runs.{refuses, passes}
use Rattle.call_questions.proofs.machine_question.Goals as goal

pub state_question-requires : goal.state_question-requires
state_question-requires c = simp length-take (omega arith)

pub returns-in_err-due : goal.returns-in_err-due
returns-in_err-due c =
    let a = c.check_machine.ensures in
    let same : c.from_residual.result ≡ Err c.in_err-due.field-0.0 = search rules in
    rw same (machine_refused _ _ _ _ _ _ a.places _ (refuses _ _ _ (sym c.in_err-due.was ∙ c.running.ensures) a.answer))

pub returns : goal.returns
returns c =
    let a = c.args in
    machine_passed_with a.table.now (take 12288 a.machine.now) _ _ _ _ _ _ _ c.check_machine.ensures (passes _ _ (sym c.in_ok-due.was ∙ c.running.ensures)) _ c.number-inputs.ensures.0 c.state_question.ensures
