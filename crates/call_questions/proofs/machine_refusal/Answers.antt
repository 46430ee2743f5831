-- `call_questions::machine_refusal` meets its contract.
use mathlib.Core.Path.{◌≡◌, sym, ◌∙◌}
use borrow.Author.Rules.{rules}
use Rattle.std.specs.Prelude.{Err}
use Rattle.call_questions.proofs.Runs.{refuses, none_refuses}
use Rattle.call_questions.proofs.machine_refusal.Goals as goal

pub returns-in_err-running : goal.returns-in_err-running
returns-in_err-running c =
    let same : c.from_residual.result ≡ Err c.in_err-running.field-0.0 = search rules in
    same ∙ refuses _ _ _ (sym c.in_err-running.was ∙ c.running.ensures) c.check_machine.ensures.answer

pub returns : goal.returns
returns c = none_refuses _ _ _ (sym c.in_ok-running.was ∙ c.running.ensures) c.check_machine.ensures.answer
