-- `look_at` meets its contract: 7, 8, or the state's moments.
use mathlib.Core.Path.{sym, ap, ◌∙◌}
use Rattle.machine_check.specs.Answer.{check_of}
use Rattle.call_questions.proofs.Runs.{refuses, passes}
use Rattle.call_look.specs.Figures.{figures_of}
use Rattle.call_look.proofs.Looking.{not_seen_by, a_state}
use Rattle.call_look.proofs.look_at.Goals as goal

pub returns-in-Err : goal.returns-in-Err
returns-in-Err c =
    c.refused.ensures ∙ ap figures_of (not_seen_by _ _ (refuses _ _ _ (sym c.in-Err.is ∙ c.running.ensures) c.check_machine.ensures.answer))

pub returns-in-Ok : goal.returns-in-Ok
returns-in-Ok c =
    let runs = passes _ _ (sym c.in-Ok.is ∙ c.running.ensures) in
    c.seen_at.ensures ∙ ap figures_of (a_state _ _ _ _ (ap check_of (sym runs) ∙ c.check_machine.ensures.answer) c.present_moment-present.ensures)
