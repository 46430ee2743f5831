-- `call_questions::start_question` meets its contract.
use mathlib.Core.Path.{sym, ◌∙◌}
use Rattle.call_questions.proofs.Calling.{start_short, start_no_table, start_not_allowed, start_passes}
use Rattle.call_questions.proofs.start_question.Goals as goal

pub returns-then-not-long_enough : goal.returns-then-not-long_enough
returns-then-not-long_enough c = start_short _ _ _ _ _ (sym c.long_enough.ensures ∙ c.if-not-long_enough.true)

pub returns-then-not-is_table : goal.returns-then-not-is_table
returns-then-not-is_table c = start_no_table _ _ _ _ _ (sym c.long_enough.ensures ∙ c.if-not-long_enough.false) (sym c.is_table.ensures ∙ c.if-not-is_table.true)

pub returns-then-not-allowance_fits : goal.returns-then-not-allowance_fits
returns-then-not-allowance_fits c =
    start_not_allowed _ _ _ _ _ (sym c.long_enough.ensures ∙ c.if-not-long_enough.false) (sym c.is_table.ensures ∙ c.if-not-is_table.false)
    (sym c.allowance_fits.ensures ∙ c.if-not-allowance_fits.true)

pub returns : goal.returns
returns c =
    start_passes _ _ _ _ _ (sym c.long_enough.ensures ∙ c.if-not-long_enough.false) (sym c.is_table.ensures ∙ c.if-not-is_table.false)
    (sym c.allowance_fits.ensures ∙ c.if-not-allowance_fits.false)
