-- `text_questions::form_question` meets its contract.
use mathlib.Core.Path.{sym, ◌∙◌}
use Rattle.text_questions.proofs.Comparing as laws
use Rattle.text_questions.proofs.opening.form_question.Goals as goal

pub returns : goal.returns
returns c = laws.out_of_form_lem _ (sym c.begins_with.ensures ∙ c.if-begins_with.false)
