-- `text_questions::begins_with` meets its contract.
use Rattle.std.proofs.Common.{◌∙◌}
use Rattle.text_questions.proofs.Comparing as laws
use Rattle.text_questions.proofs.opening.begins_with.Goals as goal

pub returns : goal.returns
returns c = c.starts_with.ensures.value ∙ laws.begins_by c.args.opening.now c.args.s.now
