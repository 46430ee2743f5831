-- `test_stored_answers::answer_right` meets its contract.
use Rattle.std.proofs.Common.{rules}
use Rattle.test_stored_answers.proofs.Answering.{other_answer, by_outputs}
use Rattle.test_stored_answers.proofs.answer_right.Goals as goal

pub returns-then-ne : goal.returns-then-ne
returns-then-ne c = other_answer c.answer_at-expected.result c.args.found c.answer_at-expected.ensures (search rules)

pub returns-then-not-right : goal.returns-then-not-right
returns-then-not-right c = by_outputs c.answer_at-expected.result c.args.found c.answer_at-expected.ensures (search rules) c.past.ensures c.outputs_right-right.ensures

pub returns-else-not-right : goal.returns-else-not-right
returns-else-not-right c = by_outputs c.answer_at-expected.result c.args.found c.answer_at-expected.ensures (search rules) c.past.ensures c.outputs_right-right.ensures
