-- `explain_schedule::place::unclosed_why` meets its contract.
use Rattle.explain_schedule.proofs.Lines.{empty_text, some_text}
use Rattle.explain_schedule.proofs.place.unclosed_why.Goals as goal

pub returns-then-text-eq0 : goal.returns-then-text-eq0
returns-then-text-eq0 c = empty_text c.args.text.now c.if-text-eq0.true

pub returns : goal.returns
returns c = some_text c.args.text.now c.if-text-eq0.false
