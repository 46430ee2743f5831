use Rattle.engine_outputs.proofs.OutputPass.{listed_written, listed_unwritten}
use mathlib.Core.Path.{sym, ◌∙◌}
use Rattle.engine_outputs.proofs.outputs.list_output.Goals as goal

pub returns-then-written : goal.returns-then-written
returns-then-written c =
    let a = c.args in
    listed_written a.m.now a.i a.count a.numbers.now a.values.now _ (sym c.written.ensures.word ∙ c.if-written.true) c.value.ensures.word

pub returns : goal.returns
returns c =
    let a = c.args in
    listed_unwritten a.m.now a.i a.count a.numbers.now a.values.now (sym c.written.ensures.word ∙ c.if-written.false)
