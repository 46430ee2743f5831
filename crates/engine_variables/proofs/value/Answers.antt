-- `engine_variables::value` meets its contract.
use borrow.Author.Rules.{rules}
use Rattle.walk.specs.State.{Variable}
use Rattle.engine_variables.proofs.Readings.{read_of}
use Rattle.engine_blocks.specs.Blocks.{variable_in}
use Rattle.engine_variables.proofs.value.Goals as goal

pub returns : goal.returns
unfolding variable_in
returns c =
    let a = c.args in
    read_of (λ (x : Variable). x.value) a.m.now a.s a.index c.word_at.result (search rules) c.word_at.ensures
