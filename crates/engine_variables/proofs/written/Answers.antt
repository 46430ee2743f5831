-- `engine_variables::written` meets its contract.
use mathlib.Core.Bool.{not}
use mathlib.Core.Path.{ap, ◌∙◌}
use Prim.Native.Nat.{ℕ, ◌+◌}
use lib.Dec.{eqb}
use borrow.Author.Rules.{rules}
use Rattle.walk.specs.State.{Variable}
use Rattle.engine_row.proofs.Readings.{nonzero_test}
use Rattle.engine_variables.proofs.Readings.{read_of}
use Rattle.engine_blocks.specs.Blocks.{block, variable_in}
use Rattle.engine_variables.proofs.written.Goals as goal

pub returns : goal.returns
unfolding variable_in
returns c =
    let a = c.args in
    read_of (λ (x : Variable). x.written) a.m.now a.s a.index (not (eqb c.word_at.result 0)) (search rules)
    (ap (λ (k : ℕ). not (eqb k 0)) c.word_at.ensures ∙ nonzero_test (block a.m.now a.s (128 + a.index)))
