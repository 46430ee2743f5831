-- `machine_words::block_rests` meets its contract.
use mathlib.Core.Path.{sym, ◌∙◌}
use borrow.Author.Tests.{lt-leb}
use Rattle.machine.specs.Words.{block_rests}
use Rattle.machine_words.proofs.Laws.{block_by_variables, block_with_junk}
use Rattle.machine_words.proofs.TestLaws.{fails}
use Rattle.machine_words.proofs.block_rests.Goals as goal

pub returns-then-k-gt-MOST_VARIABLES : goal.returns-then-k-gt-MOST_VARIABLES
unfolding block_rests
returns-then-k-gt-MOST_VARIABLES c = fails _ _ (rw (lt-leb _ _ c.if-k-gt-MOST_VARIABLES.true))

pub returns-then-not-zero_from : goal.returns-then-not-zero_from
returns-then-not-zero_from c = fails _ _ (block_with_junk _ _ _ _ c.if-k-gt-MOST_VARIABLES.false (sym c.zero_from.ensures ∙ c.if-not-zero_from.true))

pub returns : goal.returns
returns c = rw (block_by_variables _ _ _ _ c.if-k-gt-MOST_VARIABLES.false (sym c.zero_from.ensures ∙ c.if-not-zero_from.false)) c.variables_rest.ensures
