-- `with_sign` meets its contract: the word of minus n is 0 less n.
use mathlib.Core.Path.{◌∙◌}
use borrow.Author.Rules.{rules}
use Rattle.words.proofs.Signed.{zero_minus_is_negated}
use Rattle.words_division.proofs.with_sign.Goals as goal

pub returns-then-negative : goal.returns-then-negative
returns-then-negative c = rw c.if-negative.true (c.wrapping_subtract.ensures ∙ zero_minus_is_negated c.args.n)

pub returns-else-negative : goal.returns-else-negative
returns-else-negative c = rw c.if-negative.false
