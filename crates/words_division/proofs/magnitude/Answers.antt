-- `magnitude` meets its contract: its test is the definition's, and a negative number's magnitude a difference of words.
use mathlib.Core.Path.{◌≡◌, sym, ◌∙◌}
use mathlib.Core.Bool.{true, false}
use borrow.Author.Rules.{rules}
use Rattle.words_division.specs.Division.{is_negative}
use Rattle.words_division.proofs.Words.{zero_minus_is_magnitude}
use Rattle.words_division.proofs.magnitude.Goals as goal

pub returns-then-is_negative : goal.returns-then-is_negative
returns-then-is_negative c =
    let a = c.args.a in
    let negative : is_negative a ≡ true = sym c.is_negative.ensures ∙ c.if-is_negative.true in
    rw negative (c.wrapping_subtract.ensures ∙ zero_minus_is_magnitude a negative)

pub returns-else-is_negative : goal.returns-else-is_negative
returns-else-is_negative c =
    let a = c.args.a in
    let positive : is_negative a ≡ false = sym c.is_negative.ensures ∙ c.if-is_negative.false in
    rw positive
