-- `text_piece::negative_literal` meets its contract.
use mathlib.Core.Path.{sym, ◌∙◌}
use native.Mathlib.Omega.{arith}
use Rattle.text_piece.proofs.Pieces.{negative_in}
use Rattle.text_piece.proofs.piece.negative_literal.Goals as goal

pub overflow_sub-result : goal.overflow_sub-result
overflow_sub-result c = omega (arith, negative_in c.in-Value.n (sym c.may_be_negative.ensures ∙ c.if-may_be_negative.true))

pub overflow_cast-result : goal.overflow_cast-result
overflow_cast-result c = omega (arith, negative_in c.in-Value.n (sym c.may_be_negative.ensures ∙ c.if-may_be_negative.true))

pub returns-then-may_be_negative : goal.returns-then-may_be_negative
returns-then-may_be_negative c = rw (c.in-Value.is, sym c.may_be_negative.ensures ∙ c.if-may_be_negative.true)

pub returns : goal.returns
returns c = rw (c.in-Value.is, sym c.may_be_negative.ensures ∙ c.if-may_be_negative.false)
