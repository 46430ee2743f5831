-- `text_piece::if_alone` meets its contract.
use borrow.Author.Tests.{eq-eqb, ne_eqb}
use Rattle.text_piece.proofs.piece.if_alone.Goals as goal

pub returns-then-from-to : goal.returns-then-from-to
returns-then-from-to c = rw (eq-eqb _ _ c.if-from-to.true)

pub returns : goal.returns
returns c = rw (ne_eqb _ _ c.if-from-to.false)
