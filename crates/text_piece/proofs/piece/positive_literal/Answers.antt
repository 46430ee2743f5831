-- `text_piece::positive_literal` meets its contract.
use borrow.Author.Tests.{lt-ltb, le-ltb}
use Rattle.text_piece.proofs.piece.positive_literal.Goals as goal

pub returns-then-n-lt2147483648 : goal.returns-then-n-lt2147483648
returns-then-n-lt2147483648 c = rw (c.in-Value.is, lt-ltb _ 2147483648 c.if-n-lt2147483648.true)

pub returns : goal.returns
returns c = rw (c.in-Value.is, le-ltb _ 2147483648 c.if-n-lt2147483648.false)
