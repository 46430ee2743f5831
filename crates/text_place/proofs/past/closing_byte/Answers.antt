-- `text_place::closing_byte` meets its contract.
use mathlib.Core.Path.{sym, ◌∙◌}
use borrow.Author.Tests.{lt-ltb, le-ltb}
use Rattle.text_place.proofs.past.closing_byte.Goals as goal

pub returns-then-ends_piece : goal.returns-then-ends_piece
returns-then-ends_piece c = rw (lt-ltb _ _ c.if-from-past.true, sym c.ends_piece.ensures ∙ c.if-ends_piece.true)

pub returns-else-ends_piece : goal.returns-else-ends_piece
returns-else-ends_piece c = rw (lt-ltb _ _ c.if-from-past.true, sym c.ends_piece.ensures ∙ c.if-ends_piece.false)

pub returns-else-from-past : goal.returns-else-from-past
returns-else-from-past c = rw (le-ltb _ _ c.if-from-past.false)
