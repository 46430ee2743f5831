-- `text_place::offset_past` meets its contract.
use borrow.Author.Tests.{lt-ltb, le-ltb}
use Rattle.text_place.proofs.past.offset_past.Goals as goal

pub returns-then-end-s : goal.returns-then-end-s
returns-then-end-s c = rw (← c.piece_end-end.ensures, lt-ltb _ _ c.if-end-s.true)

pub returns : goal.returns
returns c = rw (← c.piece_end-end.ensures, le-ltb _ _ c.if-end-s.false)
