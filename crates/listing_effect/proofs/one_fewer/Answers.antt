-- `listing_effect::one_fewer` meets its contract.
use borrow.Author.Tests.{le-leb, lt-leb}
use Rattle.listing.specs.Expressions.{may_come, held_with}
use Rattle.listing_effect.proofs.one_fewer.Goals as goal

pub returns-then-held-lt2 : goal.returns-then-held-lt2
unfolding may_come
returns-then-held-lt2 c = rw (lt-leb 2 _ c.if-held-lt2.true)

pub returns-then-held-le8 : goal.returns-then-held-le8
unfolding may_come held_with
returns-then-held-le8 c = rw (le-leb 2 _ c.if-held-lt2.false, le-leb _ 8 c.if-held-le8.true)

pub returns : goal.returns
unfolding may_come
returns c = rw (le-leb 2 _ c.if-held-lt2.false, lt-leb _ 8 c.if-held-le8.false)
