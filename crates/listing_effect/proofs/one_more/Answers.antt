-- `listing_effect::one_more` meets its contract.
use native.Mathlib.Omega.{arith}
use borrow.Author.Tests.{lt-ltb, le-ltb, le-leb}
use Rattle.listing.specs.Expressions.{may_come, held_with}
use Rattle.listing_effect.proofs.one_more.Goals as goal

pub returns-then-held-lt8 : goal.returns-then-held-lt8
unfolding may_come held_with
returns-then-held-lt8 c =
    let held = c.args.held in
    rw (lt-ltb held 8 c.if-held-lt8.true, le-leb held 8 (omega arith)) (omega arith)

pub returns : goal.returns
unfolding may_come
returns c = rw (le-ltb _ 8 c.if-held-lt8.false)
