-- `listing_effect::held_after` meets its contract.
use Rattle.listing_effect.proofs.held_after.Goals as goal

pub returns-in-Adds : goal.returns-in-Adds
returns-in-Adds c = rw c.in-Adds.is c.one_more.ensures

pub returns-in-Joins : goal.returns-in-Joins
returns-in-Joins c = rw c.in-Joins.is c.one_fewer.ensures
