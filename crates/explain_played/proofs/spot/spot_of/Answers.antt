-- `explain_played::spot::spot_of` meets its contract.
use Rattle.explain_played.proofs.Codes.{at_opening, at_starting, at_reading, at_over}
use Rattle.explain_played.proofs.spot.spot_of.Goals as goal

pub returns-in-Opening : goal.returns-in-Opening
returns-in-Opening c = at_opening _ _ c.in-Opening.is

pub returns-in-Starting : goal.returns-in-Starting
returns-in-Starting c = at_starting _ _ c.in-Starting.is

pub returns-in-Reading : goal.returns-in-Reading
returns-in-Reading c = at_reading _ _ _ _ _ c.in-Reading.is c.spot_at.ensures

pub returns-in-Over : goal.returns-in-Over
returns-in-Over c = at_over _ _ c.in-Over.is
