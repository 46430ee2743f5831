-- `explain_schedule_said::reason::sentence` meets its contract.
use Rattle.listing.specs.Bytes.{bytes_of}
use Rattle.explain_schedule_said.proofs.reason.sentence.Goals as goal

pub returns-in-DateCount-clause-is : goal.returns-in-DateCount-clause-is
unfolding bytes_of
returns-in-DateCount-clause-is c = rw c.in-DateCount.is

pub returns-in-WindowCount-clause-is : goal.returns-in-WindowCount-clause-is
unfolding bytes_of
returns-in-WindowCount-clause-is c = rw c.in-WindowCount.is

pub returns-in-NoDate-clause-is : goal.returns-in-NoDate-clause-is
unfolding bytes_of
returns-in-NoDate-clause-is c = rw c.in-NoDate.is

pub returns-in-NoLineFeed-clause-is : goal.returns-in-NoLineFeed-clause-is
unfolding bytes_of
returns-in-NoLineFeed-clause-is c = rw c.in-NoLineFeed.is

pub returns-in-NoYear-clause-is : goal.returns-in-NoYear-clause-is
unfolding bytes_of
returns-in-NoYear-clause-is c = rw c.in-NoYear.is

pub returns-in-NoMonth-clause-is : goal.returns-in-NoMonth-clause-is
unfolding bytes_of
returns-in-NoMonth-clause-is c = rw c.in-NoMonth.is

pub returns-in-NoInput-clause-is : goal.returns-in-NoInput-clause-is
unfolding bytes_of
returns-in-NoInput-clause-is c = rw c.in-NoInput.is

pub returns-in-NoWeekday-clause-is : goal.returns-in-NoWeekday-clause-is
unfolding bytes_of
returns-in-NoWeekday-clause-is c = rw c.in-NoWeekday.is

pub returns-in-NoMinute-clause-is : goal.returns-in-NoMinute-clause-is
unfolding bytes_of
returns-in-NoMinute-clause-is c = rw c.in-NoMinute.is

pub returns-in-NoDay-clause-is : goal.returns-in-NoDay-clause-is
unfolding bytes_of
returns-in-NoDay-clause-is c = rw c.in-NoDay.is

pub returns-in-NotBelow-clause-is : goal.returns-in-NotBelow-clause-is
unfolding bytes_of
returns-in-NotBelow-clause-is c = rw c.in-NotBelow.is
