-- `explain_trace_said::reason::sentence` meets its contract.
use Rattle.listing.specs.Bytes.{bytes_of}
use Rattle.explain_trace_said.proofs.reason.sentence.Goals as goal

pub returns-in-NoSuchLetter-clause-is : goal.returns-in-NoSuchLetter-clause-is
unfolding bytes_of
returns-in-NoSuchLetter-clause-is c = rw c.in-NoSuchLetter.is

pub returns-in-FieldCount-clause-is : goal.returns-in-FieldCount-clause-is
unfolding bytes_of
returns-in-FieldCount-clause-is c = rw c.in-FieldCount.is

pub returns-in-BadTime-clause-is : goal.returns-in-BadTime-clause-is
unfolding bytes_of
returns-in-BadTime-clause-is c = rw c.in-BadTime.is

pub returns-in-BadInput-clause-is : goal.returns-in-BadInput-clause-is
unfolding bytes_of
returns-in-BadInput-clause-is c = rw c.in-BadInput.is

pub returns-in-BadValue-clause-is : goal.returns-in-BadValue-clause-is
unfolding bytes_of
returns-in-BadValue-clause-is c = rw c.in-BadValue.is

pub returns-in-SecondPiece-clause-is : goal.returns-in-SecondPiece-clause-is
unfolding bytes_of
returns-in-SecondPiece-clause-is c = rw c.in-SecondPiece.is

pub returns-in-NoForm-clause-is : goal.returns-in-NoForm-clause-is
unfolding bytes_of
returns-in-NoForm-clause-is c = rw c.in-NoForm.is

pub returns-in-NoLineFeed-clause-is : goal.returns-in-NoLineFeed-clause-is
unfolding bytes_of
returns-in-NoLineFeed-clause-is c = rw c.in-NoLineFeed.is

pub returns-in-NoLast-clause-is : goal.returns-in-NoLast-clause-is
unfolding bytes_of
returns-in-NoLast-clause-is c = rw c.in-NoLast.is

pub returns-in-AfterLast-clause-is : goal.returns-in-AfterLast-clause-is
unfolding bytes_of
returns-in-AfterLast-clause-is c = rw c.in-AfterLast.is

pub returns-in-NotAfter-clause-is : goal.returns-in-NotAfter-clause-is
unfolding bytes_of
returns-in-NotAfter-clause-is c = rw c.in-NotAfter.is

pub returns-in-NoInput-clause-is : goal.returns-in-NoInput-clause-is
unfolding bytes_of
returns-in-NoInput-clause-is c = rw c.in-NoInput.is

pub returns-in-NotRising-clause-is : goal.returns-in-NotRising-clause-is
unfolding bytes_of
returns-in-NotRising-clause-is c = rw c.in-NotRising.is
