-- `explain_said::reason::sentence` meets its contract.
use Rattle.listing.specs.Bytes.{bytes_of}
use Rattle.explain_said.proofs.reason.sentence.Goals as goal

pub returns-in-NoSuchLetter-clause-is : goal.returns-in-NoSuchLetter-clause-is
unfolding bytes_of
returns-in-NoSuchLetter-clause-is c = rw c.in-NoSuchLetter.is

pub returns-in-FieldCount-clause-is : goal.returns-in-FieldCount-clause-is
unfolding bytes_of
returns-in-FieldCount-clause-is c = rw c.in-FieldCount.is

pub returns-in-ChildCount-clause-is : goal.returns-in-ChildCount-clause-is
unfolding bytes_of
returns-in-ChildCount-clause-is c = rw c.in-ChildCount.is

pub returns-in-BadFigure-clause-is : goal.returns-in-BadFigure-clause-is
unfolding bytes_of
returns-in-BadFigure-clause-is c = rw c.in-BadFigure.is

pub returns-in-SecondPiece-clause-is : goal.returns-in-SecondPiece-clause-is
unfolding bytes_of
returns-in-SecondPiece-clause-is c = rw c.in-SecondPiece.is

pub returns-in-BadKinds-clause-is : goal.returns-in-BadKinds-clause-is
unfolding bytes_of
returns-in-BadKinds-clause-is c = rw c.in-BadKinds.is

pub returns-in-BadPiece-clause-is : goal.returns-in-BadPiece-clause-is
unfolding bytes_of
returns-in-BadPiece-clause-is c = rw c.in-BadPiece.is

pub returns-in-LacksOperand-clause-is : goal.returns-in-LacksOperand-clause-is
unfolding bytes_of
returns-in-LacksOperand-clause-is c = rw c.in-LacksOperand.is

pub returns-in-NinthValue-clause-is : goal.returns-in-NinthValue-clause-is
unfolding bytes_of
returns-in-NinthValue-clause-is c = rw c.in-NinthValue.is

pub returns-in-LeavesSeveral-clause-is : goal.returns-in-LeavesSeveral-clause-is
unfolding bytes_of
returns-in-LeavesSeveral-clause-is c = rw c.in-LeavesSeveral.is

pub returns-in-FifthName-clause-is : goal.returns-in-FifthName-clause-is
unfolding bytes_of
returns-in-FifthName-clause-is c = rw c.in-FifthName.is

pub returns-in-PortsLater-clause-is : goal.returns-in-PortsLater-clause-is
unfolding bytes_of
returns-in-PortsLater-clause-is c = rw c.in-PortsLater.is

pub returns-in-FirstLine-clause-is : goal.returns-in-FirstLine-clause-is
unfolding bytes_of
returns-in-FirstLine-clause-is c = rw c.in-FirstLine.is

pub returns-in-SecondLine-clause-is : goal.returns-in-SecondLine-clause-is
unfolding bytes_of
returns-in-SecondLine-clause-is c = rw c.in-SecondLine.is

pub returns-in-NoLineFeed-clause-is : goal.returns-in-NoLineFeed-clause-is
unfolding bytes_of
returns-in-NoLineFeed-clause-is c = rw c.in-NoLineFeed.is

pub returns-in-EmptyListing-clause-is : goal.returns-in-EmptyListing-clause-is
unfolding bytes_of
returns-in-EmptyListing-clause-is c = rw c.in-EmptyListing.is

pub returns-in-ManyBytes-clause-is : goal.returns-in-ManyBytes-clause-is
unfolding bytes_of
returns-in-ManyBytes-clause-is c = rw c.in-ManyBytes.is

pub returns-in-ManyRoutines-clause-is : goal.returns-in-ManyRoutines-clause-is
unfolding bytes_of
returns-in-ManyRoutines-clause-is c = rw c.in-ManyRoutines.is

pub returns-in-ManyNames-clause-is : goal.returns-in-ManyNames-clause-is
unfolding bytes_of
returns-in-ManyNames-clause-is c = rw c.in-ManyNames.is

pub returns-in-ManyInstructions-clause-is : goal.returns-in-ManyInstructions-clause-is
unfolding bytes_of
returns-in-ManyInstructions-clause-is c = rw c.in-ManyInstructions.is

pub returns-in-ManyPieces-clause-is : goal.returns-in-ManyPieces-clause-is
unfolding bytes_of
returns-in-ManyPieces-clause-is c = rw c.in-ManyPieces.is

pub returns-in-NoInstruction-clause-is : goal.returns-in-NoInstruction-clause-is
unfolding bytes_of
returns-in-NoInstruction-clause-is c = rw c.in-NoInstruction.is

pub returns-in-NoEnd-clause-is : goal.returns-in-NoEnd-clause-is
unfolding bytes_of
returns-in-NoEnd-clause-is c = rw c.in-NoEnd.is

pub returns-in-NoName-clause-is : goal.returns-in-NoName-clause-is
unfolding bytes_of
returns-in-NoName-clause-is c = rw c.in-NoName.is

pub returns-in-NoJump-clause-is : goal.returns-in-NoJump-clause-is
unfolding bytes_of
returns-in-NoJump-clause-is c = rw c.in-NoJump.is

pub returns-in-NoRoutine-clause-is : goal.returns-in-NoRoutine-clause-is
unfolding bytes_of
returns-in-NoRoutine-clause-is c = rw c.in-NoRoutine.is

pub returns-in-ArgumentCount-clause-is : goal.returns-in-ArgumentCount-clause-is
unfolding bytes_of
returns-in-ArgumentCount-clause-is c = rw c.in-ArgumentCount.is

pub returns-in-NoMain-clause-is : goal.returns-in-NoMain-clause-is
unfolding bytes_of
returns-in-NoMain-clause-is c = rw c.in-NoMain.is

pub returns-in-MainAsStated-clause-is : goal.returns-in-MainAsStated-clause-is
unfolding bytes_of
returns-in-MainAsStated-clause-is c = rw c.in-MainAsStated.is
