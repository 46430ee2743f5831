-- `explain_said::reason::strange_sentence` meets its contract.
use Rattle.listing.specs.Bytes.{bytes_of}
use Rattle.explain_said.proofs.reason.strange_sentence.Goals as goal

pub returns-in-Nothing-clause-is : goal.returns-in-Nothing-clause-is
unfolding bytes_of
returns-in-Nothing-clause-is c = rw c.in-Nothing.is

pub returns-in-CarriageReturn-clause-is : goal.returns-in-CarriageReturn-clause-is
unfolding bytes_of
returns-in-CarriageReturn-clause-is c = rw c.in-CarriageReturn.is

pub returns-in-NotAscii-clause-is : goal.returns-in-NotAscii-clause-is
unfolding bytes_of
returns-in-NotAscii-clause-is c = rw c.in-NotAscii.is

pub returns-in-SpacesForTabs-clause-is : goal.returns-in-SpacesForTabs-clause-is
unfolding bytes_of
returns-in-SpacesForTabs-clause-is c = rw c.in-SpacesForTabs.is
