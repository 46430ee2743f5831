-- `explain_session::session::put_session` meets its contract.
use Rattle.listing.specs.Bytes.{bytes_of}
use Rattle.explain_session.specs.Sessions.{too_long, ends}
use Rattle.explain_session.proofs.session.put_session.Goals as goal

pub returns-then-trace-gt-LONGEST : goal.returns-then-trace-gt-LONGEST
unfolding bytes_of
returns-then-trace-gt-LONGEST c = let p = c.put_plain.ensures in too_long c.if-trace-gt-LONGEST.true p.0 p.1

pub returns : goal.returns
returns c = let p = c.put_ended.ensures in ends c.if-trace-gt-LONGEST.false c.how_it_ends-ended.ensures p.0 p.1
