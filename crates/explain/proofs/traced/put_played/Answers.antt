-- `explain::traced::put_played` meets its contract.
use Rattle.listing.specs.Bytes.{bytes_of}
use Rattle.explain.specs.Traced.{unplayed, too_long, fails, played}
use Rattle.explain_listing.proofs.Judging.{refused_as}
use Rattle.explain.proofs.Sayings.{session_few}
use Rattle.explain.proofs.traced.put_played.Goals as goal

pub returns-in-Ok : goal.returns-in-Ok
returns-in-Ok c = let s = c.put_session.ensures in (played (rw c.in-Ok.is at c.judge.ensures) s, session_few s)

pub returns-in-Err-TooLong : goal.returns-in-Err-TooLong
unfolding unplayed bytes_of
returns-in-Err-TooLong c = let p = c.put_named.ensures in (too_long (rw (refused_as c.in-Err-TooLong.is c.in-Err-TooLong.field-0-is) at c.judge.ensures) p.0, p.1)

pub returns-in-Err-Fails : goal.returns-in-Err-Fails
unfolding unplayed bytes_of
returns-in-Err-Fails c = let p = c.put_named-in-Err-Fails.ensures in (fails (rw (refused_as c.in-Err-Fails.is c.in-Err-Fails.field-0-is) at c.judge.ensures) p.0, p.1)
