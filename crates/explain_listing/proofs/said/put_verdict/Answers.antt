-- `explain_listing::said::put_verdict` meets its contract.
use mathlib.Core.Path.{refl}
use Rattle.listing.specs.Bytes.{bytes_of}
use Rattle.explain_listing.specs.Said.{verdict_line}
use Rattle.explain_listing.proofs.Judging.{refused_as}
use Rattle.explain_listing.proofs.Sayings.{verdict_said}
use Rattle.explain_listing.proofs.said.put_verdict.Goals as goal

pub returns-in-Ok : goal.returns-in-Ok
unfolding verdict_line bytes_of
returns-in-Ok c = let text = c.put_named.ensures in verdict_said c.judge.ensures c.in-Ok.is refl text.0 text.1

pub returns-in-Err-TooLong : goal.returns-in-Err-TooLong
unfolding verdict_line bytes_of
returns-in-Err-TooLong c = let text = c.put_named-in-Err-TooLong.ensures in verdict_said c.judge.ensures (refused_as c.in-Err-TooLong.is c.in-Err-TooLong.field-0-is) refl text.0 text.1

pub returns-in-Err-Fails : goal.returns-in-Err-Fails
unfolding verdict_line
returns-in-Err-Fails c = let text = c.put_refusal.ensures in verdict_said c.judge.ensures (refused_as c.in-Err-Fails.is c.in-Err-Fails.field-0-is) refl text.0 text.1
