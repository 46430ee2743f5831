-- `explain_schedule_said::reason::put_rule` meets its contract.
use native.Mathlib.Omega.{arith}
use Rattle.listing.specs.Bytes.{bytes_of}
use Rattle.explain_schedule_said.specs.Reasons.{rule}
use Rattle.explain_schedule_said.proofs.reason.put_rule.Goals as goal

pub returns : goal.returns
unfolding rule bytes_of
returns c = let p = c.put_text.ensures in (p.0, omega (arith, p.1))
