-- `explain_schedule_said::told::put_schedule` meets its contract.
use Rattle.listing.specs.Bytes.{bytes_of}
use Rattle.session_print.proofs.LineBytes as line
use Rattle.explain_schedule_said.proofs.Saying.{long_said, fit_said, refused_said}
use Rattle.explain_schedule_said.proofs.told.put_schedule.Goals as goal

pub returns-then-text-gt-LONGEST : goal.returns-then-text-gt-LONGEST
unfolding bytes_of
returns-then-text-gt-LONGEST c = let p = c.put_plain.ensures in (line.same_bytes (long_said _ _ c.if-text-gt-LONGEST.true) p.0, p.1)

pub returns-then-place-eq0 : goal.returns-then-place-eq0
unfolding bytes_of
returns-then-place-eq0 c = let p = c.put_plain-then-place-eq0.ensures in (line.same_bytes (fit_said _ _ _ c.if-text-gt-LONGEST.false c.refused_line-place.ensures c.if-place-eq0.true) p.0, p.1)

pub returns : goal.returns
returns c = let p = c.put_refused.ensures in (line.same_bytes (refused_said _ _ _ c.if-text-gt-LONGEST.false c.refused_line-place.ensures c.if-place-eq0.false) p.0, p.1)
