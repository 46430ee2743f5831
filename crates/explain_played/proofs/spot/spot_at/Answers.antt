-- `explain_played::spot::spot_at` meets its contract.
use mathlib.Core.Path.{sym}
use native.Mathlib.Omega.{arith}
use lib.Seq.{length-take-le}
use borrow.Author.Tests.{le-leb, lt-leb}
use Rattle.explain_played.specs.Spots.{spot_at}
use Rattle.explain_played.proofs.spot.spot_at.Goals as goal

pub returns-then-at-trace : goal.returns-then-at-trace
unfolding spot_at
returns-then-at-trace c = rw (lt-leb _ _ c.if-at-trace.true)

pub slice_bounds-count_parts-end : goal.slice_bounds-count_parts-end
slice_bounds-count_parts-end c = sym (length-take-le _ _ c.if-at-trace.false)

pub count_parts-requires : goal.count_parts-requires
count_parts-requires c = let a = c.args in omega (arith, length-take-le a.at a.trace.now c.if-at-trace.false, c.if-at-trace.false, c.requires)

pub returns : goal.returns
unfolding spot_at
returns c = rw (le-leb _ _ c.if-at-trace.false, c.count_parts.ensures, c.soonest.ensures, c.time_at.ensures)
