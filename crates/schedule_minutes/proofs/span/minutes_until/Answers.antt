-- `schedule_minutes::minutes_until` meets its contract.
use native.Mathlib.Omega.{arith}
use mathlib.Core.Path.{sym}
use Rattle.schedule_minutes.proofs.Whole as whole
use Rattle.schedule_minutes.proofs.span.minutes_until.Goals as goal

pub returns-then-b-a : goal.returns-then-b-a
returns-then-b-a c = sym (whole.none_between _ _ c.if-b-a.true)

pub returns : goal.returns
returns c =
    let a = c.args in
    sym (whole.some_between a.first.0 a.to.0 (omega arith))
