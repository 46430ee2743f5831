-- `explain::arguments::is_flag` meets its contract.
use native.Mathlib.Omega.{arith}
use Rattle.explain.proofs.Sayings.{other_length, other_first, by_second}
use Rattle.explain.proofs.arguments.is_flag.Goals as goal

pub returns-then-word-ne2 : goal.returns-then-word-ne2
returns-then-word-ne2 c = other_length _ c.if-word-ne2.true

pub bounds-word-0 : goal.bounds-word-0
bounds-word-0 c = omega (arith, c.if-word-ne2.false)

pub returns-then-word-ne45 : goal.returns-then-word-ne45
returns-then-word-ne45 c = other_first _ c.if-word-ne2.false c.if-word-ne45.true

pub bounds-word-1 : goal.bounds-word-1
bounds-word-1 c = omega (arith, c.if-word-ne2.false)

pub returns : goal.returns
returns c = by_second _ c.if-word-ne2.false c.if-word-ne45.false
