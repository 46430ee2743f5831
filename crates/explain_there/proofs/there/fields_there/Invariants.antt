use mathlib.Core.Path.{◌≡◌}
use Prim.Native.Nat.{◌+◌, ◌-◌}
use Rattle.explain_there.specs.There.{fields_there}
use Rattle.explain_there.proofs.there.fields_there.Given as goal

abbrev pub invariant-loop-number : goal.invariant-loop-number
invariant-loop-number l = fields_there l.scope l.letter l.line l.number (l.count + 1 - l.number) ≡ fields_there l.scope l.letter l.line 1 l.count
