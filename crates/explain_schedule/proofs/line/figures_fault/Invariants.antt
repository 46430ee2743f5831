use mathlib.Core.Path.{◌≡◌}
use Prim.Native.Nat.{◌-◌}
use Rattle.explain_schedule.specs.Lines.{figures_fault}
use Rattle.explain_schedule.proofs.line.figures_fault.Given as goal

abbrev pub invariant-loop-before : goal.invariant-loop-before
invariant-loop-before l = figures_fault l.line l.before (l.count - l.before) ≡ figures_fault l.line 0 l.count
