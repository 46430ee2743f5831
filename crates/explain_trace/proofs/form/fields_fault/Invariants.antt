use mathlib.Core.Path.{◌≡◌}
use Prim.Native.Nat.{◌+◌, ◌-◌}
use Rattle.explain_trace.specs.Forms.{fields_fault}
use Rattle.explain_trace.proofs.form.fields_fault.Given as goal

abbrev pub invariant-loop-number : goal.invariant-loop-number
invariant-loop-number l = fields_fault l.line l.number (l.count + 1 - l.number) ≡ fields_fault l.line 1 l.count
