use Prim.Native.Nat.{◌+◌, ◌*◌, ◌-◌}
use mathlib.Core.Path.{◌≡◌}
use Rattle.machine.specs.Words.{variables_rest}
use Rattle.machine_words.proofs.DueLaws.{VariablesLeft}
use Rattle.machine_words.proofs.variables_rest.Given as goal

abbrev pub invariant-loop-i : goal.invariant-loop-i
invariant-loop-i l = (variables_rest l.present.0 l.m (l.at + l.i * 6) (l.k - l.i) ≡ variables_rest l.present.0 l.m l.at l.k) × VariablesLeft l.m l.at l.k 0 l.found l.i
