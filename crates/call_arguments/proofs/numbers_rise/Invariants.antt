use Prim.Native.Nat.{◌≤◌}
use mathlib.Core.Path.{◌≡◌}
use lib.ListN.{length, drop}
use Rattle.call_arguments.specs.Asked.{numbers_rise}
use Rattle.call_arguments.proofs.numbers_rise.Given as goal

abbrev pub invariant-loop-input : goal.invariant-loop-input
invariant-loop-input l = (l.input-index ≤ length l.numbers) × (l.least ≤ 4294967296) × (numbers_rise l.inputs l.least (drop l.input-index l.numbers) ≡ numbers_rise l.inputs 0 l.numbers)
