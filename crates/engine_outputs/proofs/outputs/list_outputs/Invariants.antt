use Rattle.engine_outputs.proofs.OutputPass.{ListedSoFar}
use Rattle.walk.specs.Instant.{written_from}
use Rattle.engine_blocks.specs.Blocks.{environment_of}
use Prim.Native.Nat.{◌+◌}
use mathlib.Core.Path.{◌≡◌}
use lib.ListN.{length, drop}
use Rattle.engine_outputs.proofs.outputs.list_outputs.Given as goal

abbrev pub invariant-loop-i : goal.invariant-loop-i
invariant-loop-i l =
    (length l.numbers ≡ length l.initial.numbers) × (length l.values ≡ length l.initial.values) ×
    ListedSoFar (written_from l.inputs (drop l.inputs (environment_of (l.inputs + l.outputs) l.m))) (environment_of (l.inputs + l.outputs) l.m) l.i l.initial.numbers l.initial.values l.numbers l.values l.count
