use mathlib.Core.Path.{◌≡◌}
use Rattle.table.specs.Decode.{head_after}
use Rattle.table_read.proofs.head_after.Given as goal

abbrev pub invariant-loop : goal.invariant-loop
invariant-loop l = l.head ≡ head_after l.t l.first l.counter
