use mathlib.Core.Path.{◌≡◌}
use mathlib.Core.List.{◌++◌, map}
use lib.ListN.{take, drop}
use Rattle.book_writes.specs.Gathered.{as_in_trace}
use Rattle.book_writes.proofs.make_trace.Given as goal

abbrev pub invariant-loop-b : goal.invariant-loop-b
invariant-loop-b l = l.print ≡ map as_in_trace (take l.b-index l.initial.print) ++ drop l.b-index l.initial.print
