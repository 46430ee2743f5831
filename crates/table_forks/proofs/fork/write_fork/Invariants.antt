use Prim.Native.Nat.{◌-◌}
use Rattle.table_forks.proofs.Calls as calls
use Rattle.table_forks.proofs.fork.write_fork.Given as goal

abbrev pub invariant-loop-stop : goal.invariant-loop-stop
invariant-loop-stop l = calls.Forking l.s l.initial.t l.to.cells l.initial.at.offset l.initial.at.line l.initial.stop l.t l.at.offset l.at.line l.stop l.count l.cells

abbrev pub decreases-loop-stop : goal.decreases-loop-stop
decreases-loop-stop l = 8 - l.count
