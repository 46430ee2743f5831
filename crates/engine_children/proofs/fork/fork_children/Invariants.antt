use Rattle.engine_children.proofs.Forking.{Forking}
use Rattle.engine_children.proofs.fork.fork_children.Given as goal

abbrev pub invariant-loop-i : goal.invariant-loop-i
invariant-loop-i l = Forking l.t l.initial.m l.me l.cells l.n l.m l.places l.head l.i
