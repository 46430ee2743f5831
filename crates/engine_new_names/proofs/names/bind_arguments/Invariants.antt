use Rattle.engine_new_names.proofs.Naming.{Arguments}
use Rattle.engine_new_names.proofs.names.bind_arguments.Given as goal

abbrev pub invariant-loop-j : goal.invariant-loop-j
invariant-loop-j l = Arguments l.t l.initial.m l.me l.s l.at l.count l.bits l.m l.j l.rest l.own
