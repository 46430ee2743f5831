use Rattle.engine_new_names.proofs.OwnNames.{OwnNames}
use Rattle.engine_new_names.proofs.names.bind_own.Given as goal

abbrev pub invariant-loop-j : goal.invariant-loop-j
invariant-loop-j l = OwnNames l.initial.m l.s l.from l.count l.own l.m l.j
