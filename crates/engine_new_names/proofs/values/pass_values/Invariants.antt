use Rattle.engine_new_names.proofs.Passing.{Values}
use Rattle.engine_new_names.proofs.values.pass_values.Given as goal

abbrev pub invariant-loop-j : goal.invariant-loop-j
invariant-loop-j l = Values l.t l.initial.m l.me l.s l.at l.count l.bits l.m l.j l.rest l.own
