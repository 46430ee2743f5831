use Rattle.engine_new_names.proofs.OwnNames.{EnvironmentVariables}
use Rattle.engine_main_row.proofs.main_routine.bind_environment.Given as goal

abbrev pub invariant-loop-j : goal.invariant-loop-j
invariant-loop-j l = EnvironmentVariables l.initial.m l.s l.count l.m l.j
