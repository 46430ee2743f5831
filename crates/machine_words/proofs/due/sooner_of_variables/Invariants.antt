use Rattle.machine_words.proofs.DueLaws.{VariablesLeft}
use Rattle.machine_words.proofs.due.sooner_of_variables.Given as goal

abbrev pub invariant-loop-i : goal.invariant-loop-i
invariant-loop-i l = VariablesLeft l.m l.at l.k l.due l.found l.i
