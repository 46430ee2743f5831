use Rattle.test_stored_answers.proofs.Pairing.{Numbers, Values}
use Rattle.test_stored_answers.proofs.inputs.read_pairs.Given as goal

abbrev pub invariant-loop-k : goal.invariant-loop-k
invariant-loop-k l = Numbers l.s l.from l.initial.numbers l.numbers l.at l.k × Values l.s l.from l.initial.values l.values l.at l.k
