use Rattle.session_print.proofs.Decimals as decimals
use Rattle.session_print.proofs.figure.put_figure.Given as goal

abbrev pub invariant-loop-k : goal.invariant-loop-k
invariant-loop-k l = decimals.Storing l.initial.out l.at l.n l.count l.out l.k l.rest
