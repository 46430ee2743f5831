use Rattle.test_cases.proofs.Texts as texts
use Rattle.test_cases.proofs.report.put_text.Given as goal

abbrev pub invariant-loop-k : goal.invariant-loop-k
invariant-loop-k l = texts.Putting l.initial.out l.at l.text l.out l.k
