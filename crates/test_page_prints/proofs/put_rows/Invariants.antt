use Rattle.test_page_prints.proofs.Printing.{Rowing}
use Rattle.test_page_prints.proofs.put_rows.Given as goal

abbrev pub invariant-loop-line : goal.invariant-loop-line
invariant-loop-line l = Rowing l.page l.initial.out l.at l.out l.next l.line
