use Rattle.page_rows.proofs.Columns as column
use Rattle.page_rows.proofs.bytes.put_figure.Given as goal

abbrev pub invariant-loop-k : goal.invariant-loop-k
invariant-loop-k l = column.Storing l.initial.out l.at l.initial.k l.initial.rest l.out l.k l.rest
