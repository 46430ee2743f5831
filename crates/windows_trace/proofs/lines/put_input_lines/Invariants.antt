use lib.ListN.{length}
use Rattle.windows_trace.proofs.PutLines as put
use Rattle.windows_trace.proofs.lines.put_input_lines.Given as goal

abbrev pub invariant-loop-k : goal.invariant-loop-k
invariant-loop-k l = put.Putting l.initial.out l.moments l.inputs l.values (length l.moments) l.out l.place l.k
