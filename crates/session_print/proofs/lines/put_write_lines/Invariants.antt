use Rattle.session_print.proofs.ListedWrites as listed
use Rattle.session_print.proofs.lines.put_write_lines.Given as goal

abbrev pub invariant-loop-number : goal.invariant-loop-number
invariant-loop-number l = listed.Putting l.initial.out l.at l.moment l.numbers l.values l.out l.place l.number-iterator.a.rest.now l.number-iterator.b.rest.now
