use Rattle.table_lines.proofs.Openings as openings
use Rattle.table_lines.proofs.opens.kind_bits.Given as goal

abbrev pub invariant-loop-i : goal.invariant-loop-i
invariant-loop-i l = openings.BitsFrom l.s l.from l.to l.i l.bits
