use mathlib.Core.Path.{◌≡◌}
use lib.ListN.{replicate}
use lib.Seq.{sets}
use Rattle.page_rows.specs.Rows.{blank_row, joined}
use Rattle.page_rows.proofs.rows.put_blank_rows.Given as goal

abbrev pub invariant-loop-line : goal.invariant-loop-line
invariant-loop-line l = l.out ≡ sets l.initial.out 0 (joined (replicate l.line blank_row))
