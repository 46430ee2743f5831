-- `page_rows::column_byte` meets its contract.
use mathlib.Core.Path.{sym, ◌∙◌}
use native.Mathlib.Omega.{arith}
use Rattle.page_rows.proofs.Columns as column
use Rattle.page_rows.proofs.bytes.column_byte.Goals as goal

pub returns-then-rest-eq0 : goal.returns-then-rest-eq0
returns-then-rest-eq0 c = sym (column.column_space c.args.rest c.if-rest-eq0.true)

pub returns : goal.returns
returns c = c.digit.ensures ∙ sym (column.column_digit c.args.rest (omega arith))
