-- `page_book::enter_write` meets its contract.
use native.Mathlib.Omega.{arith}
use lib.ListN.{length-set}
use Rattle.page_book.proofs.Entering as entering
use Rattle.page_book.proofs.valves.enter_write.Goals as goal

pub returns-then-value-eq0 : goal.returns-then-value-eq0
returns-then-value-eq0 c =
    let a = c.args in
    let p = c.requires in
    (entering.enters_zero a.first a.memory.now a.valves.now.lines a.valves.now.opened a.valves.now.count a.write.moment a.write.output a.write.value c.number-valve.result c.number-valve.ensures.0 c.if-value-eq0.true _ c.saturating_sub.ensures c.close_row.ensures, omega arith)

pub returns-then-line-ne0 : goal.returns-then-line-ne0
returns-then-line-ne0 c =
    let a = c.args in
    let p = c.requires in
    (entering.enters_still a.first a.memory.now a.valves.now.lines a.valves.now.opened a.valves.now.count a.write.moment a.write.output a.write.value c.number-valve.result c.number-valve.ensures.0 c.if-value-eq0.false c.if-line-ne0.true, omega arith)

pub returns : goal.returns
returns c =
    let a = c.args in
    let p = c.requires in (
      entering.enters_new a.first a.memory.now a.valves.now.lines a.valves.now.opened a.valves.now.count a.write.moment a.write.output a.write.value
          c.number-valve.result c.number-valve.ensures.0 c.if-value-eq0.false c.if-line-ne0.false _ c.line_of-new.ensures.0 c.open_row.ensures,
      omega arith,
    )
