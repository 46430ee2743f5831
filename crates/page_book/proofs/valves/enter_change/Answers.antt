-- `page_book::enter_change` meets its contract.
use mathlib.Core.Path.{sym, ◌∙◌}
use native.Mathlib.Omega.{arith}
use Rattle.page_book.proofs.Entering as entering
use Rattle.page_book.proofs.valves.enter_change.Goals as goal

pub returns-then-leaves_valve : goal.returns-then-leaves_valve
returns-then-leaves_valve c =
    let a = c.args in
    let p = c.requires in
    (entering.enters_same a.first a.memory.now a.valves.now.lines a.valves.now.opened a.valves.now.count a.write.moment a.write.output a.write.value c.number-valve.result c.number-valve.ensures.0 (sym c.leaves_valve.ensures ∙ c.if-leaves_valve.true), omega arith)
