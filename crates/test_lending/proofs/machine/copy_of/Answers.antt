use mathlib.Core.Path.{sym, ◌∙◌}
use Rattle.test_lending.proofs.Lending.{copy_is}
use Rattle.test_lending.proofs.machine.copy_of.Goals as goal

pub returns : goal.returns
returns c =
    let u = c.unused_memory-words in
    let k = c.copy in
    (u.ensures.0 ∙ sym k.auto.to, copy_is c.args.machine.now u.result k.new.to u.ensures.0 k.ensures)
