-- `call_load::write_table` meets its contract.
use Rattle.call_load.proofs.Beginning as beginning
use borrow.Author.Rules.{rules}
use Rattle.call_load.proofs.writing.write_table.Goals as goal

pub loop-p-init : goal.loop-p-init
loop-p-init c = (beginning.writing_begun _ c.requires.0 _ c.args.t.now c.requires.1 c.blank.ensures, search rules)

pub returns : goal.returns
returns c = beginning.writing_done _ c.requires.0 _ _ c.loop-p.invariant.0 c.loop-p-test.false
