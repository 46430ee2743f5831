-- `table_child_fields::routines::owned_by` meets its contract.
use Rattle.table_child_fields.proofs.TableLaws.{owned_begins, owned_value, owned_reference, owned_ends}
use borrow.Author.Rules.{rules}
use Rattle.table_child_fields.proofs.routines.owned_by.Goals as goal

pub loop-init : goal.loop-init
loop-init c = owned_begins _ _ _ _ _ c.requires.1 c.number-arguments.ensures.0 c.number-bits.ensures.0 c.number-owned.ensures.0 c.number-owned.ensures.1

pub loop-preserved : goal.loop-preserved
loop-preserved c = search (rules, owned_value, owned_reference)

pub returns : goal.returns
returns c = owned_ends _ _ _ _ _ _ c.loop-test.false c.loop.invariant
