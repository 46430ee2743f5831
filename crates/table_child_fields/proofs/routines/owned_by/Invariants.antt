use Rattle.table_child_fields.proofs.TableLaws.{OwnedLeft}
use Rattle.table_child_fields.proofs.routines.owned_by.Given as goal

abbrev pub invariant-loop : goal.invariant-loop
invariant-loop l = OwnedLeft l.t l.r l.arguments l.bits l.owned l.counter
