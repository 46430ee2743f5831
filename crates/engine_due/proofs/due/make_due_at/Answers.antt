-- `engine_due::due::make_due_at` meets its contract.
use Rattle.engine_due.proofs.Passing.{due_made}
use Rattle.engine_due.proofs.ReachedBlocks.{all_reach, environment_told}
use borrow.Author.Rules.{rules}
use Rattle.engine_due.proofs.due.make_due_at.Goals as goal

pub returns-then-dues-present : goal.returns-then-dues-present
returns-then-dues-present c =
    let a = c.args in
    let p = c.requires in
    let slots = c.make_due_slots-woken.ensures in (
      due_made a.n a.present.0 (search rules) (search rules) a.m.now _ _ slots.0 (environment_told a.n a.present.0 slots.0 (p.4.environment c.if-dues-present.true)),
      slots.1,
      slots.2 a.n,
    )

pub returns : goal.returns
returns c =
    let a = c.args in
    let slots = c.make_due_slots-woken.ensures in
    let outer = c.make_due_in.ensures in (
      due_made a.n a.present.0 (search rules) (search rules) a.m.now _ _ slots.0 outer.0,
      outer.1,
      λ N. all_reach a.n a.present.0 (search rules) slots.0 slots.2 outer.2 N,
    )
