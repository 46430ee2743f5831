-- `engine_due::due::make_due_slot` meets its contract.
use mathlib.Core.Path.{sym, ◌∙◌}
use Rattle.engine_ready.specs.Slots.{slots_of}
use Rattle.engine_due.proofs.Turns.{free_slot_stays, taken_slot_done, block_passed_over}
use Rattle.engine_due.proofs.Reached.{reaches_none}
use Rattle.engine_due.proofs.ReachedBlocks.{slot_reaches}
use borrow.Author.Rules.{rules}
use Rattle.engine_due.proofs.due.make_due_slot.Goals as goal

pub returns-then-due-present : goal.returns-then-due-present
returns-then-due-present c =
    let a = c.args in
    let p = c.requires in
    (block_passed_over a.m.now a.s _ (p.3 c.if-due-present.true), p.4, λ n u. reaches_none n a.m.now (slots_of a.ready))

pub returns-then-taken-eq0 : goal.returns-then-taken-eq0
returns-then-taken-eq0 c =
    let a = c.args in (
      free_slot_stays a.present.0 a.m.now a.s (sym c.word_at-taken.ensures ∙ c.if-taken-eq0.true),
      c.requires.4,
      λ n u. reaches_none n a.m.now (slots_of a.ready),
    )

pub returns : goal.returns
returns c =
    let a = c.args in
    let own = c.own_count-count.ensures in
    let made = c.make_due_in.ensures in (
      taken_slot_done a.present.0 _ (λ z. c.if-taken-eq0.false (c.word_at-taken.ensures ∙ z)) own made.0,
      made.1,
      λ n u. slot_reaches n a.s _ (search rules) own made.2 u,
    )
