-- `machine_check_slots::slot_holds` meets its contract.
use mathlib.Core.Path.{sym, ◌∙◌}
use borrow.Author.Tests.{le-leb, lt-leb, eq-eqb, ne_eqb}
use Rattle.machine.specs.Words.{slot_holds}
use Rattle.machine.specs.Due.{due_at}
use Rattle.machine_words.specs.Tests.{slot_due_lem}
use Rattle.machine_words.proofs.DueOrder.{none_in_free}
use Rattle.machine_words.proofs.TestLaws.{fails, passes}
use Rattle.machine_check_slots.proofs.slot_holds.Goals as goal

pub returns-then-not-zero_from : goal.returns-then-not-zero_from
unfolding slot_holds
returns-then-not-zero_from c = fails _ _ (rw (← c.number-p.ensures.0, eq-eqb _ _ c.if-p-eq0.true, sym c.zero_from.ensures ∙ c.if-not-zero_from.true))

pub returns-then-p-eq0 : goal.returns-then-p-eq0
unfolding slot_holds due_at
returns-then-p-eq0 c = passes _ _ _ (rw (← c.number-p.ensures.0, eq-eqb _ _ c.if-p-eq0.true, sym c.zero_from.ensures ∙ c.if-not-zero_from.false)) (none_in_free _ _ (sym c.zero_from.ensures ∙ c.if-not-zero_from.false))

pub returns-then-n-p : goal.returns-then-n-p
unfolding slot_holds
returns-then-n-p c = fails _ _ (rw (← c.number-p.ensures.0, ne_eqb _ _ c.if-p-eq0.false, lt-leb _ _ c.if-n-p.true))

pub returns-then-number-s : goal.returns-then-number-s
unfolding slot_holds
returns-then-number-s c = fails _ _ (rw (← c.number-p.ensures.0, ne_eqb _ _ c.if-p-eq0.false, le-leb _ _ c.if-n-p.false, ← c.number.ensures.0, ne_eqb _ _ c.if-number-s.true))

pub returns-then-not-zero_from-2 : goal.returns-then-not-zero_from-2
unfolding slot_holds
returns-then-not-zero_from-2 c = fails _ _ (rw (← c.number-p.ensures.0, ne_eqb _ _ c.if-p-eq0.false, le-leb _ _ c.if-n-p.false, ← c.number.ensures.0, eq-eqb _ _ c.if-number-s.false, sym c.zero_from-2.ensures ∙ c.if-not-zero_from-2.true))

pub returns : goal.returns
unfolding slot_holds slot_due_lem
returns c =
    rw (
      ← c.number-p.ensures.0,
      ne_eqb _ _ c.if-p-eq0.false,
      le-leb _ _ c.if-n-p.false,
      ← c.number.ensures.0,
      eq-eqb _ _
          c.if-number-s.false,
      sym c.zero_from-2.ensures ∙ c.if-not-zero_from-2.false,
      ← c.number-k.ensures.0,
    ) c.block_rests.ensures
