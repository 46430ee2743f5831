-- `engine_wake_all::goes_first` meets its contract.
use mathlib.Core.Path.{sym, ap, ◌∙◌}
use Prim.Native.Nat.{ℕ, ◌-◌, ◌/◌}
use lib.Dec.{ltb}
use Rattle.engine_blocks.specs.Blocks.{rows_of}
use Rattle.engine_ready.specs.Ordered.{comes_first}
use Rattle.engine_wake_all.proofs.Putting.{no_trigger, too_far, not_asleep, by_priority}
use Rattle.engine_wake_all.proofs.goes_first.Goals as goal

pub returns-then-next-eq0 : goal.returns-then-next-eq0
returns-then-next-eq0 c = no_trigger _ _ _ _ c.if-next-eq0.true

pub returns-then-next-most : goal.returns-then-next-most
returns-then-next-most c = too_far _ _ _ _ c.if-next-eq0.false c.if-next-most.true

pub returns-then-not-asleep : goal.returns-then-not-asleep
returns-then-not-asleep c = not_asleep _ _ _ _ c.if-next-eq0.false c.if-next-most.false (sym c.asleep.ensures ∙ c.if-not-asleep.true)

pub returns-in-Some : goal.returns-in-Some
unfolding comes_first
returns-in-Some c =
    let own = (rows_of c.args.m.now ((c.args.next - 1) / 4)).low in
    ap (λ (k : ℕ). ltb k c.in-Some.first) c.low-own.ensures ∙ sym (ap (comes_first own) c.in-Some.is)
    ∙ by_priority _ _ _ _ c.if-next-eq0.false c.if-next-most.false (sym c.asleep.ensures ∙ c.if-not-asleep.false)

pub returns-in-None : goal.returns-in-None
unfolding comes_first
returns-in-None c =
    let own = (rows_of c.args.m.now ((c.args.next - 1) / 4)).low in
    sym (ap (comes_first own) c.in-None.is) ∙ by_priority _ _ _ _ c.if-next-eq0.false c.if-next-most.false (sym c.asleep.ensures ∙ c.if-not-asleep.false)
