-- `engine_wake::wake_from` meets its contract.
use mathlib.Core.Path.{◌≡◌, sym, ◌∙◌}
use Prim.Native.Nat.{suc, ◌-◌, ◌/◌, ◌≤◌, ◌<◌}
use native.Mathlib.Omega.{arith}
use borrow.Author.Rules.{rules}
use Rattle.engine_blocks.specs.Blocks.{rows_of}
use Rattle.engine_ready.specs.Slots.{slots_of}
use Rattle.engine_wake.proofs.Waking.{ordered_insert_if, rest_start, rest_past, rest_next, rest_last, rest_end}
use Rattle.engine_triggers.specs.Chains.{first_trigger, next_trigger}
use Rattle.engine_wake.specs.Wakes.{wakes}
use Rattle.engine_wake.proofs.wake_from.Goals as goal

pub returns-then-next-gt256 : goal.returns-then-next-gt256
returns-then-next-gt256 c =
    let a = c.args in
    let e : c.number-next.result ≡ first_trigger a.m.now a.s a.index = c.number-next.ensures.0 ∙ c.word_at.ensures in
    let far : 256 < first_trigger a.m.now a.s a.index = omega arith in
    (rest_past a.m.now a.from a.s a.index (slots_of a.q) far, search rules)

pub loop-next-init : goal.loop-next-init
loop-next-init c =
    let a = c.args in
    let m = a.m.now in
    let e : c.number-next.result ≡ first_trigger m a.s a.index = c.number-next.ensures.0 ∙ c.word_at.ensures in
    let near : first_trigger m a.s a.index ≤ 256 = omega arith in
    (search rules, search rules, rw e (rest_start m a.from a.s a.index (slots_of a.q) near))

pub returns-then-next-n : goal.returns-then-next-n
returns-then-next-n c =
    let a = c.args in
    let v = c.loop-next in
    let m = a.m.now in
    let n = v.next - 1 in
    let l = slots_of v.woken in
    let f : v.next ≡ suc n = omega arith in
    let new = c.wake_one-woken.ensures in
    let e : c.number-next-in-loop-next.result ≡ next_trigger m n = c.number-next-in-loop-next.ensures.0 ∙ c.word_at-in-loop-next.ensures in
    let far : n < next_trigger m n = omega arith in
    let whole = rw f at v.invariant.2 in (
      new ∙ sym (rest_last m a.from n l far) ∙ whole,
      rw new (ordered_insert_if (rows_of m) (wakes (rows_of m) a.from (n / 4)) (n / 4) l (omega arith) v.invariant.1),
    )

pub loop-next-preserved : goal.loop-next-preserved
loop-next-preserved c =
    let a = c.args in
    let v = c.loop-next in
    let m = a.m.now in
    let n = v.next - 1 in
    let l = slots_of v.woken in
    let f : v.next ≡ suc n = omega arith in
    let new = c.wake_one-woken.ensures in
    let e : c.number-next-in-loop-next.result ≡ next_trigger m n = c.number-next-in-loop-next.ensures.0 ∙ c.word_at-in-loop-next.ensures in
    let near : next_trigger m n ≤ n = omega arith in
    let whole = rw f at v.invariant.2 in (
      omega arith,
      rw new (ordered_insert_if (rows_of m) (wakes (rows_of m) a.from (n / 4)) (n / 4) l (omega arith) v.invariant.1),
      rw (e, new) (sym (rest_next m a.from n l near) ∙ whole),
    )

pub returns : goal.returns
returns c =
    let a = c.args in
    let v = c.loop-next in
    let m = a.m.now in
    let z : v.next ≡ 0 = omega arith in
    let whole = rw z at v.invariant.2 in
    (sym (rest_end m a.from (slots_of v.woken)) ∙ whole, v.invariant.1)
