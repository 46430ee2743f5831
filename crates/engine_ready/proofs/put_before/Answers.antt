-- `engine_ready::put_before` meets its contract.
use mathlib.Core.Path.{◌≡◌, refl, ◌∙◌}
use Prim.Native.Nat.{◌+◌, ◌-◌, ◌≤◌, ◌<◌}
use native.Mathlib.Numerals.{add-one}
use native.Mathlib.Omega.{arith}
use lib.ListN.{length, length-set, get_or}
use borrow.Author.Rules.{rules}
use Rattle.engine_ready.specs.Slots.{falling, slots_of}
use Rattle.engine_ready.proofs.Falling.{falling_set, put_below, put_all}
use Rattle.engine_ready.proofs.put_before.Goals as goal

pub loop-i-init : goal.loop-i-init
unfolding falling
loop-i-init c = (search rules, refl, refl)

pub loop-i-preserved : goal.loop-i-preserved
loop-i-preserved c =
    let a = c.args in
    let v = c.loop-i in
    let few = c.requires in
    let more : v.i < a.count = search rules in
    let eight : length a.new ≡ 8 = search rules in
    let e = a.q.count + a.count in
    let at = e - 1 - v.i in
    let x = get_or a.new v.i 0 in
    let room : e ≤ length v.p = omega (arith, v.invariant.0, few.0) in (
      length-set v.p at x ∙ v.invariant.0,
      rw add-one (put_below v.p a.new e v.i (omega (arith, eight, few.1)) (omega arith) room v.invariant.1),
      falling_set v.p at x 0 a.q.count (λ j l m q. omega arith) ∙ v.invariant.2,
    )

pub returns : goal.returns
unfolding slots_of
returns c =
    let a = c.args in
    let v = c.loop-i in
    let z : v.i ≡ a.count = omega arith in
    let n : a.q.count + a.count - a.count ≡ a.q.count = omega arith in
    (refl, put_all v.p a.new (falling a.q.places 0 a.q.count) a.q.count a.count (rw (z, n) at v.invariant.1) v.invariant.2)
