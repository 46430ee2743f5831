use Rattle.engine_finish.proofs.PlaceTurns.{none_placed, slot_small, one_more_placed}
use Prim.Native.Nat.{◌+◌}
use mathlib.Core.Path.{◌≡◌}
use native.Mathlib.Omega.{arith}
use borrow.Author.Rules.{rules}
use Rattle.engine_finish.proofs.places.set_places.Goals as goal

pub loop-k-init : goal.loop-k-init
loop-k-init c = none_placed c.args.m.now

pub overflow_cast-slot : goal.overflow_cast-slot
overflow_cast-slot c = omega (arith, c.type_inv.m (64 + c.loop-k.k))

pub put_word-requires : goal.put_word-requires
put_word-requires c =
    let a = c.args in
    let v = c.loop-k in
    let z = slot_small v.k a.count (search rules) (search rules) (search rules) c.requires.2 c.requires.3 v.invariant in
    (search rules, omega (arith, z), search rules)

pub loop-k-preserved : goal.loop-k-preserved
loop-k-preserved c =
    let a = c.args in
    let v = c.loop-k in
    one_more_placed v.k a.count (search rules) (search rules) (search rules) c.requires.2 c.requires.3 v.invariant c.put_word.ensures

pub returns : goal.returns
returns c =
    let v = c.loop-k in
    let z : v.k ≡ c.args.count = omega arith in
    rw z at v.invariant
