-- `engine_ready::put_first` meets its contract.
use mathlib.Core.Path.{◌≡◌, refl}
use Prim.Native.Nat.{◌+◌, ◌-◌}
use native.Mathlib.Omega.{arith}
use lib.ListN.{length}
use borrow.Author.Rules.{rules}
use Rattle.engine_ready.specs.Slots.{slots_of}
use Rattle.engine_ready.proofs.Falling.{falling_over}
use Rattle.engine_ready.proofs.put_first.Goals as goal

pub returns : goal.returns
unfolding slots_of
returns c =
    let a = c.args in
    let long : length a.q.places ≡ 64 = search rules in
    let n = a.q.count in
    (refl, rw c.copy_from_slice.ensures.after (falling_over a.q.places a.new.now n (n + length a.new.now - n) (omega arith) (omega arith)))
