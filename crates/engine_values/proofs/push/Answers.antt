-- `push` meets its contract: the old top is stored, the value pushed is the new one.
use Prim.Native.Nat.{suc, ◌+◌, ◌<◌}
use mathlib.Core.Path.{◌≡◌}
use native.Mathlib.Omega.{arith}
use lib.ListN.{length, length-set}
use Rattle.engine_values.proofs.Values.{one_more}
use Rattle.engine_values.proofs.push.Goals as goal

pub returns : goal.returns
returns c =
    let a = c.args in
    let count = a.held.count in
    let room : count < length a.values.now = omega (arith, c.requires.0) in
    let next : count + 1 ≡ suc count = omega arith in
    record { size = simp length-set c.requires.0; counted = next; values = rw next (one_more a.values.now count a.held.top a.v room) }
