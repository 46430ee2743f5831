-- `engine_ready::pop` meets its contract.
use mathlib.Core.List.{◌∷◌}
use mathlib.Core.Path.{◌≡◌, sym, ap, ◌∙◌}
use Prim.Native.Nat.{ℕ, suc, ◌-◌}
use native.Mathlib.Nat.{zero-add}
use native.Mathlib.Omega.{arith}
use lib.ListN.{get_or}
use borrow.Author.Rules.{rules}
use Rattle.engine_ready.specs.Slots.{falling, slots_of}
use Rattle.engine_ready.proofs.pop.Goals as goal

pub returns : goal.returns
unfolding slots_of falling
returns c =
    let q = c.args.q in
    let e : q.count ≡ suc (q.count - 1) = omega arith in
    (search rules, ap (falling q.places 0) e ∙ ap (λ (k : ℕ). k ∷ falling q.places 0 (q.count - 1)) (ap (λ (k : ℕ). get_or q.places k 0) (zero-add (q.count - 1)) ∙ sym c.from-slot.ensures))
