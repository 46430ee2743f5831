-- `operate` meets its contract: the two on top are joined, the first one pushed on the left; nothing is held where no value comes of it.
use mathlib.Core.Path.{sym, ap, ◌∙◌}
use mathlib.Core.Option.{Option, some}
use Prim.Native.Nat.{ℕ, ◌-◌}
use borrow.Author.Rules.{rules}
use Rattle.listing.specs.Expressions.{bind}
use Rattle.engine_values.specs.Values.{found, sign_of, held, left_by}
use Rattle.engine_values.proofs.Values.{two_joined}
use Rattle.engine_values.proofs.operate.Goals as goal

pub returns-in-Some : goal.returns-in-Some
unfolding left_by found
returns-in-Some c =
    let a = c.args in
    let values = a.values.now in
    let next = ap (λ (o : Option ℕ). bind o (λ v. some (held values (a.held.count - 1) v))) c.in-Some.ensures in
    record { counted = search rules; left = next ∙ sym (two_joined values a.held.count a.held.top (sign_of a.kind) c.requires.2) }

pub returns-in-None : goal.returns-in-None
unfolding left_by found
returns-in-None c =
    let a = c.args in
    let values = a.values.now in
    let next = ap (λ (o : Option ℕ). bind o (λ v. some (held values (a.held.count - 1) v))) c.in-None.ensures in
    record { counted = search rules; left = next ∙ sym (two_joined values a.held.count a.held.top (sign_of a.kind) c.requires.2) }
