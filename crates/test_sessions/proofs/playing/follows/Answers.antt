use mathlib.Core.Path.{◌≡◌, refl, sym, ◌∙◌}
use Prim.Native.Nat.{◌+◌, ◌-◌}
use native.Mathlib.Omega.{arith}
use borrow.Author.Rules.{rules}
use lib.ListN.{take, drop}
use Rattle.test_sessions.specs.Playing.{follows, differs}
use Rattle.test_sessions.proofs.Steps.{part_is}
use Rattle.test_sessions.proofs.playing.follows.Goals as goal

pub returns-then-out-n : goal.returns-then-out-n
returns-then-out-n c = differs (λ p. let h = p.printed in omega arith)

pub returns-then-print-at : goal.returns-then-print-at
returns-then-print-at c = differs (λ p. let h = p.stored in omega arith)

pub returns-then-print-at-2 : goal.returns-then-print-at-2
returns-then-print-at-2 c = differs (λ p. let h = p.stored in omega arith)

pub returns-then-eq : goal.returns-then-eq
returns-then-eq c =
    let a = c.args in
    let same : take (a.at + a.n - a.at) (drop a.at a.print.now) ≡ take a.n a.out.now = search rules in
    follows refl (record { printed = omega arith; stored = omega arith; same = sym (part_is a.print.now a.at a.n) ∙ same })

pub returns-else-eq : goal.returns-else-eq
returns-else-eq c =
    let a = c.args in
    let apart : (take (a.at + a.n - a.at) (drop a.at a.print.now) ≡ take a.n a.out.now) → ⊥ = search rules in
    differs (λ p. apart (part_is a.print.now a.at a.n ∙ p.same))
