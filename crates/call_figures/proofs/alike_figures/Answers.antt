-- `call_figures::alike_figures` meets its contract.
use mathlib.Core.Path.{sym, ap, ◌∙◌}
use Prim.Native.Nat.{ℕ}
use Rattle.call_figures.specs.Answers.{of_comparison}
use Rattle.call_figures.proofs.Says.{bit_of_lem}
use Rattle.call_figures.proofs.alike_figures.Goals as goal

pub returns-in-Ok : goal.returns-in-Ok
returns-in-Ok c = ap (λ (k : ℕ). record { number = 0; place = 0; alike = k }) (c.from.ensures ∙ bit_of_lem _) ∙ ap of_comparison (sym c.in-Ok.is)

pub returns-in-Err : goal.returns-in-Err
returns-in-Err c = ap (λ (k : ℕ). record { number = k; place = 0; alike = 0 }) c.number.ensures ∙ ap of_comparison (sym c.in-Err.is)
