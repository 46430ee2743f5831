-- The figures of a call.
use mathlib.Core.Path.{◌≡◌, refl, ap, ◌∙◌}
use Prim.Native.Nat.{ℕ, zero, suc}
use Rattle.call_figures.specs.Figures.{due_in_lem, result_in, DueTold}
use Rattle.call_figures.specs.declared.FabrwentCall.{FabrwentCall}
use Rattle.test_stored_calls.specs.Reports.{due_figure, report_of}
use Rattle.test_stored_answers.specs.declared.Report.{Report}

-- a report of these figures
report : ℕ → ℕ → ℕ → ℕ → Report
report n s l d = record { number = n; steps = s; listed = l; due = d }

-- the moment of figures that tell it is that of the result, 0 if there is none
due_in : (known due : ℕ) → (known ≡ 0 → due ≡ 0) → due ≡ due_figure (due_in_lem known due)
unfolding due_figure due_in_lem
due_in zero due none = none refl
due_in (suc known) due none = refl

pub of_figures : (f : FabrwentCall) (r : Report) → r ≡ record { number = f.number; steps = f.steps; listed = f.listed; due = f.due } → DueTold f → r ≡ report_of (result_in f)
unfolding result_in report
of_figures f r e told = e ∙ ap (report f.number f.steps f.listed) (due_in f.due_known f.due told.none)
