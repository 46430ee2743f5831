use mathlib.Core.Path.{refl}
use Rattle.test_stored_calls.proofs.Reporting.{of_figures}
use Rattle.test_stored_calls.proofs.reports.report_in.Goals as goal

pub returns : goal.returns
returns c = of_figures _ _ refl
