-- `explain_trace::form::fits_letter` meets its contract.
use mathlib.Core.Path.{ap}
use Rattle.explain_lines.specs.Letters.{counts}
use Rattle.explain_trace.specs.Forms.{fits_letter}
use Rattle.explain_trace.proofs.form.fits_letter.Goals as goal

pub returns-in-Some : goal.returns-in-Some
unfolding fits_letter
returns-in-Some c = ap (counts c.args.count) c.in-Some.ensures

pub returns-in-None : goal.returns-in-None
unfolding fits_letter
returns-in-None c = ap (counts c.args.count) c.in-None.ensures
