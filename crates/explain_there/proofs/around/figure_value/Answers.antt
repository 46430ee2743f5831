-- `explain_there::around::figure_value` meets its contract.
use mathlib.Core.Path.{sym, ap, ◌∙◌}
use native.Mathlib.Omega.{arith}
use Rattle.text_piece.specs.Pieces.{figure_answer}
use Rattle.explain_fields.proofs.Pieces.{whole}
use Rattle.explain_there.specs.Arounds.{value_in}
use Rattle.explain_there.proofs.Arounds.{capped}
use Rattle.explain_there.proofs.around.figure_value.Goals as goal

pub returns-in-Value : goal.returns-in-Value
returns-in-Value c =
    let e = sym c.in-Value.is ∙ c.figure_of-f.ensures ∙ ap figure_answer (whole _) in
    (ap value_in e, capped _ _ e)

pub returns-in-Bad : goal.returns-in-Bad
returns-in-Bad c =
    let e = sym c.in-Bad.is ∙ c.figure_of-f.ensures ∙ ap figure_answer (whole _) in
    (ap value_in e, omega arith)
