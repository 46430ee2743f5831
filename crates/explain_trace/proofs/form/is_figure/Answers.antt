-- `explain_trace::form::is_figure` meets its contract.
use mathlib.Core.Path.{sym, ap, ◌∙◌}
use Prim.Native.Nat.{◌+◌}
use Rattle.walk.specs.Trace.{read_below}
use Rattle.session_trace_lines.specs.Figures.{below_answer}
use Rattle.explain_fields.proofs.Pieces.{whole}
use Rattle.explain_trace.proofs.Fields.{is_read, not_read}
use Rattle.explain_trace.proofs.form.is_figure.Goals as goal

pub returns-in-Value : goal.returns-in-Value
returns-in-Value c =
    let a = c.args in
    is_read _ (read_below (a.most + 1) a.field.now) (sym c.in-Value.is ∙ c.figure_up_to-read.ensures ∙ ap (below_answer (a.most + 1)) (whole a.field.now))

pub returns-in-Bad : goal.returns-in-Bad
returns-in-Bad c =
    let a = c.args in
    not_read (read_below (a.most + 1) a.field.now) (sym c.in-Bad.is ∙ c.figure_up_to-read.ensures ∙ ap (below_answer (a.most + 1)) (whole a.field.now))
