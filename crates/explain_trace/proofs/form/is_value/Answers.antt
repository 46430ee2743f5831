-- `explain_trace::form::is_value` meets its contract.
use mathlib.Core.Path.{sym, ap, ◌∙◌}
use Rattle.walk.specs.Trace.{read_signed}
use Rattle.session_trace_lines.specs.Figures.{value_answer}
use Rattle.explain_fields.proofs.Pieces.{whole}
use Rattle.explain_trace.proofs.Fields.{is_read, not_read}
use Rattle.explain_trace.proofs.form.is_value.Goals as goal

pub returns-in-Value : goal.returns-in-Value
returns-in-Value c =
    let s = c.args.field.now in
    is_read _ (read_signed s) (sym c.in-Value.is ∙ c.value_of-read.ensures ∙ ap value_answer (whole s))

pub returns-in-Bad : goal.returns-in-Bad
returns-in-Bad c =
    let s = c.args.field.now in
    not_read (read_signed s) (sym c.in-Bad.is ∙ c.value_of-read.ensures ∙ ap value_answer (whole s))
