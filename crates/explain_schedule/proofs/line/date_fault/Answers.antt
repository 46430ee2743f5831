-- `explain_schedule::line::date_fault` meets its contract.
use mathlib.Core.Path.{◌∙◌, ap, sym}
use Rattle.std.specs.Prelude.{Some}
use Rattle.explain_fields.specs.Fields.{about}
use Rattle.explain_fields.specs.declared.reasons.Fault.{Fault}
use Rattle.explain_schedule.specs.declared.reasons.Reason.{Reason}
use Rattle.explain_schedule.proofs.Lines.{date_counted, date_figures, date_ranged}
use Rattle.explain_schedule.proofs.line.date_fault.Goals as goal

pub returns-then-count_parts-ne-DATE_FIELDS : goal.returns-then-count_parts-ne-DATE_FIELDS
returns-then-count_parts-ne-DATE_FIELDS c =
    ap (λ (f : Fault Reason). Some f) (c.about.ensures ∙ ap (λ (w : Reason). about w) c.count_why.ensures) ∙ date_counted _ _ c.count_parts.ensures c.if-count_parts-ne-DATE_FIELDS.true

pub returns-in-Some : goal.returns-in-Some
returns-in-Some c = date_figures _ _ c.count_parts.ensures c.if-count_parts-ne-DATE_FIELDS.false _ (sym c.figures_fault.ensures ∙ c.in-Some.is)

pub returns : goal.returns
returns c =
    c.date_range.ensures
    ∙ date_ranged _ _ c.count_parts.ensures c.if-count_parts-ne-DATE_FIELDS.false (sym c.figures_fault.ensures ∙ c.in_default.is) c.number_at.ensures c.number_at-2.ensures c.number_at-3.ensures
