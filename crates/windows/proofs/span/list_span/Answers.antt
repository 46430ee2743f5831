-- `windows::list_span` meets its contract.
use mathlib.Core.Path.{◌≡◌, sym, ap, ◌∙◌}
use native.Mathlib.Omega.{arith}
use lib.ListN.{length}
use Rattle.words.specs.Moments.{later_of}
use Rattle.schedule_list.specs.Lists.{Fits}
use Rattle.windows.specs.Span.{span_edges}
use Rattle.windows.proofs.Answers as answers
use Rattle.windows.proofs.Bounds as bounds
use Rattle.windows.proofs.span.list_span.Goals as goal

pub returns-in_default : goal.returns-in_default
returns-in_default c =
    let a = c.args in
    answers.nothing_told _ _ _ _ (bounds.none_left a.week.now a.from a.to (omega arith) (sym (ap later_of c.in_default.is) ∙ c.first_minute.ensures)) _ c.gone_through.ensures

pub count_edges-total-requires : goal.count_edges-total-requires
count_edges-total-requires c =
    let a = c.args in
    let k = bounds.bounded a.from a.to c.in-At.first.0 (omega arith) (sym (ap later_of c.in-At.is) ∙ c.first_minute.ensures) in
    (c.requires, k.above, rw c.minutes_until-minutes.ensures k.few)

pub returns-then-moments-total : goal.returns-then-moments-total
returns-then-moments-total c =
    let a = c.args in
    let w = a.week.now in
    let k = bounds.bounded a.from a.to c.in-At.first.0 (omega arith) (sym (ap later_of c.in-At.is) ∙ c.first_minute.ensures) in
    let e = bounds.span_is w a.from a.to _ _ k c.minutes_until-minutes.ensures in
    let n : c.count_edges-total.result ≡ length (span_edges w a.from a.to) = c.count_edges-total.ensures ∙ ap length e in
    answers.moments_short _ _ _ _ (omega (arith, c.if-moments-total.true)) _ c.refused.ensures

pub returns-then-inputs-total : goal.returns-then-inputs-total
returns-then-inputs-total c =
    let a = c.args in
    let w = a.week.now in
    let k = bounds.bounded a.from a.to c.in-At.first.0 (omega arith) (sym (ap later_of c.in-At.is) ∙ c.first_minute.ensures) in
    let e = bounds.span_is w a.from a.to _ _ k c.minutes_until-minutes.ensures in
    let n : c.count_edges-total.result ≡ length (span_edges w a.from a.to) = c.count_edges-total.ensures ∙ ap length e in
    answers.inputs_short _ _ _ _ (omega (arith, c.if-inputs-total.true)) _ c.refused-then-inputs-total.ensures

pub returns-then-values-total : goal.returns-then-values-total
returns-then-values-total c =
    let a = c.args in
    let w = a.week.now in
    let k = bounds.bounded a.from a.to c.in-At.first.0 (omega arith) (sym (ap later_of c.in-At.is) ∙ c.first_minute.ensures) in
    let e = bounds.span_is w a.from a.to _ _ k c.minutes_until-minutes.ensures in
    let n : c.count_edges-total.result ≡ length (span_edges w a.from a.to) = c.count_edges-total.ensures ∙ ap length e in
    answers.values_short _ _ _ _ (omega (arith, c.if-values-total.true)) _ c.refused-then-values-total.ensures

pub list_edges-requires : goal.list_edges-requires
list_edges-requires c =
    let a = c.args in
    let w = a.week.now in
    let k = bounds.bounded a.from a.to c.in-At.first.0 (omega arith) (sym (ap later_of c.in-At.is) ∙ c.first_minute.ensures) in
    let e = bounds.span_is w a.from a.to _ _ k c.minutes_until-minutes.ensures in
    let n : c.count_edges-total.result ≡ length (span_edges w a.from a.to) = c.count_edges-total.ensures ∙ ap length e in (
      c.requires,
      k.whole,
      k.above,
      rw c.minutes_until-minutes.ensures k.last,
      c.count_edges-total.ensures,
      record {
        moments_long = omega (arith, c.if-moments-total.false, c.count_edges-total.ensures);
        inputs_long = omega (arith, c.if-inputs-total.false, c.count_edges-total.ensures);
        values_long = omega (arith, c.if-values-total.false, c.count_edges-total.ensures);
      },
    )

pub returns : goal.returns
returns c =
    let a = c.args in
    let w = a.week.now in
    let k = bounds.bounded a.from a.to c.in-At.first.0 (omega arith) (sym (ap later_of c.in-At.is) ∙ c.first_minute.ensures) in
    let e = bounds.span_is w a.from a.to _ _ k c.minutes_until-minutes.ensures in
    let n : c.count_edges-total.result ≡ length (span_edges w a.from a.to) = c.count_edges-total.ensures ∙ ap length e in
    let fits : Fits (span_edges w a.from a.to) 0 a.moments.now a.inputs.now a.values.now = record {
      moments_long = omega (arith, c.if-moments-total.false, n);
      inputs_long = omega (arith, c.if-inputs-total.false, n);
      values_long = omega (arith, c.if-values-total.false, n);
    } in
    answers.all_told _ _ _ _ fits (rw e at c.list_edges.ensures) _ c.gone_through-2.ensures
