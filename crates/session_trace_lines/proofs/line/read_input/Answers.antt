-- `session_trace_lines::read_input` meets its contract.
use mathlib.Core.Path.{sym, ◌∙◌}
use native.Mathlib.Omega.{arith}
use Rattle.listing.specs.Expressions.{word_range}
use Rattle.words.specs.Moments.{moment_range}
use Rattle.walk.specs.Trace.{read_below, read_signed, read_input_line}
use Rattle.text_jumps.proofs.Chain as chain
use Rattle.session_trace_lines.proofs.Fields as fields
use Rattle.session_trace_lines.proofs.Lines as lines
use Rattle.session_trace_lines.proofs.line.read_input.Goals as goal

pub returns-in_default : goal.returns-in_default
returns-in_default c =
    let a = c.args in
    let s = a.s.now in
    lines.rest_bad s a.place a.stop read_input_line (fields.figure_unread (read_below moment_range) s a.place a.stop (sym c.in_default.is ∙ c.figure_field.ensures) _)

pub figure_field-requires-2 : goal.figure_field-requires-2
figure_field-requires-2 c =
    let a = c.args in
    let s = a.s.now in
    let g1 = fields.figure_got (read_below moment_range) s a.place a.stop c.requires _ (sym c.in-Some.is ∙ c.figure_field.ensures) in
    g1.within

pub returns-in_default-figure_field : goal.returns-in_default-figure_field
returns-in_default-figure_field c =
    let a = c.args in
    let s = a.s.now in
    let g1 = fields.figure_got (read_below moment_range) s a.place a.stop c.requires _ (sym c.in-Some.is ∙ c.figure_field.ensures) in
    lines.rest_bad s a.place a.stop read_input_line (fields.figure_on (read_below moment_range) s _ _ g1 _ ∙ fields.figure_unread (read_below word_range) s c.in-Some.time.next _ (sym c.in_default-figure_field.is ∙ c.figure_field-2.ensures) _)

pub value_field-requires : goal.value_field-requires
value_field-requires c =
    let a = c.args in
    let s = a.s.now in
    let g1 = fields.figure_got (read_below moment_range) s a.place a.stop c.requires _ (sym c.in-Some.is ∙ c.figure_field.ensures) in
    let g2 = fields.figure_got (read_below word_range) s _ _ g1.within _ (sym c.in-Some-figure_field.is ∙ c.figure_field-2.ensures) in
    g2.within

pub returns-in_default-value_field : goal.returns-in_default-value_field
returns-in_default-value_field c =
    let a = c.args in
    let s = a.s.now in
    let g1 = fields.figure_got (read_below moment_range) s a.place a.stop c.requires _ (sym c.in-Some.is ∙ c.figure_field.ensures) in
    let g2 = fields.figure_got (read_below word_range) s _ _ g1.within _ (sym c.in-Some-figure_field.is ∙ c.figure_field-2.ensures) in
    lines.rest_bad s a.place a.stop read_input_line (fields.figure_on (read_below moment_range) s _ _ g1 _ ∙ fields.figure_on (read_below word_range) s _ _ g2 _ ∙ fields.figure_unread read_signed s c.in-Some-figure_field.input.next _ (sym c.in_default-value_field.is ∙ c.value_field.ensures) _)

pub returns-then-value-eq9 : goal.returns-then-value-eq9
returns-then-value-eq9 c =
    let a = c.args in
    let s = a.s.now in
    let g1 = fields.figure_got (read_below moment_range) s a.place a.stop c.requires _ (sym c.in-Some.is ∙ c.figure_field.ensures) in
    let g2 = fields.figure_got (read_below word_range) s _ _ g1.within _ (sym c.in-Some-figure_field.is ∙ c.figure_field-2.ensures) in
    let g3 = fields.figure_got read_signed s _ _ g2.within _ (sym c.in-Some-value_field.is ∙ c.value_field.ensures) in
    lines.rest_bad s a.place a.stop read_input_line (fields.figure_on (read_below moment_range) s _ _ g1 _ ∙ fields.figure_on (read_below word_range) s _ _ g2 _ ∙ fields.figure_on read_signed s _ _ g3 _ ∙ lines.end_open s c.in-Some-value_field.value.next.offset _ _ c.if-value-eq9.true)

pub overflow_cast-result : goal.overflow_cast-result
overflow_cast-result c =
    let a = c.args in
    let s = a.s.now in
    let g1 = fields.figure_got (read_below moment_range) s a.place a.stop c.requires _ (sym c.in-Some.is ∙ c.figure_field.ensures) in
    let g2 = fields.figure_got (read_below word_range) s _ _ g1.within _ (sym c.in-Some-figure_field.is ∙ c.figure_field-2.ensures) in
    omega (arith, lines.input_bits _ _ g2.read)

pub overflow_cast-result-2 : goal.overflow_cast-result-2
overflow_cast-result-2 c =
    let a = c.args in
    let s = a.s.now in
    let g1 = fields.figure_got (read_below moment_range) s a.place a.stop c.requires _ (sym c.in-Some.is ∙ c.figure_field.ensures) in
    let g2 = fields.figure_got (read_below word_range) s _ _ g1.within _ (sym c.in-Some-figure_field.is ∙ c.figure_field-2.ensures) in
    let g3 = fields.figure_got read_signed s _ _ g2.within _ (sym c.in-Some-value_field.is ∙ c.value_field.ensures) in
    omega (arith, lines.value_bits _ _ g3.read)

pub returns : goal.returns
returns c =
    let a = c.args in
    let s = a.s.now in
    let g1 = fields.figure_got (read_below moment_range) s a.place a.stop c.requires _ (sym c.in-Some.is ∙ c.figure_field.ensures) in
    let g2 = fields.figure_got (read_below word_range) s _ _ g1.within _ (sym c.in-Some-figure_field.is ∙ c.figure_field-2.ensures) in
    let g3 = fields.figure_got read_signed s _ _ g2.within _ (sym c.in-Some-value_field.is ∙ c.value_field.ensures) in
    lines.rest_is_lem s a.place a.stop read_input_line _ _ _ (fields.figure_on (read_below moment_range) s _ _ g1 _ ∙ fields.figure_on (read_below word_range) s _ _ g2 _ ∙ fields.figure_on read_signed s _ _ g3 _ ∙ lines.end_shut _ _ _ c.if-value-eq9.false)
    (sym g1.stops ∙ sym g2.stops ∙ sym g3.stops ∙ chain.stop_shut s _ _ c.if-value-eq9.false)
    (sym g1.nexts ∙ sym g2.nexts ∙ sym g3.nexts ∙ chain.next_shut s _ _ c.if-value-eq9.false)
