-- `session_trace_lines::read_last` meets its contract.
use mathlib.Core.Path.{sym, ◌∙◌}
use Rattle.words.specs.Moments.{moment_range}
use Rattle.walk.specs.Trace.{read_below, read_last_line}
use Rattle.text_jumps.proofs.Chain as chain
use Rattle.session_trace_lines.proofs.Fields as fields
use Rattle.session_trace_lines.proofs.Lines as lines
use Rattle.session_trace_lines.proofs.line.read_last.Goals as goal

pub returns-in_default : goal.returns-in_default
returns-in_default c =
    let a = c.args in
    let s = a.s.now in
    lines.rest_bad s a.place a.stop read_last_line (fields.figure_unread (read_below moment_range) s a.place a.stop (sym c.in_default.is ∙ c.figure_field.ensures) _)

pub returns-then-time-eq9 : goal.returns-then-time-eq9
returns-then-time-eq9 c =
    let a = c.args in
    let s = a.s.now in
    let g1 = fields.figure_got (read_below moment_range) s a.place a.stop c.requires _ (sym c.in-Some.is ∙ c.figure_field.ensures) in
    lines.rest_bad s a.place a.stop read_last_line (fields.figure_on (read_below moment_range) s _ _ g1 _ ∙ lines.end_open s c.in-Some.time.next.offset _ _ c.if-time-eq9.true)

pub returns : goal.returns
returns c =
    let a = c.args in
    let s = a.s.now in
    let g1 = fields.figure_got (read_below moment_range) s a.place a.stop c.requires _ (sym c.in-Some.is ∙ c.figure_field.ensures) in
    lines.rest_is_lem s a.place a.stop read_last_line _ _ _ (fields.figure_on (read_below moment_range) s _ _ g1 _ ∙ lines.end_shut _ _ _ c.if-time-eq9.false)
    (sym g1.stops ∙ chain.stop_shut s _ _ c.if-time-eq9.false)
    (sym g1.nexts ∙ chain.next_shut s _ _ c.if-time-eq9.false)
