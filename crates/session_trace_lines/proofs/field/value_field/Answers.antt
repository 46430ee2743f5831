-- `session_trace_lines::value_field` meets its contract.
use mathlib.Core.Path.{sym, ◌∙◌}
use Rattle.walk.specs.Trace.{read_signed}
use Rattle.session_trace_lines.proofs.Fields as fields
use Rattle.session_trace_lines.proofs.field.value_field.Goals as goal

pub returns-in_err-piece : goal.returns-in_err-piece
returns-in_err-piece c = let a = c.args in c.from_residual.ensures ∙ fields.figure_none read_signed a.s.now a.place a.stop (sym c.in_err-piece.was ∙ c.one_piece.ensures)

pub value_of-requires : goal.value_of-requires
value_of-requires c =
    let a = c.args in
    let p = fields.piece_got a.s.now a.place a.stop c.requires _ (sym c.in_ok-piece.was ∙ c.one_piece.ensures) in
    (p.rising, p.inside)

pub returns-in_default : goal.returns-in_default
returns-in_default c =
    let a = c.args in
    let p = fields.piece_got a.s.now a.place a.stop c.requires _ (sym c.in_ok-piece.was ∙ c.one_piece.ensures) in
    fields.figure_by read_signed a.s.now a.place a.stop p _ (sym c.in_default.is ∙ c.value_of.ensures)

pub returns : goal.returns
returns c =
    let a = c.args in
    let p = fields.piece_got a.s.now a.place a.stop c.requires _ (sym c.in_ok-piece.was ∙ c.one_piece.ensures) in
    fields.figure_by read_signed a.s.now a.place a.stop p _ (sym c.in-Value.is ∙ c.value_of.ensures)
