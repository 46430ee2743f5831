-- `session_trace_lines::figure_field` meets its contract.
use mathlib.Core.Path.{sym, ◌∙◌}
use Prim.Native.Nat.{◌+◌}
use Rattle.walk.specs.Trace.{read_below}
use Rattle.session_trace_lines.proofs.Fields as fields
use Rattle.session_trace_lines.proofs.field.figure_field.Goals as goal

pub returns-in_err-piece : goal.returns-in_err-piece
returns-in_err-piece c = let a = c.args in c.from_residual.ensures ∙ fields.figure_none (read_below (a.most + 1)) a.s.now a.place a.stop (sym c.in_err-piece.was ∙ c.one_piece.ensures)

pub figure_up_to-requires : goal.figure_up_to-requires
figure_up_to-requires c =
    let a = c.args in
    let p = fields.piece_got a.s.now a.place a.stop c.requires _ (sym c.in_ok-piece.was ∙ c.one_piece.ensures) in
    (p.rising, p.inside)

pub returns-in_default : goal.returns-in_default
returns-in_default c =
    let a = c.args in
    let p = fields.piece_got a.s.now a.place a.stop c.requires _ (sym c.in_ok-piece.was ∙ c.one_piece.ensures) in
    fields.figure_by (read_below (a.most + 1)) a.s.now a.place a.stop p _ (sym c.in_default.is ∙ c.figure_up_to.ensures)

pub returns : goal.returns
returns c =
    let a = c.args in
    let p = fields.piece_got a.s.now a.place a.stop c.requires _ (sym c.in_ok-piece.was ∙ c.one_piece.ensures) in
    fields.figure_by (read_below (a.most + 1)) a.s.now a.place a.stop p _ (sym c.in-Value.is ∙ c.figure_up_to.ensures)
