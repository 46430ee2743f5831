-- `session_trace_lines::read_trace_line` meets its contract.
use mathlib.Core.Path.{sym, ◌∙◌}
use native.Mathlib.Omega.{arith}
use Rattle.session_trace_lines.proofs.Fields as fields
use Rattle.session_trace_lines.proofs.Lines as lines
use Rattle.session_trace_lines.proofs.line.read_trace_line.Goals as goal

pub returns-in_default : goal.returns-in_default
returns-in_default c =
    let a = c.args in
    lines.line_none a.s.now a.place (sym c.in_default.is ∙ c.one_piece.ensures)

pub overflow_sub-piece : goal.overflow_sub-piece
overflow_sub-piece c =
    let a = c.args in
    let s = a.s.now in
    let p = fields.piece_got s a.place 9 c.requires _ (sym c.in-Some.is ∙ c.one_piece.ensures) in
    p.rising

pub returns-then-piece-ne1 : goal.returns-then-piece-ne1
returns-then-piece-ne1 c =
    let a = c.args in
    let s = a.s.now in
    let p = fields.piece_got s a.place 9 c.requires _ (sym c.in-Some.is ∙ c.one_piece.ensures) in
    lines.line_long s a.place _ p c.if-piece-ne1.true

pub bounds-s-piece : goal.bounds-s-piece
bounds-s-piece c =
    let a = c.args in
    let s = a.s.now in
    let p = fields.piece_got s a.place 9 c.requires _ (sym c.in-Some.is ∙ c.one_piece.ensures) in
    omega (arith, p.rising, p.inside, c.if-piece-ne1.false)

pub read_input-requires : goal.read_input-requires
read_input-requires c =
    let a = c.args in
    let s = a.s.now in
    let p = fields.piece_got s a.place 9 c.requires _ (sym c.in-Some.is ∙ c.one_piece.ensures) in
    p.past.within

pub returns-then-letter-eq73 : goal.returns-then-letter-eq73
returns-then-letter-eq73 c =
    let a = c.args in
    let s = a.s.now in
    let p = fields.piece_got s a.place 9 c.requires _ (sym c.in-Some.is ∙ c.one_piece.ensures) in
    c.read_input.ensures ∙ lines.line_input s a.place _ p c.if-piece-ne1.false c.if-letter-eq73.true

pub read_last-requires : goal.read_last-requires
read_last-requires c =
    let a = c.args in
    let s = a.s.now in
    let p = fields.piece_got s a.place 9 c.requires _ (sym c.in-Some.is ∙ c.one_piece.ensures) in
    p.past.within

pub returns-then-letter-eq81 : goal.returns-then-letter-eq81
returns-then-letter-eq81 c =
    let a = c.args in
    let s = a.s.now in
    let p = fields.piece_got s a.place 9 c.requires _ (sym c.in-Some.is ∙ c.one_piece.ensures) in
    c.read_last.ensures ∙ lines.line_last s a.place _ p c.if-piece-ne1.false c.if-letter-eq81.true

pub returns : goal.returns
returns c =
    let a = c.args in
    let s = a.s.now in
    let p = fields.piece_got s a.place 9 c.requires _ (sym c.in-Some.is ∙ c.one_piece.ensures) in
    lines.line_other s a.place _ p c.if-piece-ne1.false c.if-letter-eq73.false c.if-letter-eq81.false
