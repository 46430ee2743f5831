-- `table_lines::hold_opens` meets its contract.
use Rattle.table_lines.proofs.Openings as openings
use Rattle.table_lines.proofs.opens.hold_opens.Goals as goal

pub kinds_of-kinds-requires : goal.kinds_of-kinds-requires
kinds_of-kinds-requires c =
    let a = c.args in
    let p = c.requires in
    let i = openings.piece_in a.s.now a.place p.0 _ c.take_piece-piece.ensures in
    (i.0, i.1, openings.opens_kinds a.s.now a.place a.stop p.0 p.1 _ c.take_piece-piece.ensures)

pub word_field-locals-requires : goal.word_field-locals-requires
word_field-locals-requires c =
    let a = c.args in
    openings.piece_next a.s.now a.place c.requires.0 _ c.take_piece-piece.ensures

pub returns : goal.returns
returns c =
    let a = c.args in
    openings.opens_held a.s.now a.place a.stop c.requires.0 c.requires.1 _ c.take_piece-piece.ensures _ c.kinds_of-kinds.ensures _ c.word_field-locals.ensures.0
