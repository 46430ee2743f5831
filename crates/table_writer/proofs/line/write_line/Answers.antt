-- `table_writer::write_line` meets its contract.
use Rattle.table_writer.proofs.Lines as lines
use Rattle.table_lines.proofs.Openings as openings
use Rattle.table_writer.proofs.line.write_line.Goals as goal

pub bounds-s-from : goal.bounds-s-from
bounds-s-from c =
    let a = c.args in
    let p = c.requires in
    lines.letter_in a.s.now a.place p.0 _ c.take_piece-piece.ensures p.4

pub write_rest-requires : goal.write_rest-requires
write_rest-requires c =
    let a = c.args in
    let p = c.requires in
    let taken = c.take_piece-piece.ensures in
    (openings.piece_next a.s.now a.place p.0 _ taken, p.1, p.2, p.3, lines.rest_good a.s.now a.place p.0 _ taken p.4)

pub returns : goal.returns
returns c =
    let a = c.args in
    let p = c.requires in
    lines.line_written a.s.now a.place p.0 _ c.take_piece-piece.ensures p.4 a.to.entry a.to.cells a.t.now _ _ c.write_rest.ensures
