-- `table_cells::write_cells` meets its contract.
use mathlib.Core.Path.{refl}
use native.Mathlib.Omega.{arith}
use Rattle.text_fields.proofs.OnField as on
use Rattle.table_cells.proofs.CellLoop as loop
use Rattle.table_cells.proofs.cell.write_cells.Goals as goal

pub loop-next-init : goal.loop-next-init
loop-next-init c = loop.writing_begun _ _ _ _ _ _ c.requires.0.inside

pub take_piece-piece-requires : goal.take_piece-piece-requires
take_piece-piece-requires c = record { inside = c.loop-next.invariant.place.inside; counted = omega (arith, c.requires.0.counted, c.loop-next.invariant.place.after) }

pub piece_of-p-requires : goal.piece_of-p-requires
piece_of-p-requires c = on.taken_within _ _ _ _ c.loop-next.invariant.place _ c.take_piece-piece.ensures

pub overflow_mul-count : goal.overflow_mul-count
overflow_mul-count c = omega (arith, c.loop-next.invariant.few, c.loop-next.invariant.place.inside, c.requires.1)

pub overflow_add-a : goal.overflow_add-a
overflow_add-a c = omega (arith, c.loop-next.invariant.few, c.loop-next.invariant.place.inside, c.requires.1, c.requires.2)

pub write_cell-requires : goal.write_cell-requires
write_cell-requires c = omega (arith, c.loop-next.invariant.few, c.loop-next.invariant.place.inside, c.requires.1, c.requires.2)

pub overflow_add-count : goal.overflow_add-count
overflow_add-count c = omega (arith, c.loop-next.invariant.few, c.loop-next.invariant.place.inside, c.requires.1)

pub shape_of-t-then-b-ne32 : goal.shape_of-t-then-b-ne32
shape_of-t-then-b-ne32 c =
    let v = c.loop-next in
    loop.still_long _ _ _ _ _ _ _ _ _ v.invariant _ c.take_piece-piece.ensures _ c.piece_of-p.ensures _ c.write_cell.ensures

pub returns-then-b-ne32 : goal.returns-then-b-ne32
returns-then-b-ne32 c =
    let v = c.loop-next in
    let a = c.args in
    loop.writes_cells _ _ _ _ _ _ _ _ _ v.invariant _ c.take_piece-piece.ensures _ c.piece_of-p.ensures _ c.write_cell.ensures c.if-b-ne32.true a.place refl refl c.requires.0

pub loop-next-smaller : goal.loop-next-smaller
loop-next-smaller c =
    let v = c.loop-next in
    let m = on.moved_on _ _ _ _ v.invariant.place _ c.take_piece-piece.ensures c.if-b-ne32.false in
    let i = (on.still_on _ _ _ _ v.invariant.place _ c.take_piece-piece.ensures c.if-b-ne32.false).inside in
    omega arith

pub loop-next-preserved : goal.loop-next-preserved
loop-next-preserved c =
    let v = c.loop-next in
    loop.writing_on _ _ _ _ _ _ _ _ _ v.invariant _ c.take_piece-piece.ensures _ c.piece_of-p.ensures _ c.write_cell.ensures c.if-b-ne32.false
