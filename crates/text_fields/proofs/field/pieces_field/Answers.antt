-- `text_fields::pieces_field` meets its contract.
use mathlib.Core.Path.{refl, ap, ◌∙◌}
use native.Mathlib.Omega.{arith}
use Rattle.text_fields.proofs.OnField as on
use Rattle.text_fields.specs.Gather.{gather_one}
use Rattle.text_fields.proofs.Gather as gather
use Rattle.text_fields.proofs.field.pieces_field.Goals as goal

pub returns-then-stop-ne9 : goal.returns-then-stop-ne9
returns-then-stop-ne9 c = rw (borrow.Author.Tests.ne_eqb _ 9 c.if-stop-ne9.true)

pub loop-g-init : goal.loop-g-init
loop-g-init c = gather.gathering_begun _ _ _ _ c.requires.inside

pub take_piece-t-requires : goal.take_piece-t-requires
take_piece-t-requires c = record { inside = c.loop-g.invariant.place.inside; counted = omega (arith, c.requires.counted, c.loop-g.invariant.place.after) }

pub piece_of-p-requires : goal.piece_of-p-requires
piece_of-p-requires c = on.taken_within _ _ _ _ c.loop-g.invariant.place _ c.take_piece-t.ensures

pub gathered-g-requires : goal.gathered-g-requires
gathered-g-requires c = omega (arith, c.loop-g.invariant.few, c.loop-g.invariant.place.inside)

pub returns-then-b-ne32 : goal.returns-then-b-ne32
returns-then-b-ne32 c =
    let v = c.loop-g in
    let one = c.gathered-g.ensures ∙ ap (gather_one c.args.names v.g) c.piece_of-p.ensures in
    gather.gathering_read c.args.names _ _ _ _ _ v.invariant _ c.take_piece-t.ensures _ one c.args.place refl refl _ c.if-stop-ne9.false c.if-b-ne32.true

pub loop-g-smaller : goal.loop-g-smaller
loop-g-smaller c =
    let v = c.loop-g in
    let p = c.take_piece-t.ensures in
    let m = on.moved_on _ _ _ _ v.invariant.place _ p c.if-b-ne32.false in
    let i = (on.still_on _ _ _ _ v.invariant.place _ p c.if-b-ne32.false).inside in
    omega arith

pub loop-g-preserved : goal.loop-g-preserved
loop-g-preserved c =
    let v = c.loop-g in
    let one = c.gathered-g.ensures ∙ ap (gather_one c.args.names v.g) c.piece_of-p.ensures in
    gather.gathering_on c.args.names _ _ _ _ _ v.invariant _ c.take_piece-t.ensures _ one c.if-b-ne32.false
