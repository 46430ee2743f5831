-- `text_place::piece_end` meets its contract.
use Rattle.std.proofs.Common.{◌≡◌, suc, [], ◌∷◌, length, drop, get_or, sym, ap, ◌∙◌, arith, add-one}
use Rattle.text_place.specs.Texts.{before, ends_piece}
use Rattle.text_place.proofs.Texts as texts
use Rattle.text_place.proofs.place.piece_end.Goals as goal

pub returns-then-ends_piece : goal.returns-then-ends_piece
returns-then-ends_piece c =
    let v = c.loop-i in
    let s = c.args.s.now in
    let e : before ends_piece (drop v.i s) ≡ [] = texts.before_stop ends_piece s v.i c.loop-i-test.true (sym c.ends_piece.ensures ∙ c.if-ends_piece.true) in
    omega (arith, ap length e, v.invariant)

pub loop-i-preserved : goal.loop-i-preserved
loop-i-preserved c =
    let v = c.loop-i in
    let s = c.args.s.now in
    let e : before ends_piece (drop v.i s) ≡ get_or s v.i 0 ∷ before ends_piece (drop (suc v.i) s) = texts.before_more ends_piece s v.i c.loop-i-test.true (sym c.ends_piece.ensures ∙ c.if-ends_piece.false) in
    simp add-one (omega (arith, ap length e, v.invariant))

pub returns : goal.returns
returns c =
    let v = c.loop-i in
    let s = c.args.s.now in
    let e : before ends_piece (drop v.i s) ≡ [] = texts.before_end ends_piece s v.i c.loop-i-test.false in
    omega (arith, ap length e, v.invariant, v.auto.i-end, c.requires)
