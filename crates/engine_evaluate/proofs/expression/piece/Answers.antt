-- `piece` meets its contract: a sign joins the two values on top, any other piece adds one.
use mathlib.Core.Path.{sym, ◌∙◌}
use native.Mathlib.Omega.{arith}
use Rattle.engine_evaluate.proofs.Pieces as pieces
use Rattle.engine_evaluate.proofs.expression.piece.Goals as goal

pub bounds-t-at : goal.bounds-t-at
bounds-t-at c = omega (arith, c.requires.piece.inside)

pub operate-requires : goal.operate-requires
operate-requires c =
    let asked = c.requires in
    let is_one = sym c.is_sign.ensures ∙ c.if-is_sign.true in
    (is_one, asked.places, pieces.two_for_sign asked is_one, asked.most)

pub returns-then-is_sign : goal.returns-then-is_sign
returns-then-is_sign c =
    let asked = c.requires in
    let is_one = sym c.is_sign.ensures ∙ c.if-is_sign.true in
    pieces.past_joined is_one asked.places (pieces.two_for_sign asked is_one) c.operate.ensures

pub operand-v-requires : goal.operand-v-requires
operand-v-requires c = (c.requires.piece, sym c.is_sign.ensures ∙ c.if-is_sign.false)

pub push-requires : goal.push-requires
push-requires c =
    let asked = c.requires in
    (asked.places, pieces.room_for_one asked c.operand-v.ensures)

pub returns : goal.returns
returns c = pieces.past_added c.operand-v.ensures c.push.ensures
