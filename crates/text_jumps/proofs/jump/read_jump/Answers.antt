-- `text_jumps::read_jump` meets its contract.
use mathlib.Core.Path.{sym, ◌∙◌}
use Prim.Native.Nat.{◌≤◌}
use native.Mathlib.Omega.{arith}
use Rattle.listing.specs.Listing as L
use Rattle.text_piece.specs.Pieces.{cap}
use Rattle.text_jumps.proofs.Chain as chain
use Rattle.text_jumps.proofs.Summaries as summaries
use Rattle.text_jumps.proofs.jump.read_jump.Goals as goal

pub returns-in_default : goal.returns-in_default
returns-in_default c =
    let a = c.args in
    λ routines. chain.rest_bad routines a.scope _ _ _ (chain.number_none a.s.now a.place a.stop c.requires (sym c.in_default.is ∙ c.number_field.ensures) _)

pub returns-then-stop-eq9 : goal.returns-then-stop-eq9
returns-then-stop-eq9 c =
    let a = c.args in
    let s = a.s.now in
    let g1 = chain.number_got s a.place a.stop c.requires _ _ _ (sym c.in-Read.is ∙ c.number_field.ensures) in
    λ routines. chain.rest_bad routines a.scope _ _ _ (g1.1.on _ ∙ chain.end_open s c.in-Read.next.offset _ (L.Line.instruction (L.Instruction.jump g1.0)) c.if-stop-eq9.true)

pub returns : goal.returns
returns c =
    let a = c.args in
    let s = a.s.now in
    let small : a.scope.size ≤ cap = omega (arith, c.well_formed) in
    let g1 = chain.number_got s a.place a.stop c.requires _ _ _ (sym c.in-Read.is ∙ c.number_field.ensures) in
    λ routines. rw c.from.ensures (chain.rest_is_lem routines a.scope s a.place a.stop _ (L.Line.instruction (L.Instruction.jump g1.0)) _ _ _
    (g1.1.on _ ∙ chain.end_shut _ _ _ c.if-stop-eq9.false)
    (sym g1.1.stops ∙ chain.stop_shut s _ _ c.if-stop-eq9.false)
    (sym g1.1.nexts ∙ chain.next_shut s _ _ c.if-stop-eq9.false)
    (summaries.jump_is routines a.scope small _ _ g1.2))
