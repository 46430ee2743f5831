-- `text_jumps::read_branch` meets its contract.
use mathlib.Core.Path.{sym, ◌∙◌}
use Prim.Native.Nat.{◌≤◌}
use native.Mathlib.Omega.{arith}
use Rattle.listing.specs.Listing as L
use Rattle.text_piece.specs.Pieces.{cap}
use Rattle.text_jumps.proofs.Chain as chain
use Rattle.text_jumps.proofs.Summaries as summaries
use Rattle.text_jumps.proofs.jump.read_branch.Goals as goal

pub returns-in_err-e : goal.returns-in_err-e
returns-in_err-e c =
    let a = c.args in
    λ routines. c.from_residual.ensures ∙ chain.rest_bad routines a.scope _ _ _ (chain.expression_none a.s.now a.place a.stop c.requires a.scope.names (sym c.in_err-e.was ∙ c.expression_field.ensures) _)

pub number_field-requires : goal.number_field-requires
number_field-requires c =
    let a = c.args in
    let g1 = chain.expression_got a.s.now a.place a.stop c.requires a.scope.names _ (sym c.in_ok-e.was ∙ c.expression_field.ensures) in
    g1.1.within

pub returns-in_default : goal.returns-in_default
returns-in_default c =
    let a = c.args in
    let s = a.s.now in
    let g1 = chain.expression_got s a.place a.stop c.requires a.scope.names _ (sym c.in_ok-e.was ∙ c.expression_field.ensures) in
    λ routines. chain.rest_bad routines a.scope _ _ _ (g1.1.on _ ∙ chain.number_none s _ _ g1.1.within (sym c.in_default.is ∙ c.number_field.ensures) _)

pub returns-then-stop-eq9 : goal.returns-then-stop-eq9
returns-then-stop-eq9 c =
    let a = c.args in
    let s = a.s.now in
    let g1 = chain.expression_got s a.place a.stop c.requires a.scope.names _ (sym c.in_ok-e.was ∙ c.expression_field.ensures) in
    let g2 = chain.number_got s _ _ g1.1.within _ _ _ (sym c.in-Read.is ∙ c.number_field.ensures) in
    λ routines. chain.rest_bad routines a.scope _ _ _ (g1.1.on _ ∙ g2.1.on _ ∙ chain.end_open s c.in-Read.next.offset _ (L.Line.instruction (L.Instruction.branch g1.0 g2.0)) c.if-stop-eq9.true)

pub overflow_add-result : goal.overflow_add-result
overflow_add-result c =
    let a = c.args in
    let s = a.s.now in
    let g1 = chain.expression_got s a.place a.stop c.requires a.scope.names _ (sym c.in_ok-e.was ∙ c.expression_field.ensures) in
    let g2 = chain.number_got s _ _ g1.1.within _ _ _ (sym c.in-Read.is ∙ c.number_field.ensures) in
    omega (arith, c.well_formed, chain.expression_length s _ _ _ _ g1.0 g1.1, g1.2, g1.1.moves, g1.1.within.inside, g2.1.opens, g1.1.moved g2.1.opens)

pub returns : goal.returns
returns c =
    let a = c.args in
    let s = a.s.now in
    let small : a.scope.size ≤ cap = omega (arith, c.well_formed) in
    let g1 = chain.expression_got s a.place a.stop c.requires a.scope.names _ (sym c.in_ok-e.was ∙ c.expression_field.ensures) in
    let g2 = chain.number_got s _ _ g1.1.within _ _ _ (sym c.in-Read.is ∙ c.number_field.ensures) in
    λ routines. chain.rest_is_lem routines a.scope s a.place a.stop _ (L.Line.instruction (L.Instruction.branch g1.0 g2.0)) _ _ _
    (g1.1.on _ ∙ g2.1.on _ ∙ chain.end_shut _ _ _ c.if-stop-eq9.false)
    (sym g1.1.stops ∙ sym g2.1.stops ∙ chain.stop_shut s _ _ c.if-stop-eq9.false)
    (sym g1.1.nexts ∙ sym g2.1.nexts ∙ chain.next_shut s _ _ c.if-stop-eq9.false)
    (summaries.branch_is routines a.scope small _ _ _ _ g1.0 _ g1.2 g1.3 g2.2 (rw c.from.ensures))
