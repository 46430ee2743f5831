-- `text_records::read_assign` meets its contract.
use mathlib.Core.Path.{sym, ◌∙◌}
use Prim.Native.Nat.{◌≤◌}
use native.Mathlib.Omega.{arith}
use Rattle.listing.specs.Listing as L
use Rattle.text_piece.specs.Pieces.{cap}
use Rattle.text_jumps.proofs.Chain as chain
use Rattle.text_jumps.proofs.Summaries as summaries
use Rattle.text_records.proofs.record.read_assign.Goals as goal

pub returns-in_default : goal.returns-in_default
returns-in_default c =
    let a = c.args in
    let s = a.s.now in
    λ routines. chain.rest_bad routines a.scope _ _ _ (chain.number_none s a.place a.stop c.requires (sym c.in_default.is ∙ c.number_field.ensures) _)

pub expression_field-requires : goal.expression_field-requires
expression_field-requires c =
    let a = c.args in
    let s = a.s.now in
    let g1 = chain.number_got s a.place a.stop c.requires _ _ _ (sym c.in-Read.is ∙ c.number_field.ensures) in
    g1.1.within

pub returns-in_err-e : goal.returns-in_err-e
returns-in_err-e c =
    let a = c.args in
    let s = a.s.now in
    let g1 = chain.number_got s a.place a.stop c.requires _ _ _ (sym c.in-Read.is ∙ c.number_field.ensures) in
    λ routines. c.from_residual.ensures ∙ chain.rest_bad routines a.scope _ _ _ (g1.1.on _ ∙ chain.expression_none s _ _ g1.1.within a.scope.names (sym c.in_err-e.was ∙ c.expression_field.ensures) _)

pub returns-then-e-eq9 : goal.returns-then-e-eq9
returns-then-e-eq9 c =
    let a = c.args in
    let s = a.s.now in
    let g1 = chain.number_got s a.place a.stop c.requires _ _ _ (sym c.in-Read.is ∙ c.number_field.ensures) in
    let g2 = chain.expression_got s _ _ g1.1.within a.scope.names _ (sym c.in_ok-e.was ∙ c.expression_field.ensures) in
    λ routines. chain.rest_bad routines a.scope _ _ _ (g1.1.on _ ∙ g2.1.on _ ∙ chain.end_open s c.in_ok-e.e.next.offset _ (L.Line.instruction (L.Instruction.assign g1.0 g2.0)) c.if-e-eq9.true)

pub overflow_add-result : goal.overflow_add-result
overflow_add-result c =
    let a = c.args in
    let s = a.s.now in
    let small : a.scope.names ≤ cap = omega (arith, c.well_formed) in
    let g1 = chain.number_got s a.place a.stop c.requires _ _ _ (sym c.in-Read.is ∙ c.number_field.ensures) in
    let g2 = chain.expression_got s _ _ g1.1.within a.scope.names _ (sym c.in_ok-e.was ∙ c.expression_field.ensures) in
    omega (arith, c.well_formed, chain.expression_length s _ _ _ _ g2.0 g2.1, g2.2, g2.1.moves, g2.1.within.inside)

pub returns : goal.returns
returns c =
    let a = c.args in
    let s = a.s.now in
    let small : a.scope.names ≤ cap = omega (arith, c.well_formed) in
    let g1 = chain.number_got s a.place a.stop c.requires _ _ _ (sym c.in-Read.is ∙ c.number_field.ensures) in
    let g2 = chain.expression_got s _ _ g1.1.within a.scope.names _ (sym c.in_ok-e.was ∙ c.expression_field.ensures) in
    λ routines. chain.rest_is_lem routines a.scope s a.place a.stop _ (L.Line.instruction (L.Instruction.assign g1.0 g2.0)) _ _ _
    (g1.1.on _ ∙ g2.1.on _ ∙ chain.end_shut _ _ _ c.if-e-eq9.false)
    (sym g1.1.stops ∙ sym g2.1.stops ∙ chain.stop_shut s _ _ c.if-e-eq9.false)
    (sym g1.1.nexts ∙ sym g2.1.nexts ∙ chain.next_shut s _ _ c.if-e-eq9.false)
    (summaries.assign_is routines a.scope small _ _ _ _ _ g2.0 g1.2 g2.2 g2.3 (rw c.from.ensures))
