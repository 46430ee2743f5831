-- `text_records::read_wait` meets its contract.
use mathlib.Core.Path.{sym, ◌∙◌}
use mathlib.Core.List.{◌∷◌}
use Prim.Native.Nat.{◌≤◌}
use native.Mathlib.Omega.{arith}
use Rattle.listing.specs.Listing as L
use Rattle.text_piece.specs.Pieces.{cap}
use Rattle.text_jumps.proofs.Chain as chain
use Rattle.text_records.proofs.Waits as waits
use Rattle.text_jumps.proofs.Summaries as summaries
use Rattle.text_records.proofs.record.read_wait.Goals as goal

pub returns-in_err-names : goal.returns-in_err-names
returns-in_err-names c =
    let a = c.args in
    λ routines. c.from_residual.ensures ∙ chain.rest_bad routines a.scope _ _ _ (waits.names_none a.s.now a.place a.stop a.scope.names (omega (arith, c.well_formed)) (sym c.in_err-names.was ∙ c.figures_field.ensures) _)

pub returns-then-g-gt4 : goal.returns-then-g-gt4
returns-then-g-gt4 c =
    let a = c.args in
    let s = a.s.now in
    let small : a.scope.names ≤ cap = omega (arith, c.well_formed) in
    let g = chain.figures_got s a.place a.stop a.scope.names small c.requires _ (sym c.in_ok-names.was ∙ c.figures_field.ensures) in
    λ routines. chain.rest_bad routines a.scope _ _ _ (waits.names_many s a.place a.stop _ _ g.0 g.1 g.2 _ (omega (arith, g.4.count, c.if-g-gt4.true)))

pub returns-then-names-eq9 : goal.returns-then-names-eq9
returns-then-names-eq9 c =
    let a = c.args in
    let s = a.s.now in
    let small : a.scope.names ≤ cap = omega (arith, c.well_formed) in
    let g = chain.figures_got s a.place a.stop a.scope.names small c.requires _ (sym c.in_ok-names.was ∙ c.figures_field.ensures) in
    λ routines. chain.rest_bad routines a.scope _ _ _ (waits.names_few s a.place a.stop _ _ g.0 g.1 g.2 _ (omega (arith, g.4.count, c.if-g-gt4.false)) ∙ chain.end_open s c.in_ok-names.names.next.offset _ (L.Line.instruction (L.Instruction.wait (g.0 ∷ g.1))) c.if-names-eq9.true)

pub returns : goal.returns
returns c =
    let a = c.args in
    let s = a.s.now in
    let small : a.scope.names ≤ cap = omega (arith, c.well_formed) in
    let g = chain.figures_got s a.place a.stop a.scope.names small c.requires _ (sym c.in_ok-names.was ∙ c.figures_field.ensures) in
    λ routines. chain.rest_is_lem routines a.scope s a.place a.stop _ (L.Line.instruction (L.Instruction.wait (g.0 ∷ g.1))) _ _ _
    (waits.names_few s a.place a.stop _ _ g.0 g.1 g.2 _ (omega (arith, g.4.count, c.if-g-gt4.false)) ∙ chain.end_shut _ _ _ c.if-names-eq9.false)
    (sym g.2.stops ∙ chain.stop_shut s _ _ c.if-names-eq9.false)
    (sym g.2.nexts ∙ chain.next_shut s _ _ c.if-names-eq9.false)
    (summaries.wait_is routines a.scope _ g.0 g.1 g.4)
