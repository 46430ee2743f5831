-- `explain_fields::piece::strange_in` meets its contract.
use mathlib.Core.Path.{sym, ap, ◌∙◌}
use Prim.Native.Nat.{◌+◌}
use lib.ListN.{drop}
use Rattle.std.specs.Prelude.{Option}
use Rattle.explain_fields.specs.declared.reasons.Strange.{Strange}
use Rattle.explain_fields.specs.Pieces.{or_in, first_strange}
use Rattle.explain_fields.proofs.Pieces as pieces
use Rattle.explain_fields.proofs.piece.strange_in.Goals as goal

pub returns-then-piece-eq0 : goal.returns-then-piece-eq0
returns-then-piece-eq0 c = pieces.nothing_there _ c.if-piece-eq0.true

pub loop-b-init : goal.loop-b-init
loop-b-init c = pieces.something_there _ c.if-piece-eq0.false

pub returns-in-Some : goal.returns-in-Some
returns-in-Some c =
    let v = c.loop-b in
    ap (λ (o : Option Strange). or_in o (first_strange (drop (v.b-index + 1) c.args.piece.now))) (sym c.in-Some.is ∙ c.strange_byte.ensures)
    ∙ sym (pieces.strange_on _ v.b-index c.loop-b-test.true) ∙ v.invariant

pub loop-b-preserved : goal.loop-b-preserved
loop-b-preserved c =
    let v = c.loop-b in
    ap (λ (o : Option Strange). or_in o (first_strange (drop (v.b-index + 1) c.args.piece.now))) (sym c.in_default.is ∙ c.strange_byte.ensures)
    ∙ sym (pieces.strange_on _ v.b-index c.loop-b-test.true) ∙ v.invariant

pub returns : goal.returns
returns c = let v = c.loop-b in sym (pieces.strange_none _ v.b-index c.loop-b-test.false) ∙ v.invariant
