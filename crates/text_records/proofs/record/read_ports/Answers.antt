-- `text_records::read_ports` meets its contract.
use mathlib.Core.Path.{sym, ◌∙◌}
use Rattle.listing.specs.Listing as L
use Rattle.text_jumps.proofs.Chain as chain
use Rattle.text_jumps.proofs.Summaries as summaries
use Rattle.text_records.proofs.record.read_ports.Goals as goal

pub returns-in_default : goal.returns-in_default
returns-in_default c =
    let a = c.args in
    let s = a.s.now in
    λ routines. chain.rest_bad routines a.scope _ _ _ (chain.number_none s a.place a.stop c.requires (sym c.in_default.is ∙ c.number_field.ensures) _)

pub number_field-requires-2 : goal.number_field-requires-2
number_field-requires-2 c =
    let a = c.args in
    let s = a.s.now in
    let g1 = chain.number_got s a.place a.stop c.requires _ _ _ (sym c.in-Read.is ∙ c.number_field.ensures) in
    g1.1.within

pub returns-in_default-number_field : goal.returns-in_default-number_field
returns-in_default-number_field c =
    let a = c.args in
    let s = a.s.now in
    let g1 = chain.number_got s a.place a.stop c.requires _ _ _ (sym c.in-Read.is ∙ c.number_field.ensures) in
    λ routines. chain.rest_bad routines a.scope _ _ _ (g1.1.on _ ∙ chain.number_none s _ _ g1.1.within (sym c.in_default-number_field.is ∙ c.number_field-2.ensures) _)

pub returns-then-stop-eq9 : goal.returns-then-stop-eq9
returns-then-stop-eq9 c =
    let a = c.args in
    let s = a.s.now in
    let g1 = chain.number_got s a.place a.stop c.requires _ _ _ (sym c.in-Read.is ∙ c.number_field.ensures) in
    let g2 = chain.number_got s _ _ g1.1.within _ _ _ (sym c.in-Read-number_field.is ∙ c.number_field-2.ensures) in
    λ routines. chain.rest_bad routines a.scope _ _ _ (g1.1.on _ ∙ g2.1.on _ ∙ chain.end_open s c.in-Read-number_field.next.offset _ (L.Line.ports g1.0 g2.0) c.if-stop-eq9.true)

pub returns : goal.returns
returns c =
    let a = c.args in
    let s = a.s.now in
    let g1 = chain.number_got s a.place a.stop c.requires _ _ _ (sym c.in-Read.is ∙ c.number_field.ensures) in
    let g2 = chain.number_got s _ _ g1.1.within _ _ _ (sym c.in-Read-number_field.is ∙ c.number_field-2.ensures) in
    λ routines. chain.rest_is_lem routines a.scope s a.place a.stop _ (L.Line.ports g1.0 g2.0) _ _ _
    (g1.1.on _ ∙ g2.1.on _ ∙ chain.end_shut _ _ _ c.if-stop-eq9.false)
    (sym g1.1.stops ∙ sym g2.1.stops ∙ chain.stop_shut s _ _ c.if-stop-eq9.false)
    (sym g1.1.nexts ∙ sym g2.1.nexts ∙ chain.next_shut s _ _ c.if-stop-eq9.false)
    (summaries.ports_is routines a.scope _ _ _ _ g1.2 g2.2)
