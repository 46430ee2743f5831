-- `text_records::read_end` meets its contract.
use Rattle.listing.specs.Listing as L
use Rattle.text_jumps.proofs.Chain as chain
use Rattle.text_jumps.proofs.Summaries as summaries
use Rattle.text_records.proofs.record.read_end.Goals as goal

pub returns-then-stop-eq9 : goal.returns-then-stop-eq9
returns-then-stop-eq9 c =
    let a = c.args in
    λ s routines. chain.rest_bad routines a.scope _ _ _ (chain.end_open s a.place.offset _ (L.Line.instruction L.Instruction.end) c.if-stop-eq9.true)

pub returns : goal.returns
returns c =
    let a = c.args in
    λ s routines. chain.rest_is_lem routines a.scope s a.place a.stop _ (L.Line.instruction L.Instruction.end) _ _ _ (chain.end_shut _ _ _ c.if-stop-eq9.false) (chain.stop_shut s _ _ c.if-stop-eq9.false) (chain.next_shut s _ _ c.if-stop-eq9.false) (summaries.end_is routines a.scope)
