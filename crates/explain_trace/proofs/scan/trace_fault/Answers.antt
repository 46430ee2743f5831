-- `explain_trace::scan::trace_fault` meets its contract.
use mathlib.Core.Path.{ap, ◌∙◌}
use native.Mathlib.Omega.{arith}
use Rattle.explain_parts.proofs.Parts.{part_taken}
use Rattle.std.specs.Prelude.{Some}
use Rattle.explain_trace.specs.declared.reasons.Reason.{Reason}
use Rattle.explain_trace.specs.declared.scan.TraceFault.{TraceFault}
use Rattle.explain_trace.specs.Scans.{end_fault}
use Rattle.explain_trace.proofs.Lines.{scanning_begun, scan_ends, scanning_on, scanned, part_long}
use Rattle.explain_trace.proofs.scan.trace_fault.Goals as goal

pub loop-inputs-init : goal.loop-inputs-init
loop-inputs-init c = scanning_begun _ _

pub part_end-end-requires : goal.part_end-end-requires
part_end-end-requires c = c.loop-inputs.invariant.inside

pub end_fault-requires : goal.end_fault-requires
end_fault-requires c = part_long _ _ _ c.part_end-end.ensures.1 c.part_end-end.ensures.2 c.requires

pub returns-then-end-trace : goal.returns-then-end-trace
returns-then-end-trace c =
    let v = c.loop-inputs in
    ap (λ (f : TraceFault Reason). Some f) (c.end_fault.ensures ∙ ap (end_fault v.line) (part_taken 10 _ _ _ v.invariant.inside c.part_end-end.ensures.0))
    ∙ scanned _ _ _ _ _ _ _ v.invariant c.part_end-end.ensures.0 c.if-end-trace.true

pub judge_line-judged-requires : goal.judge_line-judged-requires
judge_line-judged-requires c =
    let v = c.loop-inputs.invariant in
    let p = c.part_end-end.ensures in
    (p.1, p.2, p.0, c.requires, omega (arith, v.few, v.inside, c.requires))

pub returns-in-Ends : goal.returns-in-Ends
returns-in-Ends c =
    let p = c.part_end-end.ensures in
    scan_ends _ _ _ _ _ _ _ c.loop-inputs.invariant p.0 (omega (arith, p.2, c.if-end-trace.false)) _ c.judge_line-judged.ensures _ c.in-Ends.is

pub loop-inputs-smaller : goal.loop-inputs-smaller
loop-inputs-smaller c = omega (arith, c.part_end-end.ensures.1, c.part_end-end.ensures.2)

pub loop-inputs-preserved : goal.loop-inputs-preserved
loop-inputs-preserved c =
    let p = c.part_end-end.ensures in
    scanning_on _ _ _ _ _ _ _ c.loop-inputs.invariant p.0 (omega (arith, p.2, c.if-end-trace.false)) _ c.judge_line-judged.ensures _ _ c.in-Goes.is
