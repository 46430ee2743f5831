-- `explain_trace::scan::judge_line` meets its contract.
use native.Mathlib.Omega.{arith}
use Prim.Native.Nat.{◌+◌}
use mathlib.Core.Path.{sym, ap, ◌∙◌}
use lib.Dec.{eqb}
use lib.ListN.{length, get_or, drop}
use Rattle.listing.specs.Bytes.{Bytes}
use Rattle.walk.specs.Trace.{read_trace_line}
use Rattle.text_place.specs.Texts.{line_end}
use Rattle.text_place.specs.Places.{passed}
use Rattle.explain_parts.specs.Parts.{first_part_lem}
use Rattle.explain_parts.proofs.Parts.{part_taken}
use Rattle.std.specs.Prelude.{Some}
use Rattle.explain_trace.specs.declared.reasons.Reason.TheVariants as WV
use Rattle.explain_trace.specs.declared.reasons.Reason.{Reason}
use Rattle.explain_trace.specs.declared.scan.TraceFault.{TraceFault}
use Rattle.explain_trace.specs.Scans.{unformed}
use Rattle.explain_trace.specs.declared.scan.Judged.TheVariants as JV
use Rattle.explain_trace.proofs.Lines.{judge_as, judged_as, part_long}
use Rattle.explain_trace.proofs.scan.judge_line.Goals as goal

pub unformed-requires : goal.unformed-requires
unformed-requires c = let p = c.requires in part_long _ _ _ p.0 p.1 p.3

pub returns-in-Input : goal.returns-in-Input
returns-in-Input c =
    let a = c.args in
    let s = a.trace.now in
    let b = first_part_lem 10 (drop a.at s) in
    c.judge_input.ensures
    ∙ ap (judge_as a.inputs a.line b (eqb (a.end + 1) (length s)) a.time a.least) (sym c.in-Input.is ∙ c.read_trace_line-read.ensures)
    ∙ judged_as a.inputs a.line b (eqb (a.end + 1) (length s)) a.time a.least (read_trace_line b) (get_or s (line_end s a.at) 0) (passed s 0 (line_end s a.at))

pub returns-in-Last : goal.returns-in-Last
returns-in-Last c =
    let a = c.args in
    let s = a.trace.now in
    let b = first_part_lem 10 (drop a.at s) in
    c.judge_last.ensures
    ∙ ap (judge_as a.inputs a.line b (eqb (a.end + 1) (length s)) a.time a.least) (sym c.in-Last.is ∙ c.read_trace_line-read.ensures)
    ∙ judged_as a.inputs a.line b (eqb (a.end + 1) (length s)) a.time a.least (read_trace_line b) (get_or s (line_end s a.at) 0) (passed s 0 (line_end s a.at))

pub returns-in-Bad : goal.returns-in-Bad
returns-in-Bad c =
    let a = c.args in
    let s = a.trace.now in
    let b = first_part_lem 10 (drop a.at s) in
    ap (λ (f : TraceFault Reason). JV.Ends (Some f)) (c.unformed.ensures ∙ ap (λ (l : Bytes). unformed a.line l WV.NoForm) (part_taken 10 s a.at a.end (omega (arith, c.requires.0, c.requires.1)) c.requires.2))
    ∙ ap (judge_as a.inputs a.line b (eqb (a.end + 1) (length s)) a.time a.least) (sym c.in-Bad.is ∙ c.read_trace_line-read.ensures)
    ∙ judged_as a.inputs a.line b (eqb (a.end + 1) (length s)) a.time a.least (read_trace_line b) (get_or s (line_end s a.at) 0) (passed s 0 (line_end s a.at))
