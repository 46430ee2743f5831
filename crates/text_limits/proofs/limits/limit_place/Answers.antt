-- `text_limits::limit_place` meets its contract.
use mathlib.Core.Path.{sym, ◌∙◌}
use native.Mathlib.Omega.{arith}
use Rattle.text_records.proofs.Lines as lines
use Rattle.text_limits.proofs.Steps as steps
use Rattle.text_limits.proofs.LimitPass as pass
use borrow.Author.Rules.{rules}
use Rattle.text_limits.proofs.limits.limit_place.Goals as goal

pub loop-at-init : goal.loop-at-init
loop-at-init c = pass.limiting_begun _ c.requires

pub read_line-requires : goal.read_line-requires
read_line-requires c = (c.loop-at.invariant.formed.within, search rules)

pub returns-in_err-read : goal.returns-in_err-read
returns-in_err-read c =
    let v = c.loop-at in
    let s = c.args.s.now in
    absurd (steps.never_bad s v.at.offset v.at.line (lines.next_line s v.at.offset v.at.line v.invariant.formed c.loop-at-test.true) _ steps.nothing (sym c.in_err-read.was ∙ c.read_line.ensures))

pub count_line-requires : goal.count_line-requires
count_line-requires c = c.loop-at.invariant.limits

pub returns-in_default : goal.returns-in_default
returns-in_default c =
    let v = c.loop-at in
    let s = c.args.s.now in
    let n = lines.next_line s v.at.offset v.at.line v.invariant.formed c.loop-at-test.true in
    let e = sym c.in_ok-read.was ∙ c.read_line.ensures in
    lines.place_some _ _ v.invariant.formed.some_line (pass.limit_passed s v.at.offset v.at.line v.held v.invariant n _ steps.nothing _ _ (steps.record_is s v.at.offset v.at.line n _ steps.nothing _ e) (steps.offset_is s v.at.offset v.at.line n _ steps.nothing _ e) _ c.count_line.ensures c.in_default.is)

pub loop-at-smaller : goal.loop-at-smaller
loop-at-smaller c =
    let v = c.loop-at in
    let s = c.args.s.now in
    let n = lines.next_line s v.at.offset v.at.line v.invariant.formed c.loop-at-test.true in
    let e = sym c.in_ok-read.was ∙ c.read_line.ensures in
    let o = steps.offset_is s v.at.offset v.at.line n _ steps.nothing _ e in
    omega (arith, o, c.loop-at-test.true)

pub loop-at-preserved : goal.loop-at-preserved
loop-at-preserved c =
    let v = c.loop-at in
    let s = c.args.s.now in
    let n = lines.next_line s v.at.offset v.at.line v.invariant.formed c.loop-at-test.true in
    let e = sym c.in_ok-read.was ∙ c.read_line.ensures in
    let o = steps.offset_is s v.at.offset v.at.line n _ steps.nothing _ e in
    let l = steps.line_is_lem s v.at.offset v.at.line n _ steps.nothing _ e in
    rw (o, l) (pass.limit_met s v.at.offset v.at.line v.held v.invariant n _ steps.nothing _ _ (steps.record_is s v.at.offset v.at.line n _ steps.nothing _ e) o _ c.count_line.ensures _ c.in-Some.is)

pub returns : goal.returns
returns c =
    let v = c.loop-at in
    lines.place_none _ (pass.limiting_done c.args.s.now v.at.offset v.at.line v.held v.invariant c.loop-at-test.false)
