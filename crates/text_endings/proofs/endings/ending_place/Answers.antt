-- `text_endings::ending_place` meets its contract.
use mathlib.Core.Path.{sym, ap, ◌∙◌}
use native.Mathlib.Omega.{arith}
use Rattle.text_records.proofs.Lines as lines
use Rattle.text_limits.proofs.Steps as steps
use Rattle.text_endings.specs.Endings.{ends_badly, may_end_with}
use Rattle.text_endings.proofs.EndingPass as pass
use borrow.Author.Rules.{rules}
use Rattle.text_endings.proofs.endings.ending_place.Goals as goal

pub loop-at-init : goal.loop-at-init
loop-at-init c = pass.ending_begun _ c.requires

pub read_line-requires : goal.read_line-requires
read_line-requires c = (c.loop-at.invariant.formed.within, search rules)

pub returns-in_err-read : goal.returns-in_err-read
returns-in_err-read c =
    let v = c.loop-at in
    let s = c.args.s.now in
    absurd (steps.never_bad s v.at.offset v.at.line (lines.next_line s v.at.offset v.at.line v.invariant.formed c.loop-at-test.true) _ steps.nothing (sym c.in_err-read.was ∙ c.read_line.ensures))

pub overflow_sub-result : goal.overflow_sub-result
overflow_sub-result c = omega (arith, c.loop-at.invariant.formed.some_line)

pub returns-then-ends_badly : goal.returns-then-ends_badly
returns-then-ends_badly c =
    let v = c.loop-at in
    let s = c.args.s.now in
    let n = lines.next_line s v.at.offset v.at.line v.invariant.formed c.loop-at-test.true in
    let e = sym c.in_ok-read.was ∙ c.read_line.ensures in
    let r = steps.record_is s v.at.offset v.at.line n _ steps.nothing _ e in
    pass.ending_bad s v.at.offset v.at.line v.may_end v.invariant n _ steps.nothing (ap (ends_badly v.may_end) (sym r) ∙ sym c.ends_badly.ensures ∙ c.if-ends_badly.true)

pub loop-at-smaller : goal.loop-at-smaller
loop-at-smaller c =
    let v = c.loop-at in
    let s = c.args.s.now in
    let n = lines.next_line s v.at.offset v.at.line v.invariant.formed c.loop-at-test.true in
    let e = sym c.in_ok-read.was ∙ c.read_line.ensures in
    let o = steps.offset_is s v.at.offset v.at.line n _ steps.nothing _ e in
    omega (arith, o, c.loop-at-test.true)

pub loop-at-preserved : goal.loop-at-preserved
loop-at-preserved c =
    let v = c.loop-at in
    let s = c.args.s.now in
    let n = lines.next_line s v.at.offset v.at.line v.invariant.formed c.loop-at-test.true in
    let e = sym c.in_ok-read.was ∙ c.read_line.ensures in
    let r = steps.record_is s v.at.offset v.at.line n _ steps.nothing _ e in
    let o = steps.offset_is s v.at.offset v.at.line n _ steps.nothing _ e in
    let l = steps.line_is_lem s v.at.offset v.at.line n _ steps.nothing _ e in
    let m = c.may_end_with-may_end.ensures ∙ ap may_end_with r in
    rw (o, l, m) (pass.ending_on s v.at.offset v.at.line v.may_end v.invariant n _ steps.nothing (ap (ends_badly v.may_end) (sym r) ∙ sym c.ends_badly.ensures ∙ c.if-ends_badly.false))

pub returns-then-may_end : goal.returns-then-may_end
returns-then-may_end c =
    let v = c.loop-at in
    pass.ending_fine c.args.s.now v.at.offset v.at.line v.may_end v.invariant c.loop-at-test.false c.if-may_end.true

pub overflow_sub-result-2 : goal.overflow_sub-result-2
overflow_sub-result-2 c = omega (arith, c.loop-at.invariant.formed.some_line)

pub returns : goal.returns
returns c =
    let v = c.loop-at in
    pass.ending_open c.args.s.now v.at.offset v.at.line v.may_end v.invariant c.loop-at-test.false c.if-may_end.false
