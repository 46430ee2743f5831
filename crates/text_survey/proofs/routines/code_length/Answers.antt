-- `text_survey::code_length` meets its contract.
use mathlib.Core.Path.{sym, ap, ◌∙◌}
use native.Mathlib.Omega.{arith}
use Rattle.text_records.proofs.Lines as lines
use Rattle.text_limits.proofs.Steps as steps
use Rattle.text_survey.specs.Surveys.{is_instruction}
use Rattle.text_survey.proofs.Surveying as pass
use borrow.Author.Rules.{rules}
use Rattle.text_survey.proofs.routines.code_length.Goals as goal

pub loop-at-init : goal.loop-at-init
loop-at-init c = pass.counting_begun _ _ _ c.requires

pub read_line-requires : goal.read_line-requires
read_line-requires c = (c.loop-at.invariant.formed.within, search rules)

pub returns-in_default : goal.returns-in_default
returns-in_default c =
    let v = c.loop-at in
    let s = c.args.s.now in
    absurd (steps.never_bad s v.at.offset v.at.line (lines.next_line s v.at.offset v.at.line v.invariant.formed c.loop-at-test.true) _ steps.nothing (sym c.in_default.is ∙ c.read_line.ensures))

pub overflow_add-count : goal.overflow_add-count
overflow_add-count c = omega (arith, c.loop-at.invariant.after, c.loop-at.invariant.formed.within.inside, c.well_formed)

pub loop-at-smaller : goal.loop-at-smaller
loop-at-smaller c =
    let v = c.loop-at in
    let s = c.args.s.now in
    let n = lines.next_line s v.at.offset v.at.line v.invariant.formed c.loop-at-test.true in
    let e = sym c.in-Some.is ∙ c.read_line.ensures in
    let o = steps.offset_is s v.at.offset v.at.line n _ steps.nothing _ e in
    omega (arith, o, c.loop-at-test.true)

pub loop-at-preserved : goal.loop-at-preserved
loop-at-preserved c =
    let v = c.loop-at in
    let s = c.args.s.now in
    let n = lines.next_line s v.at.offset v.at.line v.invariant.formed c.loop-at-test.true in
    let e = sym c.in-Some.is ∙ c.read_line.ensures in
    let o = steps.offset_is s v.at.offset v.at.line n _ steps.nothing _ e in
    let l = steps.line_is_lem s v.at.offset v.at.line n _ steps.nothing _ e in
    let r = steps.record_is s v.at.offset v.at.line n _ steps.nothing _ e in
    rw (o, l) (pass.counting_on s _ _ v.at.offset v.at.line v.count v.invariant n _ steps.nothing (ap is_instruction (sym r) ∙ sym c.is_instruction.ensures ∙ c.if-not-is_instruction.false))

pub returns-then-not-is_instruction : goal.returns-then-not-is_instruction
returns-then-not-is_instruction c =
    let v = c.loop-at in
    let s = c.args.s.now in
    let n = lines.next_line s v.at.offset v.at.line v.invariant.formed c.loop-at-test.true in
    let e = sym c.in-Some.is ∙ c.read_line.ensures in
    let r = steps.record_is s v.at.offset v.at.line n _ steps.nothing _ e in
    pass.counting_over s _ _ v.at.offset v.at.line v.count v.invariant n _ steps.nothing (ap is_instruction (sym r) ∙ sym c.is_instruction.ensures ∙ c.if-not-is_instruction.true)

pub returns : goal.returns
returns c =
    let v = c.loop-at in
    pass.counting_done c.args.s.now _ _ v.at.offset v.at.line v.count v.invariant c.loop-at-test.false
