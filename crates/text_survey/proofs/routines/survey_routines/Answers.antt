-- `text_survey::survey_routines` meets its contract.
use mathlib.Core.Path.{sym, ap, ◌∙◌}
use native.Mathlib.Omega.{arith}
use Rattle.text_records.proofs.Lines as lines
use Rattle.text_limits.proofs.Steps as steps
use Rattle.text_survey.specs.Surveys.{survey_one}
use Rattle.text_survey.proofs.Surveying as pass
use borrow.Author.Rules.{rules}
use Rattle.text_survey.proofs.routines.survey_routines.Goals as goal

pub loop-at-init : goal.loop-at-init
loop-at-init c = pass.surveying_begun _ c.requires.0

pub read_line-requires : goal.read_line-requires
read_line-requires c = (c.loop-at.invariant.limiting.formed.within, search rules)

pub returns-in_default : goal.returns-in_default
returns-in_default c =
    let v = c.loop-at in
    let s = c.args.s.now in
    absurd (steps.never_bad s v.at.offset v.at.line (lines.next_line s v.at.offset v.at.line v.invariant.limiting.formed c.loop-at-test.true) _ steps.nothing (sym c.in_default.is ∙ c.read_line.ensures))

pub with_line-survey-requires : goal.with_line-survey-requires
with_line-survey-requires c = c.loop-at.invariant.fits

pub loop-at-smaller : goal.loop-at-smaller
loop-at-smaller c =
    let v = c.loop-at in
    let s = c.args.s.now in
    let n = lines.next_line s v.at.offset v.at.line v.invariant.limiting.formed c.loop-at-test.true in
    let e = sym c.in-Some.is ∙ c.read_line.ensures in
    let o = steps.offset_is s v.at.offset v.at.line n _ steps.nothing _ e in
    omega (arith, o, c.loop-at-test.true)

pub loop-at-preserved : goal.loop-at-preserved
loop-at-preserved c =
    let v = c.loop-at in
    let s = c.args.s.now in
    let n = lines.next_line s v.at.offset v.at.line v.invariant.limiting.formed c.loop-at-test.true in
    let e = sym c.in-Some.is ∙ c.read_line.ensures in
    let o = steps.offset_is s v.at.offset v.at.line n _ steps.nothing _ e in
    let l = steps.line_is_lem s v.at.offset v.at.line n _ steps.nothing _ e in
    let r = steps.record_is s v.at.offset v.at.line n _ steps.nothing _ e in
    let w = c.with_line-survey.ensures ∙ ap (survey_one v.survey) r in
    rw (o, l, w) (pass.surveying_on s v.at.offset v.at.line v.survey v.invariant c.requires.1 n _ steps.nothing)

pub returns : goal.returns
returns c =
    let v = c.loop-at in
    pass.surveyed c.args.s.now v.at.offset v.at.line v.survey v.invariant c.loop-at-test.false
