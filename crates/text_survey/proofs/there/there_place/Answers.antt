-- `text_survey::there_place` meets its contract.
use mathlib.Core.Path.{◌≡◌, refl, sym, ap, ◌∙◌}
use native.Mathlib.Omega.{arith}
use lib.ListN.{length, take, length-take}
use Rattle.listing.specs.Questions.{listing_in}
use Rattle.text_records.proofs.Lines as lines
use Rattle.text_limits.proofs.Steps as steps
use Rattle.text_survey.specs.Surveys.{answers_here, moved_here_lem}
use Rattle.text_survey.proofs.TherePass as pass
use borrow.Author.Rules.{rules}
use Rattle.text_jumps.specs.declared.scope.Scope.{Scope}
use Rattle.text_main.specs.declared.main_routine.Here.{Here}
use Prim.Native.Nat.{ℕ}
use Rattle.text_survey.proofs.there.there_place.Goals as goal

abbrev scope : Here → Scope
scope here = record { names = here.names; size = here.size }

pub survey_routines-survey-requires : goal.survey_routines-survey-requires
survey_routines-survey-requires c = c.requires

pub returns-then-routines-eq0 : goal.returns-then-routines-eq0
returns-then-routines-eq0 c =
    let y = c.survey_routines-survey.ensures in
    pass.main_missing c.args.s.now c.requires.0 c.requires.1 (sym (pass.all_counted (listing_in c.args.s.now) _ y) ∙ sym c.from-routines.ensures ∙ c.if-routines-eq0.true)

pub loop-at-init : goal.loop-at-init
loop-at-init c =
    let y = c.survey_routines-survey.ensures in
    pass.there_begun c.args.s.now c.requires.0 c.requires.1 (λ z. c.if-routines-eq0.false (c.from-routines.ensures ∙ pass.all_counted (listing_in c.args.s.now) _ y ∙ z))

pub read_line-requires : goal.read_line-requires
read_line-requires c =
    let survey = c.survey_routines-survey.result in
    let long : length survey.counts ≡ 64 = search rules in
    (c.loop-at.invariant.limiting.formed.within, omega (arith, length-take c.from-routines.result survey.counts, long))

pub returns-in_err-read : goal.returns-in_err-read
returns-in_err-read c =
    let v = c.loop-at in
    let s = c.args.s.now in
    absurd (steps.never_bad s v.at.offset v.at.line (lines.next_line s v.at.offset v.at.line v.invariant.limiting.formed c.loop-at-test.true) _ (scope v.here) (sym c.in_err-read.was ∙ c.read_line.ensures))

pub moved-here-requires : goal.moved-here-requires
moved-here-requires c =
    let v = c.loop-at in
    let s = c.args.s.now in
    let n = lines.next_line s v.at.offset v.at.line v.invariant.limiting.formed c.loop-at-test.true in
    let e = sym c.in_ok-read.was ∙ c.read_line.ensures in
    let o = steps.offset_is s v.at.offset v.at.line n _ (scope v.here) _ e in
    let l = steps.line_is_lem s v.at.offset v.at.line n _ (scope v.here) _ e in
    rw (o, l) n.formed

pub loop-at-smaller : goal.loop-at-smaller
loop-at-smaller c =
    let v = c.loop-at in
    let s = c.args.s.now in
    let n = lines.next_line s v.at.offset v.at.line v.invariant.limiting.formed c.loop-at-test.true in
    let e = sym c.in_ok-read.was ∙ c.read_line.ensures in
    let o = steps.offset_is s v.at.offset v.at.line n _ (scope v.here) _ e in
    omega (arith, o, c.loop-at-test.true)

pub loop-at-preserved : goal.loop-at-preserved
loop-at-preserved c =
    let v = c.loop-at in
    let s = c.args.s.now in
    let n = lines.next_line s v.at.offset v.at.line v.invariant.limiting.formed c.loop-at-test.true in
    let e = sym c.in_ok-read.was ∙ c.read_line.ensures in
    let o = steps.offset_is s v.at.offset v.at.line n _ (scope v.here) _ e in
    let l = steps.line_is_lem s v.at.offset v.at.line n _ (scope v.here) _ e in
    let r = steps.record_is s v.at.offset v.at.line n _ (scope v.here) _ e in
    let y = ap (λ (k : ℕ). take k c.survey_routines-survey.result.counts) c.from-routines.ensures ∙ pass.counts_are (listing_in s) _ c.survey_routines-survey.ensures in
    let a = ap (answers_here v.here) (sym r) ∙ sym c.answers.ensures ∙ c.if-not-answers.false in
    let t = pass.there_on s c.requires.0 c.requires.1 v.at.offset v.at.line v.here v.invariant n _ y (scope v.here) refl refl a in
    let w = c.moved-here.ensures ∙ ap (moved_here_lem _ v.here) r in
    rw (w, o, l) t

pub returns-then-not-answers : goal.returns-then-not-answers
returns-then-not-answers c =
    let v = c.loop-at in
    let s = c.args.s.now in
    let n = lines.next_line s v.at.offset v.at.line v.invariant.limiting.formed c.loop-at-test.true in
    let e = sym c.in_ok-read.was ∙ c.read_line.ensures in
    let r = steps.record_is s v.at.offset v.at.line n _ (scope v.here) _ e in
    let y = ap (λ (k : ℕ). take k c.survey_routines-survey.result.counts) c.from-routines.ensures ∙ pass.counts_are (listing_in s) _ c.survey_routines-survey.ensures in
    pass.there_no s c.requires.0 c.requires.1 v.at.offset v.at.line v.here v.invariant n _ y (scope v.here) refl refl (ap (answers_here v.here) (sym r) ∙ sym c.answers.ensures ∙ c.if-not-answers.true)

pub returns : goal.returns
returns c =
    let v = c.loop-at in
    pass.there_done c.args.s.now c.requires.0 c.requires.1 v.at.offset v.at.line v.here v.invariant c.loop-at-test.false
