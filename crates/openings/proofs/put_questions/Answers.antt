-- `openings::put_questions` meets its contract.
use Rattle.std.proofs.Common.{sym, ◌∙◌}
use Rattle.openings.proofs.OnePass as pass
use Rattle.openings.proofs.put_questions.Goals as goal
use Rattle.openings.proofs.put_questions.Goals.{then-moment-before+else-moment-before-2, else-moment-before}

pub returns-then-output-ge-OUTPUTS : goal.returns-then-output-ge-OUTPUTS
returns-then-output-ge-OUTPUTS c =
    let v = c.loop-moment in
    let s = c.in-Some.ensures.steps in
    λ vs e. sym (pass.too_high v.before v.seen v.late _ _ _ _ _ _ s.0 s.1 c.if-output-ge-OUTPUTS.true) ∙ v.invariant ∙ pass.one_pass _ _ vs c.requires e

pub returns-then-moment-before-2 : goal.returns-then-moment-before-2
returns-then-moment-before-2 c =
    let v = c.loop-moment in
    let s = c.in-Some.ensures.steps in
    λ vs e. sym (pass.fallen v.before v.seen v.late _ _ _ _ _ _ s.0 s.1 c.if-output-ge-OUTPUTS.false c.if-moment-before-2.true) ∙ v.invariant ∙ pass.one_pass _ _ vs c.requires e

pub loop-moment-preserved : goal.loop-moment-preserved
loop-moment-preserved c =
    let v = c.loop-moment in
    let s = c.in-Some.ensures.steps in
    let low = c.if-output-ge-OUTPUTS.false in
    elim c.if-moment-before.branch [
      | then-moment-before+else-moment-before-2 w ↦
          sym (pass.moment_later v.before v.seen v.late _ _ _ _ _ _ s.0 s.1 low w.if-moment-before.true w.if-moment-before-2.false _ _ w.before-is w.seen-is) ∙ v.invariant
      | else-moment-before w ↦ sym (pass.moment_same v.before v.seen v.late _ _ _ _ _ _ s.0 s.1 low w.if-moment-before.false _ _ w.before-is w.seen-is) ∙ v.invariant
    ]

pub returns-then-late-eq0 : goal.returns-then-late-eq0
returns-then-late-eq0 c =
    let v = c.loop-moment in
    λ vs e. pass.told_none v.late c.if-late-eq0.true ∙ sym (pass.pass_ends v.before v.seen v.late _ _ c.in-None.ensures.steps) ∙ v.invariant ∙ pass.one_pass _ _ vs c.requires e

pub returns-then-late-eq1 : goal.returns-then-late-eq1
returns-then-late-eq1 c =
    let v = c.loop-moment in
    λ vs e. pass.told_odd v.late c.if-late-eq0.false c.if-late-eq1.true ∙ sym (pass.pass_ends v.before v.seen v.late _ _ c.in-None.ensures.steps) ∙ v.invariant ∙ pass.one_pass _ _ vs c.requires e

pub returns : goal.returns
returns c =
    let v = c.loop-moment in
    λ vs e. pass.told_even v.late c.if-late-eq0.false c.if-late-eq1.false ∙ sym (pass.pass_ends v.before v.seen v.late _ _ c.in-None.ensures.steps) ∙ v.invariant ∙ pass.one_pass _ _ vs c.requires e
