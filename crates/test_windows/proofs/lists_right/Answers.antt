-- `test_windows::lists_right` meets its contract.
use Rattle.test_windows.proofs.Passing.{figures_differ, few_moments, few_words, moments_differ, by_words}
use Rattle.test_windows.proofs.lists_right.Goals as goal

pub returns-then-not-figures_right : goal.returns-then-not-figures_right
returns-then-not-figures_right c =
    let call = c.list_windows-found in
    let a = c.args in
    (figures_differ a.s.now a.case a.moments.now a.inputs.now a.values.now call.new.moments call.new.inputs call.new.values call.result call.ensures c.figures_right.ensures c.if-not-figures_right.true, record { answer = call.result; as_defined = call.ensures })

pub moments_right-requires : goal.moments_right-requires
moments_right-requires c =
    let call = c.list_windows-found in
    let a = c.args in
    let pre = c.requires in
    few_moments a.moments.now call.new.moments a.case.moments pre.2 call.auto.moments

pub returns-then-not-moments_right : goal.returns-then-not-moments_right
returns-then-not-moments_right c =
    let call = c.list_windows-found in
    let a = c.args in
    let pre = c.requires in
    (moments_differ a.s.now a.case a.moments.now a.inputs.now a.values.now call.new.moments call.new.inputs call.new.values call.result call.ensures pre.2 call.auto.moments c.moments_right.ensures c.if-not-moments_right.true, record { answer = call.result; as_defined = call.ensures })

pub words_right-requires : goal.words_right-requires
words_right-requires c =
    let call = c.list_windows-found in
    let kept = call.auto in
    let a = c.args in
    let pre = c.requires in
    (few_words a.inputs.now call.new.inputs a.case.inputs pre.3 kept.inputs, few_words a.values.now call.new.values a.case.values pre.4 kept.values)

pub returns : goal.returns
returns c =
    let call = c.list_windows-found in
    let kept = call.auto in
    let a = c.args in
    let pre = c.requires in (
      by_words a.s.now a.case a.moments.now a.inputs.now a.values.now call.new.moments call.new.inputs call.new.values call.result call.ensures pre.2 kept.moments c.figures_right.ensures c.if-not-figures_right.false
          c.moments_right.ensures c.if-not-moments_right.false pre.3 kept.inputs pre.4 kept.values c.words_right.ensures,
      record { answer = call.result; as_defined = call.ensures },
    )
