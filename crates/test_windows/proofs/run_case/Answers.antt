-- `test_windows::run_case` meets its contract.
use mathlib.Core.Path.{sym, ap}
use lib.ListN.{take}
use lib.Seq.{length-take-le}
use Rattle.test_windows.proofs.Passing.{lists_differ, lists_agree}
use borrow.Author.Rules.{rules}
use Rattle.test_windows.proofs.run_case.Goals as goal

pub slice_bounds-lists_right-end : goal.slice_bounds-lists_right-end
slice_bounds-lists_right-end c = sym (length-take-le _ _ (search rules))

pub slice_bounds-lists_right-end-2 : goal.slice_bounds-lists_right-end-2
slice_bounds-lists_right-end-2 c = sym (length-take-le _ _ (search rules))

pub slice_bounds-lists_right-end-3 : goal.slice_bounds-lists_right-end-3
slice_bounds-lists_right-end-3 c = sym (length-take-le _ _ (search rules))

pub lists_right-requires : goal.lists_right-requires
lists_right-requires c = (c.requires.0, c.requires.1, ap (take c.args.case.moments) c.junk_moments-moments.ensures.1, ap (take c.args.case.inputs) c.junk_words-inputs.ensures.1, ap (take c.args.case.values) c.junk_words-values.ensures.1)

pub returns-then-not-lists_right : goal.returns-then-not-lists_right
returns-then-not-lists_right c =
    let a = c.args in
    lists_differ a.s.now a.case c.junk_moments-moments.ensures.1 c.junk_words-inputs.ensures.1 c.junk_words-values.ensures.1 c.lists_right.ensures.0 c.if-not-lists_right.true

pub returns : goal.returns
returns c =
    let a = c.args in
    lists_agree a.s.now a.case c.junk_moments-moments.ensures.1 c.junk_words-inputs.ensures.1 c.junk_words-values.ensures.1 c.lists_right.ensures.0 c.if-not-lists_right.false c.line_right.ensures
