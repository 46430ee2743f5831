-- `test_page_prints::run_case` meets its contract.
use mathlib.Core.Path.{sym}
use Prim.Native.Nat.{ℕ}
use lib.ListN.{length}
use lib.Seq.{length-take-le}
use Rattle.test_page_prints.proofs.Printing.{case_run}
use borrow.Author.Rules.{rules}
use Rattle.test_page_prints.proofs.run_case.Goals as goal

pub slice_bounds-print_page-end : goal.slice_bounds-print_page-end
slice_bounds-print_page-end c =
    let a = c.args in
    sym (length-take-le a.case.moments a.moments.now c.requires.0)

pub slice_bounds-print_page-end-2 : goal.slice_bounds-print_page-end-2
slice_bounds-print_page-end-2 c =
    let a = c.args in
    sym (length-take-le a.case.outputs a.outputs.now c.requires.1)

pub slice_bounds-print_page-end-3 : goal.slice_bounds-print_page-end-3
slice_bounds-print_page-end-3 c =
    let a = c.args in
    sym (length-take-le a.case.values a.values.now c.requires.2)

pub slice_bounds-print_page-end-5 : goal.slice_bounds-print_page-end-5
slice_bounds-print_page-end-5 c = sym (length-take-le _ _ (search rules))

pub slice_bounds-put_case-end-2 : goal.slice_bounds-put_case-end-2
slice_bounds-put_case-end-2 c = sym (length-take-le _ _ (search rules))

pub returns : goal.returns
returns c =
    let a = c.args in
    let called = c.print_page-r in
    let filled = c.fill.ensures.after (λ (y : ℕ) e. e) in
    let said = c.put_case.ensures in
    (case_run {m = length a.memory.now} called.ensures said.0 filled c.requires.3 called.auto.memory, said.1, search rules)
