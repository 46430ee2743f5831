-- `book::put_page` meets its contract.
use mathlib.Core.Path.{sym}
use lib.Seq.{length-take-le}
use borrow.Author.Rules.{rules}
use Rattle.book.proofs.put_page.Goals as goal

pub slice_bounds-print_page-end : goal.slice_bounds-print_page-end
slice_bounds-print_page-end c = sym (length-take-le _ _ (search rules))

pub slice_bounds-print_page-end-2 : goal.slice_bounds-print_page-end-2
slice_bounds-print_page-end-2 c = sym (length-take-le _ _ (search rules))

pub slice_bounds-print_page-end-3 : goal.slice_bounds-print_page-end-3
slice_bounds-print_page-end-3 c = sym (length-take-le _ _ (search rules))

pub returns : goal.returns
returns c = c.print_page.ensures
