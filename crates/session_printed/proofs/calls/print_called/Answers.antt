-- `session_printed::calls::print_called` meets its contract.
use native.Mathlib.Omega.{arith}
use lib.Seq.{length-take-le}
use Rattle.session_printed.proofs.PiecePrinted.{ends_printed, goes_printed, listed_of_lem}
use borrow.Author.Rules.{rules}
use Rattle.session_printed.proofs.calls.print_called.Goals as goal

pub put_write_lines-n-requires : goal.put_write_lines-n-requires
put_write_lines-n-requires c =
    let few = listed_of_lem _ _ _ _ c.in-Went.is c.requires.3 in
    let size = length-take-le c.in-Went.listed c.args.numbers.now (omega (arith, few, c.requires.0)) in
    (omega arith, omega (arith, size, few))

pub slice_bounds-put_write_lines-end : goal.slice_bounds-put_write_lines-end
slice_bounds-put_write_lines-end c =
    let few = listed_of_lem _ _ _ _ c.in-Went.is c.requires.3 in
    let size = length-take-le c.in-Went.listed c.args.numbers.now (omega (arith, few, c.requires.0)) in
    omega (arith, size, few, c.requires.0)

pub slice_bounds-put_write_lines-end-in-Went : goal.slice_bounds-put_write_lines-end-in-Went
slice_bounds-put_write_lines-end-in-Went c =
    let few = listed_of_lem _ _ _ _ c.in-Went.is c.requires.3 in
    let size = length-take-le c.in-Went.listed c.args.values.now (omega (arith, few, c.requires.1)) in
    omega (arith, size, few, c.requires.1)

pub shape_of-out-in-Ended : goal.shape_of-out-in-Ended
shape_of-out-in-Ended c = c.out-1.given

pub returns-in-Ended : goal.returns-in-Ended
returns-in-Ended c =
    let p = c.put_end_line-n.ensures in
    ends_printed _ _ _ _ _ _ _ _ (omega arith) _ c.in-Ended.is p.0 p.1

pub shape_of-out-in-Went : goal.shape_of-out-in-Went
shape_of-out-in-Went c = c.out-in-Went-1.given

pub returns-in-Went : goal.returns-in-Went
returns-in-Went c =
    let p = c.put_write_lines-n.ensures in
    let few = listed_of_lem _ _ _ _ c.in-Went.is c.requires.3 in
    let size = length-take-le c.in-Went.listed c.args.numbers.now (omega (arith, few, c.requires.0)) in
    goes_printed _ _ _ _ _ _ _ _ (omega arith) _ _ c.in-Went.is few p.0 (omega (arith, p.1, size))
