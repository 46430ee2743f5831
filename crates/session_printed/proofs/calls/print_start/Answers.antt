-- `session_printed::calls::print_start` meets its contract.
use native.Mathlib.Omega.{arith}
use Rattle.session_calls.proofs.FewListed.{called_few}
use borrow.Author.Rules.{rules}
use Rattle.session_printed.proofs.calls.print_start.Goals as goal

pub print_called-requires : goal.print_called-requires
print_called-requires c =
    let few = called_few c.make_start-called.ensures.made (search rules) in
    (search rules, search rules, search rules, omega arith)

pub shape_of-machine : goal.shape_of-machine
shape_of-machine c = c.machine-1.given

pub shape_of-out : goal.shape_of-out
shape_of-out c = c.out-1.given

pub returns : goal.returns
returns c =
    let s = c.make_start-called in
    record { numbers = _; values = _; numbers' = _; values' = _; called = s.result; call = s.ensures; prints = c.print_called.ensures }
