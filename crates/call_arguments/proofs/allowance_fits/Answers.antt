-- `call_arguments::allowance_fits` meets its contract.
use native.Mathlib.Omega.{arith}
use Rattle.call_arguments.proofs.Asking.{none_allowed, some_allowed}
use Rattle.call_arguments.proofs.allowance_fits.Goals as goal

pub returns-then-allowance-lt1 : goal.returns-then-allowance-lt1
returns-then-allowance-lt1 c = none_allowed _ c.if-allowance-lt1.true

pub returns : goal.returns
returns c = some_allowed c.args.allowance (omega arith)
