-- `session_calls::clock::due_before` meets its contract.
use native.Mathlib.Omega.{arith}
use Rattle.session_calls.proofs.Results.{soon_at, soon_late, soon_never}
use borrow.Author.Rules.{rules}
use Rattle.session_calls.proofs.clock.due_before.Goals as goal

pub returns-then-m-time : goal.returns-then-m-time
returns-then-m-time c = soon_at _ _ _ c.in-At.is (omega arith)

pub returns-in-Never : goal.returns-in-Never
returns-in-Never c = soon_never _ _ c.in-Never.is

pub returns-else-m-time : goal.returns-else-m-time
returns-else-m-time c = soon_late _ _ _ c.in-At.is (omega arith)
