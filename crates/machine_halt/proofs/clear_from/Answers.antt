-- `machine_halt::clear_from` meets its contract.
use native.Mathlib.Omega.{arith}
use borrow.Author.Rules.{rules}
use Rattle.machine_halt.proofs.Zeroes.{filled}
use Rattle.machine_halt.proofs.clear_from.Goals as goal

pub returns : goal.returns
returns c = filled c.args.from _ _ _ _ c.requires.1 c.requires.0 (omega arith) (omega arith) (c.fill.ensures.after (λ y e. search rules))
