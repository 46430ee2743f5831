-- `fork_bits` meets its contract: the constant is the definition's table, read at n - 1; the rule is that of every entry.
use mathlib.Core.Path.{refl}
use native.Mathlib.Omega.{arith}
use borrow.Author.Rules.{rules}
use Rattle.engine_fork_bits.specs.ForkBits.{fork_bits}
use Rattle.engine_fork_bits.proofs.ForkBits.{fork_bits_are_fewest, fork_bits_are_at_most_three}
use Rattle.engine_fork_bits.proofs.fork_bits.Goals as goal

pub overflow_cast-result : goal.overflow_cast-result
unfolding fork_bits
overflow_cast-result c = record { fits = omega (arith, fork_bits_are_at_most_three c.args.children) }

pub returns : goal.returns
unfolding fork_bits
returns c = record { bits = refl; rule = fork_bits_are_fewest c.args.children c.requires.0 c.requires.1 }
