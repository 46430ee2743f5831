-- `table_lines::kind_bits` meets its contract.
use native.Mathlib.Omega.{arith}
use Rattle.table_lines.proofs.Openings as openings
use Rattle.table_lines.proofs.opens.kind_bits.Goals as goal

pub loop-i-init : goal.loop-i-init
loop-i-init c = openings.bits_begun _ _ _ c.requires.0

pub overflow_mul-bits : goal.overflow_mul-bits
overflow_mul-bits c = omega (arith, openings.bits_word _ _ _ _ _ c.loop-i.invariant c.requires.1 c.requires.2)

pub overflow_add-bits : goal.overflow_add-bits
overflow_add-bits c = omega (arith, openings.bits_word _ _ _ _ _ c.loop-i.invariant c.requires.1 c.requires.2, c.kind_bit.ensures.1)

pub loop-i-preserved : goal.loop-i-preserved
loop-i-preserved c = openings.bits_on _ _ _ _ _ c.loop-i.invariant c.requires.1 _ c.loop-i-test.true c.kind_bit.ensures.0

pub returns : goal.returns
returns c = openings.bits_done _ _ _ _ _ c.loop-i.invariant c.loop-i-test.false
