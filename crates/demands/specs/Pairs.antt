-- The priorities of a fork's children as pairs. Document 001, IV.D: a routine with the pair (p, d) that calls k children gives them the pairs
-- (p, d'), (p + 2 ^ d', d'), .., (p + (k - 1) * 2 ^ d', d').
use Rattle.std.specs.Prelude.{◌≡◌, ℕ, ◌+◌, ◌*◌, ◌-◌, ◌^◌, get_or}
use Rattle.engine_fork_bits.specs.ForkBits.{fork_bits_table}
use Rattle.engine_rows.specs.Rows.{Row, Rows}

-- Child number i of n has the pair that the routine in slot p gives it: d' is d less the table's entry at n - 1.
pub record HasPair (rows : Rows) (p n i : ℕ) (child : Row) : Type 0 where
  pub low : child.low ≡ (rows p).low + i * 2 ^ ((rows p).bits - get_or fork_bits_table (n - 1) 0)
  pub bits : child.bits ≡ (rows p).bits - get_or fork_bits_table (n - 1) 0
