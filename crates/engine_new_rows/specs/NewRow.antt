-- What a new routine's row takes from its caller, and the words that hold it. The letters: me the caller's slot, n the number of children of its `F`,
-- i a child field's number, s the new routine's slot.
use Rattle.std.specs.Prelude.{◌≡◌, ℕ, suc, ◌+◌, ◌*◌, ◌-◌, ◌^◌, ◌≤◌, ◌<◌, length}
use Rattle.engine_rows.specs.Rows.{Rows}
use Rattle.engine_blocks.specs.Blocks.{Block}
use Rattle.engine_blocks.specs.Changes.{put_in}
use Rattle.engine_new_rows.specs.declared.rows.Parent.{Parent}
use Rattle.engine_fork_bits.specs.ForkBits.{fork_bits}

-- The caller's level, variables and priorities leave room for n children.
pub record MayDivide (rows : Rows) (me n : ℕ) : Type 0 where
  pub level : (rows me).level ≤ 9
  pub base : (rows me).base + length (rows me).own ≤ 192
  pub some : 1 ≤ n
  pub most : n ≤ 8
  pub bits : fork_bits n ≤ (rows me).bits
  pub range : (rows me).low + 2 ^ (rows me).bits ≤ 4294967296

-- The routine in slot me as the parent of n children: what of `caller_at` stands in single words.
pub record ParentIs (rows : Rows) (me n : ℕ) (p : Parent) : Type 0 where
  pub slot : p.slot ≡ me
  pub level : p.level ≡ suc (rows me).level
  pub base : p.base ≡ (rows me).base + length (rows me).own
  pub low : p.low ≡ (rows me).low
  pub bits : p.bits ≡ (rows me).bits - fork_bits n

-- The parent's priorities reach to child number i.
pub record Reaches (p : Parent) (i : ℕ) : Type 0 where
  pub most : i < 8
  pub bits : p.bits ≤ 32
  pub low : p.low + i * 2 ^ p.bits < 4294967296

-- The words that are kept between calls, for a routine at its first instruction: in use, level, child field, own variables.
unfoldable pub kept_block : Block → ℕ → ℕ → ℕ → Block
kept_block b level i own = put_in (put_in (put_in (put_in b 0 1) 1 level) 2 i) 4 own

-- The working words of a routine without children, but for its names.
unfoldable pub working_block : Block → Parent → ℕ → ℕ → ℕ → Block
working_block b p i asleep routine =
    put_in (put_in (put_in (put_in (put_in (put_in (put_in b 104 asleep) 105 p.slot) 106 0) 107 (p.low + i * 2 ^ p.bits)) 108 p.bits) 109 routine) 111 p.base
