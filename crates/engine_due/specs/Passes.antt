-- Passes over the blocks: what becomes of one block, and that all blocks became so.
use Rattle.std.specs.Prelude.{cond, ◌≡◌, List, ℕ, zero, suc, ◌≤◌, ◌<◌, min, length, take, drop}
use Rattle.engine_blocks.specs.Blocks.{Block, block, nonzero}
use Rattle.engine_blocks.specs.Changes.{due_block}

-- Due writes made in the first variables of a block.
unfoldable pub due_first : ℕ → ℕ → Block → Block
due_first zero t b = b
due_first (suc i) t b = due_block i t (due_first i t b)

-- In a slot's block: its own variables, if a routine sits there.
unfoldable pub due_slot : ℕ → Block → Block
due_slot t b = cond (nonzero (b 0)) (due_first (min (b 4) 16) t b) b

-- The first k blocks became f of what they were; the others, the words before the blocks and those past 12,288 are as they were.
pub record Mapped (k : ℕ) (f : Block → Block) (before after : List ℕ) : Type 0 where
  pub size : length after ≡ length before
  pub header : take 328 after ≡ take 328 before
  pub past : drop 12288 after ≡ drop 12288 before
  pub made : (s : ℕ) → s < k → s < 64 → block after s ≡ f (block before s)
  pub others : (s : ℕ) → k ≤ s → s ≤ 64 → block after s ≡ block before s
