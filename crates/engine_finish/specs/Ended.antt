-- What the end of an instant leaves in the machine's words: header, order list, and the blocks without their working words.
use Rattle.std.specs.Prelude.{List, ◌≡◌, ℕ, suc, ◌+◌, ◌≤◌, ◌<◌, length, get_or, take, drop, set}
use Rattle.machine.specs.Layout.{header_words}
use Rattle.engine_blocks.specs.Blocks.{Block, block}
use Rattle.engine_blocks.specs.Changes.{put_in, cleared}

-- A block without working words; word 7, the note that a waiting write may stand there, is one of them.
unfoldable pub idle_block : Block → Block
idle_block b = put_in (cleared 104 184 b) 7 0

-- The block of the p-th live routine in walking order, p counted from 1.
unfoldable pub resting_block : ℕ → Block → Block
resting_block p b = idle_block (put_in b 0 p)

-- All working words 0.
pub record WorkingCleared (before after : List ℕ) : Type 0 where
  pub size : length after ≡ length before
  pub header : take 328 after ≡ take 328 before
  pub past : drop 12288 after ≡ drop 12288 before
  pub made : (s : ℕ) → s ≤ 64 → block after s ≡ idle_block (block before s)

-- Words 1, 2 and 3 stored: the present moment's halves, and the number of live routines.
unfoldable pub stored : List ℕ → ℕ → ℕ → ℕ → List ℕ
stored w x y z = set (set (set w 1 x) 2 y) 3 z

-- At moment t, with the live routines' slots in this order.
pub record Ended (t : ℕ) (order before after : List ℕ) : Type 0 where
  pub size : length after ≡ length before
  pub past : drop 12288 after ≡ drop 12288 before
  pub header : (j : ℕ) → j < 64 → get_or after j 0 ≡ get_or (header_words t (length order)) j 0
  pub listed : (j : ℕ) → j < 264 → get_or after (64 + j) 0 ≡ get_or order j 0
  pub used : (k : ℕ) → k < length order → block after (get_or order k 0) ≡ resting_block (suc k) (block before (get_or order k 0))
  pub free : (s : ℕ) → s < 64 → ((k : ℕ) → k < length order → get_or order k 0 ≡ s → ⊥) → block after s ≡ idle_block (block before s)
  pub outer : block after 64 ≡ idle_block (block before 64)
