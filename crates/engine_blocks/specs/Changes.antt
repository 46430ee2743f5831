-- What it means that code changed one block: the words of that block, the rows and the environment that all words then stand for, and what stayed.
use Rattle.std.specs.Prelude.{cond, ◌&&◌, List, ◌≡◌, ℕ, ◌+◌, ◌*◌, ◌/◌, ◌%◌, ◌≤◌, ◌<◌, eqb, leb, ltb, length, get_or, take, drop}
use Rattle.machine.specs.Words.{block_at}
use Rattle.engine_blocks.specs.Blocks.{Block, block}
use Rattle.engine_blocks.specs.Store.{Store, store_of}

-- ── what stays ────────────────────────────────────────────────────────────────────────────────────
-- The length, the words before the blocks, and "words past 12,288", which "are never touched".
pub record SameOutside (before after : List ℕ) : Type 0 where
  pub size : length after ≡ length before
  pub header : take 328 after ≡ take 328 before
  pub past : drop 12288 after ≡ drop 12288 before

-- The trigger words of all blocks: offsets 144 and on.
pub record SameTriggers (before after : List ℕ) : Type 0 where
  pub same : (s offset : ℕ) → s ≤ 64 → 144 ≤ offset → block after s offset ≡ block before s offset

-- All words of blocks but the trigger words: with them, the rows and the environment.
pub record SameRows (before after : List ℕ) : Type 0 where
  pub same : (s offset : ℕ) → s ≤ 64 → offset < 144 → block after s offset ≡ block before s offset

-- Only words of block s differ, and the block is b now.
pub record InBlock (s : ℕ) (before after : List ℕ) (b : Block) : Type 0 where
  pub size : length after ≡ length before
  pub below : (k : ℕ) → k < block_at s → get_or after k 0 ≡ get_or before k 0
  pub above : (k : ℕ) → block_at s + 184 ≤ k → get_or after k 0 ≡ get_or before k 0
  pub words : block after s ≡ b

-- Block s is b now, and with it the rows and the environment are changed so, for any number n of environment variables.
pub record Changes (s : ℕ) (before after : List ℕ) (b : Block) (change : Store → Store) : Type 0 where
  pub in_block : InBlock s before after b
  pub store : (n : ℕ) → store_of n after ≡ change (store_of n before)
  pub outside : SameOutside before after
  pub triggers : SameTriggers before after

-- ── a block changed ───────────────────────────────────────────────────────────────────────────────
-- One word.
unfoldable pub put_in : Block → ℕ → ℕ → Block
put_in b offset v k = cond (eqb k offset) v (b k)

-- The words from one offset up to another are 0.
unfoldable pub cleared : ℕ → ℕ → Block → Block
cleared from to b k = cond (leb from k && ltb k to) 0 (b k)

-- At an instruction, and not asleep.
unfoldable pub placed_block : Block → ℕ → Block
placed_block b place = put_in (put_in b 104 0) 3 place

-- Variable i: a write.
unfoldable pub assigned_block : ℕ → ℕ → Block → Block
assigned_block i v b = put_in (put_in b (8 + i * 6) v) (128 + i) 1

-- Variable i: a waiting write, its moment as two words, the low half first.
unfoldable pub scheduled_block : ℕ → ℕ → ℕ → Block → Block
scheduled_block i t v b = put_in (put_in (put_in b (9 + i * 6) v) (10 + i * 6) (t % 4294967296)) (11 + i * 6) (t / 4294967296)

-- A waiting write may stand in the block: the end of the instant looks at it.
unfoldable pub queued_block : Block → Block
queued_block b = put_in b 7 1

-- Variable i: a write after which no waiting write is there.
unfoldable pub overwritten_block : ℕ → ℕ → Block → Block
overwritten_block i v b =
    put_in (put_in (put_in (put_in (put_in b (8 + i * 6) v) (9 + i * 6) 0) (10 + i * 6) 0) (11 + i * 6) 0) (128 + i) 1

-- Variable i: its waiting write made, and gone.
unfoldable pub made_block : ℕ → Block → Block
made_block i b = overwritten_block i (b (9 + i * 6)) b

-- Variable i: not written.
unfoldable pub unmarked_block : ℕ → Block → Block
unmarked_block i b = put_in b (128 + i) 0

-- Variable i: its waiting write made if it is due at t; the mark says whether.
unfoldable pub due_block : ℕ → ℕ → Block → Block
due_block i t b = cond (eqb (b (10 + i * 6) + b (11 + i * 6) * 4294967296) t) (made_block i b) (unmarked_block i b)
