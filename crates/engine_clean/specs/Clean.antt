-- Clean blocks: every word that neither a row nor a working word uses is 0, a variable without a waiting write has no waiting value, and a block whose
-- word 7 is 0 has no waiting write.
use Rattle.std.specs.Prelude.{◌≡◌, List, ℕ, ◌+◌, ◌*◌, ◌≤◌, ◌<◌}
use Rattle.engine_blocks.specs.Blocks.{Block, block}

-- Value, waiting value and due moment of variable i are 0 (of the two kept words see `spare_low`, `spare_high`).
pub record Blank (b : Block) (i : ℕ) : Type 0 where
  pub value : b (8 + i * 6) ≡ 0
  pub waiting : b (9 + i * 6) ≡ 0
  pub low : b (10 + i * 6) ≡ 0
  pub high : b (11 + i * 6) ≡ 0

-- A block with `count` variables.
pub record CleanBlock (count : ℕ) (b : Block) : Type 0 where
  pub few : count ≤ 16
  -- words 5 and 6, and the two words kept for one more moment in each variable
  pub kept : (k : ℕ) → 5 ≤ k → k < 7 → b k ≡ 0
  pub spare_low : (i : ℕ) → i < 16 → b (12 + i * 6) ≡ 0
  pub spare_high : (i : ℕ) → i < 16 → b (13 + i * 6) ≡ 0
  -- no variable past the last one
  pub past : (i : ℕ) → count ≤ i → i < 16 → Blank b i
  -- no waiting write, no waiting value
  pub idle : (i : ℕ) → i < 16 → b (10 + i * 6) + b (11 + i * 6) * 4294967296 ≡ 0 → b (9 + i * 6) ≡ 0
  -- a block without the note has no waiting write
  pub quiet : b 7 ≡ 0 → (i : ℕ) → i < 16 → b (10 + i * 6) + b (11 + i * 6) * 4294967296 ≡ 0

-- A slot's block: a free one is 0 up to the trigger words.
pub record CleanSlot (b : Block) : Type 0 where
  pub clean : CleanBlock (b 4) b
  pub free : b 0 ≡ 0 → (k : ℕ) → k < 144 → b k ≡ 0

-- The environment's block, with n variables: nothing before the variables but word 7.
pub record CleanEnvironment (n : ℕ) (b : Block) : Type 0 where
  pub clean : CleanBlock n b
  pub before : (k : ℕ) → k < 7 → b k ≡ 0

-- All blocks of the machine's words.
pub record Clean (n : ℕ) (words : List ℕ) : Type 0 where
  pub slots : (s : ℕ) → s < 64 → CleanSlot (block words s)
  pub environment : CleanEnvironment n (block words 64)
