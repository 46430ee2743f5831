-- The blocks in which a waiting write may stand, noted in word 7 of each: place s of `dues` has the soonest moment due of block s (0: none).
use Rattle.std.specs.Prelude.{◌≡◌, List, ℕ, zero, suc, ◌≤◌, ◌<◌, get_or}
use Rattle.engine_blocks.specs.Blocks.{block, rows_of, environment_of}
use Rattle.engine_blocks.specs.Changes.{SameOutside, SameTriggers, put_in}

unfoldable pub flag_of : ℕ → ℕ
flag_of zero = 0
flag_of (suc d) = 1

-- The first k blocks are noted; nothing else changed.
pub record Queued (k : ℕ) (dues before after : List ℕ) : Type 0 where
  pub noted : (s : ℕ) → s < k → s ≤ 64 → block after s ≡ put_in (block before s) 7 (flag_of (get_or dues s 0))
  pub others : (s : ℕ) → k ≤ s → s ≤ 64 → block after s ≡ block before s
  pub rows : rows_of after ≡ rows_of before
  pub environment : (n : ℕ) → environment_of n after ≡ environment_of n before
  pub outside : SameOutside before after
  pub triggers : SameTriggers before after
