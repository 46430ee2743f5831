-- What the beginning of an instant does to rows and environment.
use Rattle.std.specs.Prelude.{◌≡◌, List, ℕ, ◌<◌, length, get_or}
use Rattle.walk.specs.Instant.{due_writes, Write, apply_inputs}
use Rattle.engine_rows.specs.Beginning.{due_in_rows}
use Rattle.engine_blocks.specs.Blocks.{block, rows_of, environment_of}
use Rattle.engine_blocks.specs.Changes.{SameOutside, SameTriggers}
use Rattle.engine_clean.specs.Clean.{Clean}
use Rattle.engine_due.specs.Passes.{due_first, due_slot}

-- Due writes made everywhere.
pub record DueMade (n t : ℕ) (before after : List ℕ) : Type 0 where
  pub rows : rows_of after ≡ due_in_rows t (rows_of before)
  pub environment : environment_of n after ≡ due_writes t (environment_of n before)
  pub outside : SameOutside before after
  pub triggers : SameTriggers before after
  pub clean : Clean n before → Clean n after

-- Of each block the soonest moment due is known (place s for slot s, 64 for the environment). Where that is not t, making the writes due at t would
-- change nothing.
pub record DuesTell (n t : ℕ) (dues words : List ℕ) : Type 0 where
  pub slots : (s : ℕ) → s < 64 → (get_or dues s 0 ≡ t → ⊥) → due_slot t (block words s) ≡ block words s
  pub environment : (get_or dues 64 0 ≡ t → ⊥) → due_first n t (block words 64) ≡ block words 64

-- Inputs written, at any moment.
pub record InputsWritten (n : ℕ) (inputs : List Write) (before after : List ℕ) : Type 0 where
  pub rows : rows_of after ≡ rows_of before
  pub environment : (moment : ℕ) → environment_of n after ≡ apply_inputs moment inputs (environment_of n before)
  pub outside : SameOutside before after
  pub triggers : SameTriggers before after
  pub clean : Clean n before → Clean n after

-- 11 "Are the input numbers below i ..?"
pub record NumbersBelow (i : ℕ) (numbers : List ℕ) : Type 0 where
  pub below : (k : ℕ) → k < length numbers → get_or numbers k 0 < i
