-- One step of the pass over the walking order. The letters are those of specs/Filling; `level` is that of the routine in slot s.
use Rattle.std.specs.Prelude.{◌≡◌, List, ℕ, length, get_or}
use Rattle.walk.specs.State.{Variable}
use Rattle.walk.specs.Instant.{environment_size}
use Rattle.table.specs.Decode.{table_listing}
use Rattle.engine_rows.specs.Rows.{Rows}
use Rattle.engine_rows.specs.Records.{filled_at}
use Rattle.engine_blocks.specs.Blocks.{rows_of, environment_of}
use Rattle.engine_blocks.specs.Changes.{SameOutside, SameTriggers}
use Rattle.engine_clean.specs.Clean.{Clean}
use Rattle.engine_fill_row.specs.Filling.{MayFillMain, MayFillChild}

pub record MayFillSlot (t : List ℕ) (rows : Rows) (level p s : ℕ) : Type 0 where
  pub main : level ≡ 0 → MayFillMain t rows s
  pub child : (level ≡ 0 → ⊥) → MayFillChild t rows p s

pub record SlotFilled (t before : List ℕ) (level p s : ℕ) (after : List ℕ) : Type 0 where
  pub rows : (environment : List Variable) → length environment ≡ environment_size (table_listing t)
      → rows_of after ≡ filled_at (table_listing t) (rows_of before) environment (λ l. p) level s
  pub environment : (k : ℕ) → environment_of k after ≡ environment_of k before
  pub outside : SameOutside before after
  pub triggers : SameTriggers before after
  pub clean : (k : ℕ) → Clean k before → Clean k after

-- The slot seen last one level up, in the list by levels; main's place has 64, the environment's block.
abbrev pub above_in : List ℕ → ℕ → ℕ
above_in above level = get_or above level 64
