-- What the scan of the records needs of a table's words, and what a look at an instruction finds.
use Rattle.std.specs.Prelude.{◌≡◌, false, cond, List, ℕ, ◌+◌, ◌<◌, ◌≤◌, leb}
use Rattle.listing.specs.Listing.{wait, fork}
use Rattle.walk.specs.Walk.{instruction_at}
use Rattle.table.specs.Decode.{word, calls_at, head_after, routine_entry, instruction_entry, size_of, table_listing}
use Rattle.machine.specs.Records.{Frame, Scan, asleep_at}
use Rattle.table_read.specs.Opened.{entry_at}
use Rattle.table_read.specs.declared.Entry.{Entry}

-- n heads from a on: they stand in the memory and call routines of the table.
pub record HeadsFit (w : List ℕ) (a n : ℕ) : Type 0 where
  pub inside : (j : ℕ) → j < n → head_after w a j + 1 < 12288
  pub there : (j : ℕ) → j < n → word w (head_after w a j + 1) < word w 2

-- What question 6 gives.
pub record TableBounds (w : List ℕ) : Type 0 where
  -- words 3 and 4 are 0, so they read as a head that calls main
  pub main : word w 4 ≡ 0
  pub some : 0 < word w 2
  pub most : word w 2 ≤ 64
  pub code : (r : ℕ) → r < word w 2 → word w (routine_entry r + 3) + word w (routine_entry r + 4) ≤ 512
  pub heads : (r place : ℕ) → r < word w 2 → place < word w (routine_entry r + 4) → word w (instruction_entry w r place + 0) ≡ 6 →
      HeadsFit w (word w (instruction_entry w r place + 2)) (word w (instruction_entry w r place + 3))

-- The entry of instruction `place` of routine r; past the last one, that of an `E`.
abbrev pub past_line : Entry
past_line = record { kind = 7; operand = 0; cells = 0; first = 0; second = 0 }

unfoldable pub line_at : List ℕ → ℕ → ℕ → Entry
line_at w r place = cond (leb (size_of w r) place) past_line (entry_at w r place)

-- A look at instruction `place` of routine r finds its kind; of an `F`, where its heads begin and how many there are.
pub data Seen (w : List ℕ) (r place kind cells count : ℕ) : Type 0 where
  at_wait : {ns : List ℕ} → kind ≡ 5 → instruction_at (table_listing w) r place ≡ wait ns → Seen w r place kind cells count
  at_fork : kind ≡ 6 → instruction_at (table_listing w) r place ≡ fork (calls_at w cells count) → HeadsFit w cells count → Seen w r place kind cells count
  at_other : (kind ≡ 5 → ⊥) → (kind ≡ 6 → ⊥) →
      ((now level : ℕ) (go : Scan) (frames : List Frame) → asleep_at (table_listing w) now (instruction_at (table_listing w) r place) level go frames ≡ false) →
      Seen w r place kind cells count
