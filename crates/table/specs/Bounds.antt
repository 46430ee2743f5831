-- What question 6 gives of a table's words, apart from its instructions.
use Rattle.std.specs.Prelude.{◌≡◌, true, List, ℕ, ◌+◌, ◌≤◌, ◌<◌, length}
use Rattle.listing.specs.Lists.{all}
use Rattle.listing.specs.Questions.{is_by_reference}
use Rattle.table.specs.Decode.{word, kinds_of_bits, routine_entry, names_of, size_of}

pub record Bounds (w : List ℕ) : Type 0 where
  pub words : length w ≡ 12288
  pub some : 1 ≤ word w 2
  pub few : word w 2 ≤ 64
  pub unused : (j : ℕ) → 3 ≤ j → j < 8 → word w j ≡ 0
  -- "Main has i + o arguments, all `r`"
  pub ports : word w (routine_entry 0 + 0) ≡ word w 0 + word w 1
  pub references : all is_by_reference (kinds_of_bits (word w (routine_entry 0 + 0)) (word w (routine_entry 0 + 1))) ≡ true
  -- "512 instructions in all; 16 names a routine"
  pub names : (r : ℕ) → r < word w 2 → names_of w r ≤ 16
  pub code : (r : ℕ) → r < word w 2 → word w (routine_entry r + 3) + size_of w r ≤ 512
  -- "Has every routine a line"
  pub line : (r : ℕ) → r < word w 2 → 1 ≤ size_of w r
