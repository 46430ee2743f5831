-- What the check of a table computes behind the routines: the unused words and the limit of pieces.
use Rattle.std.specs.Prelude.{Bool, true, ◌&&◌, List, ℕ, zero, suc, ◌+◌, ◌*◌, ◌-◌, eqb, leb}
use Rattle.table.specs.Areas.{cell_end, operands}
use Rattle.table.specs.Decode.{word, instruction_at_entry}

-- n words from a on are 0
unfoldable pub zeros_at : List ℕ → ℕ → ℕ → Bool
zeros_at w a zero = true
zeros_at w a (suc n) = eqb (word w a) 0 && zeros_at w (a + 1) n

-- the operands of n instructions whose entries stand from e on
unfoldable pub operand_count : List ℕ → ℕ → ℕ → ℕ
operand_count w e zero = 0
operand_count w e (suc n) = operands (instruction_at_entry w e) + operand_count w (e + 5) n

-- behind n routines, `first` instructions and the cells: all words 0, and at most 4,096 pieces
unfoldable pub tail_test : List ℕ → ℕ → ℕ → ℕ → Bool
tail_test w n first cells =
    zeros_at w 3 5
    && (zeros_at w (8 + 5 * n) (320 - 5 * n)
    && (zeros_at w (328 + 5 * first) (2560 - 5 * first)
    && (zeros_at w cells (12288 - cells)
    && leb (cells + 2 * operand_count w 328 first) cell_end)))
