-- What the machine's words stand for while an instant runs: the rows of the 64 slots, and the environment. The layout is that of docs/LAYOUT.md.
-- Any words stand for something: counts above 16 are read as 16, and past its 184 words a block reads 0.
use Rattle.std.specs.Prelude.{Bool, true, false, cond, List, ℕ, zero, suc, ◌+◌, ◌*◌, ◌/◌, ◌%◌, min, ltb, get_or}
use Rattle.walk.specs.State.{Variable}
use Rattle.machine.specs.Words.{block_at, waiting_of}
use Rattle.engine_rows.specs.Rows.{Owner, in_environment, in_slot, Row, Rows, choose_row, free_row}
use Rattle.engine_blocks.specs.Tabulate.{tabulate_from}

-- The words of a block by their offset.
abbrev pub Block : Type 0
Block = ℕ → ℕ

-- Block s of the machine's words; block 64 is the environment's.
unfoldable pub block : List ℕ → ℕ → Block
block words s offset = cond (ltb offset 184) (get_or words (block_at s + offset) 0) 0

unfoldable pub nonzero : ℕ → Bool
nonzero zero = false
nonzero (suc n) = true

-- ── variables: own variable i from offset 8 + 6 i on, its written mark at 128 + i ─────────────────
unfoldable pub variable_in : Block → ℕ → Variable
variable_in b i =
    record {
      value = b (8 + i * 6);
      written = nonzero (b (128 + i));
      waiting = waiting_of (b (10 + i * 6) + b (11 + i * 6) * 4294967296) (b (9 + i * 6));
    }

unfoldable pub variables_in : Block → ℕ → List Variable
variables_in b n = tabulate_from 0 (min n 16) (variable_in b)

-- ── names: the variable of name j at 112 + j, as 16 * block + index ───────────────────────────────
-- The owner of variable `index` of a block.
unfoldable pub owner_at : ℕ → ℕ → Owner
owner_at s index = cond (ltb s 64) (in_slot s index) (in_environment index)

unfoldable pub owner_in : Block → ℕ → Owner
owner_in b j = owner_at (b (112 + j) / 16) (b (112 + j) % 16)

unfoldable pub bindings_in : Block → List Owner
bindings_in b = tabulate_from 0 (min (b 110) 16) (owner_in b)

-- ── rows and environment ──────────────────────────────────────────────────────────────────────────
unfoldable pub row_at : Block → Row
row_at b =
    record {
      used = nonzero (b 0);
      asleep = nonzero (b 104);
      level = b 1;
      parent = b 105;
      child = b 2;
      base = b 111;
      children = b 106;
      low = b 107;
      bits = b 108;
      routine = b 109;
      place = b 3;
      bindings = bindings_in b;
      own = variables_in b (b 4);
    }

unfoldable pub rows_of : List ℕ → Rows
rows_of words s = choose_row (ltb s 64) (row_at (block words s)) free_row

-- The first n variables of block 64.
unfoldable pub environment_of : ℕ → List ℕ → List Variable
environment_of n words = variables_in (block words 64) n
