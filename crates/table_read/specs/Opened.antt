-- The words of an instruction's entry and of a routine's, and what a routine's tells, in a table that passes question 6.
use Rattle.std.specs.Prelude.{◌≡◌, List, ℕ, ◌+◌, ◌*◌, ◌≤◌, ◌<◌, length}
use Rattle.walk.specs.Walk.{routine_at}
use Rattle.table.specs.Areas.{entry_area}
use Rattle.table.specs.Decode.{word, kinds_of_bits, routine_entry, instruction_entry, size_of, table_listing}
use Rattle.table_read.specs.declared.Entry.{Entry}
use Rattle.table_read.specs.declared.Opening.{Opening}

-- an entry for instruction `place` of routine r: "64 routines", "512 instructions in all"
abbrev pub HasEntry : List ℕ → ℕ → ℕ → Type 0
HasEntry w r place = (r < 64) × (word w (routine_entry r + 3) + place < 512)

-- the address of the entry of routine r's first instruction
abbrev pub code_at : List ℕ → ℕ → ℕ
code_at w r = entry_area + 5 * word w (routine_entry r + 3)

-- the five words of the entry at e
abbrev pub entry_of : List ℕ → ℕ → Entry
entry_of w e = record {
  kind = word w (e + 0);
  operand = word w (e + 1);
  cells = word w (e + 2);
  first = word w (e + 3);
  second = word w (e + 4);
}

-- those of the entry of instruction `place` of routine r
abbrev pub entry_at : List ℕ → ℕ → ℕ → Entry
entry_at w r place = entry_of w (instruction_entry w r place)

-- the words of routine r's entry but that of its first instruction
abbrev pub opening_at : List ℕ → ℕ → Opening
opening_at w r = record {
  arguments = word w (routine_entry r + 0);
  bits = word w (routine_entry r + 1);
  locals = word w (routine_entry r + 2);
  size = size_of w r;
}

-- the numbers of routine r's arguments, locals and instructions, and its kinds as bits
pub record Opened (w : List ℕ) (r arguments bits locals size : ℕ) : Type 0 where
  pub kinds : (routine_at (table_listing w) r).kinds ≡ kinds_of_bits arguments bits
  pub count : length (routine_at (table_listing w) r).kinds ≡ arguments
  pub own : (routine_at (table_listing w) r).locals ≡ locals
  pub code : length (routine_at (table_listing w) r).code ≡ size
  pub names : arguments + locals ≤ 16
  pub some : 1 ≤ size
  pub few : size ≤ 512
