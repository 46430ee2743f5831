-- Where a line may be written: from a place of a text that is short enough, its entry at e and its cells at a within a table.
use Rattle.std.specs.Prelude.{List, ℕ, ◌≤◌, length}
use Rattle.table.specs.Areas.{table_size}
use Rattle.text_place.specs.Texts.{Within}
use Rattle.text_place.specs.declared.place.Place.{Place}

-- "listing 49,152 bytes"; and the line is one that reads well
abbrev pub Writable : List ℕ → Place → ℕ → ℕ → Type 0 → Type 0
Writable s place e a good = Within s place.offset place.line × (length s ≤ 49152) × (e ≤ table_size) × (a ≤ table_size) × good
