-- A part of a text by its number. Document 01: "fields parted by one tab .., pieces inside a field by one space, each line closed by a line feed".
use Rattle.std.specs.Prelude.{[], ℕ, ◌+◌, eqb, length, get_or, drop}
use Rattle.listing.specs.Bytes.{Bytes, split}
use Rattle.text_place.specs.Texts.{before}

-- the part of a text with so many parts before it; nothing if there is no such part
abbrev pub part_of : ℕ → Bytes → ℕ → Bytes
part_of separator text parts = get_or (split separator text) parts []

-- the part that a text begins with, and where the part at an offset ends
abbrev pub first_part_lem : ℕ → Bytes → Bytes
first_part_lem separator text = before (λ byte. eqb byte separator) text

abbrev pub part_end : ℕ → Bytes → ℕ → ℕ
part_end separator text at = at + length (first_part_lem separator (drop at text))
