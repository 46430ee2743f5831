-- A field of one figure, as a word of the table.
use Rattle.std.specs.Prelude.{ℕ}
use Rattle.listing.specs.Bytes.{Bytes}
use Rattle.text_fields.specs.Fields.{number_answer}
use Rattle.text_place.specs.declared.place.Place.{Place}
use Rattle.text_fields.specs.declared.field.Number.{Number}
use Rattle.text_fields.specs.declared.field.Number.TheVariants as NV
use Rattle.table_cells.specs.Cells.{low_word}
use Rattle.text_fields.specs.declared.field.Read.{Read}

-- a field that is no figure leaves the place where it is
abbrev pub as_word : Place → Number → Read ℕ
as_word p NV.Bad = record { value = 0; stop = 0; next = p }
as_word p (NV.Read n stop next) = record { value = low_word n; stop = stop; next = next }

abbrev pub word_answer : Bytes → Place → ℕ → Read ℕ
word_answer s p stop = as_word p (number_answer s p stop)
