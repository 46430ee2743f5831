-- A fork's child field, written: its figures as cells, then the head's first word, the number of its arguments.
use Rattle.std.specs.Prelude.{◌≡◌, List, ℕ, ◌+◌, ◌-◌, ◌≤◌, length, set}
use Rattle.std.proofs.lemmas.List.Edits.{sets}
use Rattle.listing.specs.Bytes.{Bytes}
use Rattle.text_place.specs.Texts.{field_pieces, Within}
use Rattle.text_place.specs.declared.place.Place.{Place}
use Rattle.table_cells.specs.Cells.{cells_of, cells_answer}
use Rattle.text_fields.specs.declared.field.Read.{Read}

pub record WritesCall (s : Bytes) (p : Place) (a : ℕ) (before after : List ℕ) (r : Read ℕ) : Type 0 where
  pub answer : r ≡ cells_answer s p
  pub written : after ≡ set (sets before a (cells_of 0 (field_pieces s p.offset))) a (r.value - 1)
  pub few : r.value ≤ length s + 1
  pub within : Within s r.next.offset r.next.line
