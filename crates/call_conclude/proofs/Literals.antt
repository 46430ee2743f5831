-- Every literal of a table that passes question 6 is a word.
use mathlib.Core.Path.{◌≡◌}
use mathlib.Core.Bool.{true}
use mathlib.Core.List.{List}
use Prim.Native.Nat.{ℕ}
use Rattle.walk_laws.proofs.AtRest.{LiteralsAreWords}
use Rattle.walk_laws.proofs.Literals.{form_gives_words}
use Rattle.table.specs.Decode.{table_listing}
use Rattle.table.specs.Question6.{is_table}
use Rattle.table.proofs.Table.{table_meets}

pub literals_are_words : (t : List ℕ) → is_table t ≡ true → LiteralsAreWords (table_listing t)
literals_are_words t h = form_gives_words (table_listing t) (table_meets t h).form
