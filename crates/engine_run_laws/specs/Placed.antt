-- Every live routine is at an instruction of its routine; a sleeper and a parent, who will go on behind theirs, have one behind it.
use Rattle.std.specs.Prelude.{true, List, ◌≡◌, ℕ, suc, ◌<◌}
use Rattle.table.specs.Decode.{word, size_of}
use Rattle.engine_rows.specs.Rows.{Row, Rows}

pub record GoesOn (t : List ℕ) (r : Row) : Type 0 where
  pub routine : r.routine < word t 2
  pub next : suc r.place < size_of t r.routine

pub record Placed (t : List ℕ) (rows : Rows) : Type 0 where
  pub routine : (s : ℕ) → (rows s).used ≡ true → (rows s).routine < word t 2
  pub place : (s : ℕ) → (rows s).used ≡ true → (rows s).place < size_of t (rows s).routine
  pub sleeper : (s : ℕ) → (rows s).asleep ≡ true → GoesOn t (rows s)
  pub parent : (s : ℕ) → 0 < (rows s).children → GoesOn t (rows s)
