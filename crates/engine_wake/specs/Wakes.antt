-- Whom a write wakes.
use Rattle.std.specs.Prelude.{Bool, ◌&&◌, List, [], ◌∷◌, ℕ, leb}
use Rattle.engine_rows.specs.Rows.{Rows}
use Rattle.engine_rows.specs.Triggers.{cons_if}

-- The routine in slot s is asleep, and its lowest priority is `from` or above. A write by a routine of lowest priority p has `from` suc p: whoever is
-- woken comes later. A write before the run has 0.
unfoldable pub wakes : Rows → ℕ → ℕ → Bool
wakes rows from s = (rows s).asleep && leb from (rows s).low

-- Those of a trigger list whom the write wakes: for a writer of priority p, scheduler's `triggered` with p.
unfoldable pub triggered_from : Rows → ℕ → List ℕ → List ℕ
triggered_from rows from [] = []
triggered_from rows from (s ∷ ss) = cons_if (wakes rows from s) s (triggered_from rows from ss)
