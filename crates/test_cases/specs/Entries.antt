-- So many entries one behind another.
use Rattle.std.specs.Prelude.{List, [], ◌∷◌, ℕ, zero, suc}

-- by how an entry is read at a place, and where the next one stands
unfoldable pub entries_from : {A : Type 0} → (ℕ → A) → (ℕ → ℕ) → ℕ → ℕ → List A
entries_from read next at zero = []
entries_from read next at (suc count) = read at ∷ entries_from read next (next at) count

-- the place after k entries
unfoldable pub place_after_lem : (ℕ → ℕ) → ℕ → ℕ → ℕ
place_after_lem next at zero = at
place_after_lem next at (suc k) = place_after_lem next (next at) k
