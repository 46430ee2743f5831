-- The slots that a ready list holds, the first to run first.
use Rattle.std.specs.Prelude.{ℕ, zero, suc, ◌+◌, List, [], ◌∷◌, get_or}
use Rattle.engine_ready.specs.declared.ReadyList.{ReadyList}

-- n entries of an array from entry i on, the last one first.
unfoldable pub falling : List ℕ → ℕ → ℕ → List ℕ
falling places i zero = []
falling places i (suc n) = get_or places (i + n) 0 ∷ falling places i n

-- The array is kept falling by priority, so that the first to run is the last of the entries in use.
unfoldable pub slots_of : ReadyList → List ℕ
slots_of q = falling q.places 0 q.count
