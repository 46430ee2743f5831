-- The writes of a session, in the order in which they are listed.
-- Document 02, Change 1: "From a session's writes, print rows".
use Rattle.std.specs.Prelude.{List, [], ◌∷◌, ℕ}
use Rattle.openings.specs.declared.Write as Declared

-- an output's write: its moment in milliseconds, the output's number, the value as a word of 32 bits
abbrev pub Write : Type 0
Write = Declared.Write

-- the writes of three lists side by side, as many as the shortest has
unfoldable pub writes_of : List ℕ → List ℕ → List ℕ → List Write
writes_of [] outputs values = []
writes_of (m ∷ moments) [] values = []
writes_of (m ∷ moments) (o ∷ outputs) [] = []
writes_of (m ∷ moments) (o ∷ outputs) (v ∷ values) = record { moment = m; output = o; value = v } ∷ writes_of moments outputs values
