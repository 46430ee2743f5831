-- What the customer's sentence says of a list of edges.
-- Document 02, Change 5: "Proved for each input: a moment above 0 lies in the union .. exactly if the last edge at or before it opened, a window open at
-- moment 0 counting as opened there."
use Rattle.std.specs.Prelude.{Bool, true, false, cond, ◌&&◌, List, [], ◌∷◌, ℕ, eqb, leb}
use Rattle.schedule.specs.Edges.{Edge}

-- the value of an edge: 1 for open, 0 for not
abbrev pub open_value : Bool → ℕ
open_value true = 1
open_value false = 0

-- "the last edge at or before it": the value of the input's last edge at or before the moment, or the value before the list if there is none
unfoldable pub last_value : ℕ → ℕ → ℕ → List Edge → ℕ
last_value input moment before [] = before
last_value input moment before (e ∷ edges) =
    last_value input moment (cond (eqb e.input input && leb e.moment moment) e.value before) edges

-- the edges of three lists side by side, as many as the shortest has
unfoldable pub edges_of : List ℕ → List ℕ → List ℕ → List Edge
edges_of [] inputs values = []
edges_of (m ∷ moments) [] values = []
edges_of (m ∷ moments) (i ∷ inputs) [] = []
edges_of (m ∷ moments) (i ∷ inputs) (v ∷ values) = record { moment = m; input = i; value = v } ∷ edges_of moments inputs values
