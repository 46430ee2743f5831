-- The edges of a schedule: where an input's union begins and ends.
-- Document 02, Change 5: "The layer lists the inputs of any span of moments, start included and end left out, by moment and then input: 1 at the
-- opening minute, 0 at the closing minute." "Nothing is written at moment 0, which the start takes."
use Rattle.std.specs.Prelude.{Bool, true, false, List, [], ◌∷◌, ◌++◌, ℕ, zero, suc, ◌-◌}
use Rattle.schedule.specs.Schedule.{Schedule}
use Rattle.schedule.specs.Union.{is_open}

-- an input at a moment: its value is 1 if it opens and 0 if it closes
pub record Edge : Type 0 where
  pub moment : ℕ
  pub input : ℕ
  pub value : ℕ

-- the edge of an input that was open before a moment, or not, and is open at it, or not
unfoldable pub change : ℕ → ℕ → Bool → Bool → List Edge
change moment input false false = []
change moment input false true = record { moment = moment; input = input; value = 1 } ∷ []
change moment input true false = record { moment = moment; input = input; value = 0 } ∷ []
change moment input true true = []

-- the changes at a moment of the inputs below a number, rising; `before` and `at` tell of each whether it is open
unfoldable pub changes : ℕ → (ℕ → Bool) → (ℕ → Bool) → ℕ → List Edge
changes moment before at zero = []
changes moment before at (suc input) = changes moment before at input ++ change moment input (before input) (at input)

-- "an input below 16"
abbrev pub input_count : ℕ
input_count = 16

-- the edges at a moment: the changes from the moment before it; none at moment 0
unfoldable pub edges_at : Schedule → ℕ → List Edge
edges_at s zero = []
edges_at s (suc moment) = changes (suc moment) (λ input. is_open s input moment) (λ input. is_open s input (suc moment)) input_count

-- the edges of so many moments from the first on, "by moment and then input"
unfoldable pub edges_from : Schedule → ℕ → ℕ → List Edge
edges_from s first zero = []
edges_from s first (suc moments) = edges_at s first ++ edges_from s (suc first) moments

-- "any span of moments, start included and end left out"
unfoldable pub edges_in : Schedule → ℕ → ℕ → List Edge
edges_in s from to = edges_from s from (to - from)
