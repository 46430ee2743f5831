-- Inputs and waiting writes (document 02, Change 4): which variables a call's inputs are written to, and states that differ in one waiting write alone.
use Rattle.std.specs.Prelude.{Bool, false, ◌||◌, List, [], ◌∷◌, ℕ, eqb, set}
use Rattle.walk.specs.State.{Waiting, Variable, State}
use Rattle.walk.specs.Memory.{variable_at}
use Rattle.walk.specs.Instant.{Write}

-- Is input k among the call's inputs?
unfoldable pub is_pressed : ℕ → List Write → Bool
is_pressed k [] = false
is_pressed k (w ∷ ws) = eqb k w.number || is_pressed k ws

-- The state with another waiting write on environment variable k, or with none there; all else is as it was.
unfoldable pub waiting_instead : Variable → Waiting → Variable
waiting_instead x w = record { value = x.value; written = x.written; waiting = w }

unfoldable pub with_waiting : State → ℕ → Waiting → State
with_waiting s k w =
    record { now = s.now; environment = set s.environment k (waiting_instead (variable_at s.environment k) w); tree = s.tree }
