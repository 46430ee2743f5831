-- Events: a moment with an input or an output and its value.
use Rattle.std.specs.Prelude.{List, [], ◌∷◌, ℕ}
use Rattle.walk.specs.Instant.{Write}

pub record Event : Type 0 where
  pub moment : ℕ
  pub number : ℕ
  pub value : ℕ

-- The writes of one moment.
unfoldable pub events_at : ℕ → List Write → List Event
events_at t [] = []
events_at t (w ∷ ws) = record { moment = t; number = w.number; value = w.value } ∷ events_at t ws
