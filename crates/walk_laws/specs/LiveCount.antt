-- The counter of live routines, that question 14 asks about, and the true number.
use Rattle.std.specs.Prelude.{◌≡◌, ℕ, ◌+◌}
use Rattle.walk.specs.State.{live_in_forest, Turn, Result, ok}
use Rattle.walk.specs.Instant.{Done}

-- After a turn: the routines outside the part that had its turn, and those that the part has then.
pub record Counted (others : ℕ) (turn : Turn) : Type 0 where
  pub counted : turn.running.live ≡ others + live_in_forest turn.tree

-- The counter at the end of an instant is the number of live routines of the state that it leaves.
pub record TrueCount (x : Result Turn) (d : Done) : Type 0 where
  pub turn : Turn
  pub went : x ≡ ok turn
  pub counted : turn.running.live ≡ live_in_forest d.state.tree
