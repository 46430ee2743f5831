-- What a session that is played step by step shows.
use Rattle.std.specs.Prelude.{◌≡◌, Option, None, Some, List, ℕ, ◌+◌, ◌≤◌, length, take, drop}
use Rattle.session_replay.specs.Phases.{Memories}
use Rattle.session_replay.specs.Ending.{Calls}
use Rattle.session_replay.specs.declared.phase.Phase.{Phase}
use Rattle.session_replay.specs.declared.phase.Advanced.TheVariants.{Went}
use Rattle.test_sessions.specs.declared.playing.Step.{Step}

-- the first n bytes of `out` stand in the print at a place
pub record StandsAt (print : List ℕ) (at : ℕ) (out : List ℕ) (n : ℕ) : Type 0 where
  pub printed : n ≤ length out
  pub stored : at + n ≤ length print
  pub same : take n (drop at print) ≡ take n out

pub data Follows (print : List ℕ) (at : ℕ) (out : List ℕ) (n : ℕ) : Option ℕ → Type 0 where
  follows : {to : ℕ} → to ≡ at + n → StandsAt print at out n → Follows print at out n (Some to)
  differs : (StandsAt print at out n → ⊥) → Follows print at out n None

-- a step of the session, from memories m to memories m': what it printed stands in the print at the place, or it does not
pub data Takes (listing trace print : List ℕ) (m : Memories) (phase : Phase) (at : ℕ) (m' : Memories) : Option Step → Type 0 where
  on : {next : Step} {n : ℕ} → Calls listing trace m phase m' (Went next.phase n) → next.at ≡ at + n → StandsAt print at m'.out n → Takes listing trace print m phase at m' (Some next)
  failed : {next : Phase} {n : ℕ} → Calls listing trace m phase m' (Went next n) → (StandsAt print at m'.out n → ⊥) → Takes listing trace print m phase at m' None
