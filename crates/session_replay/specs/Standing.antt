-- What a session still has to print, for each phase and for what the memories stand for (document 01, "The session").
use Rattle.std.specs.Prelude.{◌≡◌, List, [], ◌++◌, ℕ, ◌≤◌, length, drop}
use Rattle.std.proofs.Math.Option.{some}
use Rattle.listing.specs.Bytes.{Bytes}
use Rattle.listing.specs.Limits.{byte_limit}
use Rattle.listing.specs.Listing.{Listing}
use Rattle.walk.specs.State.{State}
use Rattle.walk.specs.Calls.{first_words}
use Rattle.walk.specs.Trace.{script}
use Rattle.walk.specs.Session.{play, play_all, printed, session}
use Rattle.layout.specs.Layout.{layout}
use Rattle.session_calls.specs.Clock.{Runs}
use Rattle.session_calls.specs.declared.clock.Clock.{Clock}
use Rattle.session_replay.specs.declared.phase.Phase.{Phase}
use Rattle.session_replay.specs.declared.phase.Phase.TheVariants.{Opening, Starting, Reading, Over}

-- "Before loading, a listing over 49,152 bytes has code 3, else a trace over 49,152 code 2": past that both are within it.
pub record Short (listing trace : Bytes) : Type 0 where
  pub short_listing : length listing ≤ byte_limit
  pub short_trace : length trace ≤ byte_limit

-- From this phase, with these memories, these bytes are still to be printed.
pub data Stands (listing trace table machine : List ℕ) : Phase → Bytes → Type 0 where
  opening : {bytes : Bytes} → bytes ≡ session listing trace → Stands listing trace table machine Opening bytes
  starting : {bytes : Bytes} {l : Listing} → Short listing trace → layout.read_table (first_words table) ≡ some l →
      bytes ≡ printed (play_all l (script trace)) → Stands listing trace table machine Starting bytes
  reading : {bytes : Bytes} {clock : Clock} {at : ℕ} {l : Listing} {s : State} → Short listing trace → Runs table machine clock l s → at ≤ length trace →
      bytes ≡ printed (play l (script (drop at trace)) s) → Stands listing trace table machine (Reading clock at) bytes
  over : Stands listing trace table machine Over []

-- Of these bytes a piece was printed, and from the phase and the memories that are left the rest is still to be printed.
pub record Left (listing trace table machine : List ℕ) (phase : Phase) (bytes piece : Bytes) : Type 0 where
  pub rest : Bytes
  pub parts : bytes ≡ piece ++ rest
  pub stands : Stands listing trace table machine phase rest
