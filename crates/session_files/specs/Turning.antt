-- What the program does between its opening and its end, and what it writes out: held and held' are a writer's bytes before and after, where std's `Write`
-- knows them. Of a standard stream or a file it knows none.
use Rattle.std.specs.Prelude.{◌≡◌, ℕ, suc, true, take}
use Rattle.std.specs.Io.KnownBytes.{Appends, Keeps}
use Rattle.std.specs.declared.option.Option.{Option}
use Rattle.listing.specs.Bytes.{Bytes}
use Rattle.walk.specs.Session.{session}
use Rattle.session_replay.specs.Phases.{Memories}
use Rattle.session_replay.specs.Ending.{Calls, StepsMade}
use Rattle.session_replay.specs.declared.phase.Phase.{Phase}
use Rattle.session_replay.specs.declared.phase.Phase.TheVariants.{Over}
use Rattle.session_replay.specs.declared.phase.Advanced.TheVariants.{Went}
use Rattle.session_files.specs.declared.Stepped.{Stepped}
use Rattle.session_files.specs.declared.Ending.{Ending}
use Rattle.session_files.specs.declared.Ending.TheVariants.{Ended, NotWritten, NotRead}

-- A turn makes one step of the session, and the next phase is the one after it, be its piece written out or not.
pub record Turned (listing trace : Bytes) (m : Memories) (phase : Phase) (m' : Memories) (r : Stepped) : Type 0 where
  pub printed : ℕ
  pub calls : Calls listing trace m phase m' (Went r.next printed)

-- The piece of the step that a turn makes has been written out, if the turn says so.
pub record PieceWritten (listing trace : Bytes) (m : Memories) (phase : Phase) (m' : Memories) (r : Stepped) (held held' : Option Bytes) : Type 0 where
  pub printed : ℕ
  pub calls : Calls listing trace m phase m' (Went r.next printed)
  pub written : r.is_written ≡ true → Appends held held' (take printed m'.out)

-- What a run from the opening says: the steps to the end were made, and printed the session; or a piece could not be written out, and the step that printed
-- it was the last of some.
pub data Ran (listing trace : Bytes) (m m' : Memories) : Ending → Type 0 where
  ended : {n : ℕ} → StepsMade listing trace m n m' Over (session listing trace) → Ran listing trace m m' Ended
  not_written : {n : ℕ} {phase : Phase} {bytes : Bytes} → StepsMade listing trace m (suc n) m' phase bytes → Ran listing trace m m' NotWritten

-- The session has been written out, if a run says that it ended.
abbrev pub SessionWritten : Bytes → Bytes → Ending → Option Bytes → Option Bytes → Type 0
SessionWritten listing trace r held held' = r ≡ Ended → Appends held held' (session listing trace)

-- The same on some memories.
pub record Played (listing trace : Bytes) (r : Ending) : Type 0 where
  pub before : Memories
  pub after : Memories
  pub ran : Ran listing trace before after r

-- The same of two files: one of them could not be read, or the session of what was read was played.
pub data FilesPlayed : Ending → Type 0 where
  not_read : FilesPlayed NotRead
  played : {listing trace : Bytes} {r : Ending} → Played listing trace r → FilesPlayed r

-- What that wrote out: nothing, or the session of what was read, if all is printed.
pub data FilesWritten : Ending → Option Bytes → Option Bytes → Type 0 where
  nothing : {held held' : Option Bytes} → Keeps held held' → FilesWritten NotRead held held'
  written : {listing trace : Bytes} {r : Ending} {held held' : Option Bytes} → Played listing trace r → SessionWritten listing trace r held held' → FilesWritten r held held'
