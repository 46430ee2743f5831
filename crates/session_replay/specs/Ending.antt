-- A session's steps one after another: how many there can be, and what they print.
use Rattle.std.specs.Prelude.{◌≡◌, Bool, true, false, List, [], ◌++◌, ℕ, zero, suc, ◌+◌, ◌-◌, length, take}
use Rattle.words.specs.Moments.{moment_range}
use Rattle.listing.specs.Bytes.{Bytes}
use Rattle.walk.specs.Session.{session}
use Rattle.session_calls.specs.declared.clock.Clock.{Clock}
use Rattle.session_replay.specs.Phases.{Memories}
use Rattle.session_replay.specs.Advancing.{long_enough, Advances}
use Rattle.session_replay.specs.declared.phase.Phase.{Phase}
use Rattle.session_replay.specs.declared.phase.Phase.TheVariants.{Opening, Starting, Reading, Over}
use Rattle.session_replay.specs.declared.phase.Advanced.{Advanced}
use Rattle.session_replay.specs.declared.phase.Advanced.TheVariants.{Went, TooShort}

-- Is all printed?
abbrev pub is_over : Phase → Bool
is_over Opening = false
is_over Starting = false
is_over (Reading clock at) = false
is_over Over = true

-- How many steps can still be made from a phase. "a moment has 64 bits": each step from the start on makes an instant, which is later than the one before it and
-- so takes one of the moments that are left, or ends the session.
abbrev pub steps_left : Phase → ℕ
steps_left Opening = moment_range + 3
steps_left Starting = moment_range + 2
steps_left (Reading clock at) = (moment_range - clock.now) + 1
steps_left Over = 0

-- So many steps at most has a session.
abbrev pub steps_at_most : ℕ
steps_at_most = steps_left Opening

-- ── calls of `advance` ────────────────────────────────────────────────────────────────────────────
abbrev pub are_long : Memories → Bool
are_long m = long_enough m.table m.machine m.out

-- Memories as long as before.
pub record AsLong (m m' : Memories) : Type 0 where
  pub table_is : length m'.table ≡ length m.table
  pub machine_is_lem : length m'.machine ≡ length m.machine
  pub out_is : length m'.out ≡ length m.out

-- A call of `advance`, from memories m to memories m': its contract; and a slice that is lent keeps its length.
pub record Calls (listing trace : Bytes) (m : Memories) (phase : Phase) (m' : Memories) (answer : Advanced) : Type 0 where
  pub advances : Advances listing trace m.table m.machine m.out phase m'.table m'.machine m'.out answer
  pub as_long : AsLong m m'

-- So many steps were made from the opening with memories m, to a phase with memories m', and printed these bytes: each is made from what the one before left,
-- and none once all is printed.
pub data StepsMade (listing trace : Bytes) (m : Memories) : ℕ → Memories → Phase → Bytes → Type 0 where
  none : StepsMade listing trace m 0 m Opening []
  one_more : {n printed : ℕ} {m' m'' : Memories} {phase next : Phase} {bytes : Bytes} → StepsMade listing trace m n m' phase bytes → is_over phase ≡ false →
      Calls listing trace m' phase m'' (Went next printed) → StepsMade listing trace m (suc n) m'' next (bytes ++ take printed m''.out)

-- ── a program that does nothing but call `advance` ────────────────────────────────────────────────
-- What a call leaves, and its answer.
pub record Called : Type 0 where
  pub left : Memories
  pub answer : Advanced

-- Each call keeps the contract.
abbrev pub KeepsContract : Bytes → Bytes → (Memories → Phase → Called) → Type 0
KeepsContract listing trace call = (m : Memories) (phase : Phase) → Calls listing trace m phase (call m phase).left (call m phase).answer

-- Between two calls: the memories, the phase, and all that was printed.
pub record Point : Type 0 where
  pub held : Memories
  pub phase : Phase
  pub bytes : Bytes

unfoldable pub onward : Memories → Advanced → Point → Point
onward left (Went next printed) p = record { held = left; phase = next; bytes = p.bytes ++ take printed left.out }
onward left TooShort p = record { held = left; phase = p.phase; bytes = p.bytes }

unfoldable pub call_from : (Memories → Phase → Called) → Point → Point
call_from call p = let c = call p.held p.phase in onward c.left c.answer p

-- After so many calls, the first of them from the opening with these memories.
unfoldable pub after_calls : (Memories → Phase → Called) → Memories → ℕ → Point
after_calls call m zero = record { held = m; phase = Opening; bytes = [] }
after_calls call m (suc n) = call_from call (after_calls call m n)

-- All is printed, and it is the session.
pub record AllPrinted (listing trace : Bytes) (p : Point) : Type 0 where
  pub over : p.phase ≡ Over
  pub prints : p.bytes ≡ session listing trace
