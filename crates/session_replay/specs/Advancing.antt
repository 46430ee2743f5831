-- What a call of `advance` promises, of any bytes, memories and phase.
use Rattle.std.specs.Prelude.{◌≡◌, Bool, true, false, ◌&&◌, List, ℕ, ◌≤◌, leb, length, take}
use Rattle.listing.specs.Bytes.{Bytes}
use Rattle.walk.specs.Calls.{later_words}
use Rattle.table.specs.Areas.{table_size}
use Rattle.machine.specs.Words.{machine_size}
use Rattle.session_replay.specs.Standing.{Stands, Left}
use Rattle.session_replay.specs.Phases.{memories, Does}
use Rattle.session_replay.specs.declared.phase.Phase.{Phase}
use Rattle.session_replay.specs.declared.phase.Step.{Step}
use Rattle.session_replay.specs.declared.phase.Advanced.{Advanced}
use Rattle.session_replay.specs.declared.phase.Advanced.TheVariants.{Went, TooShort}

-- "Table 12,288 words of 32 bits, machine 12,288"; 16 lines `O` of at most 66 bytes are printed at once.
unfoldable pub lengths_suffice : ℕ → ℕ → ℕ → Bool
lengths_suffice table machine out = leb table_size table && (leb machine_size machine && leb 1100 out)

abbrev pub long_enough : List ℕ → List ℕ → List ℕ → Bool
long_enough table machine out = lengths_suffice (length table) (length machine) (length out)

-- A step as the session has it: what it printed is the first of what was to be printed, and from what it left the rest is to be printed.
pub record Steps (listing trace table machine : List ℕ) (phase : Phase) (table' machine' out : List ℕ) (step : Step) : Type 0 where
  pub room : step.printed ≤ length out
  pub prints : (bytes : Bytes) → Stands listing trace table machine phase bytes → Left listing trace table' machine' step.phase bytes (take step.printed out)

-- A step: what it does with the memories; what that is in the session; and "Words past 12,288 are never touched."
pub record Moves (listing trace table machine out : List ℕ) (phase : Phase) (table' machine' out' : List ℕ) (step : Step) : Type 0 where
  pub does : Does listing trace (memories table machine out) (memories table' machine' out') step phase
  pub steps : Steps listing trace table machine phase table' machine' out' step
  pub table_past : later_words table' ≡ later_words table
  pub machine_past : later_words machine' ≡ later_words machine

-- A lent memory is too short and nothing was touched; or one step was made.
pub data Advances (listing trace table machine out : List ℕ) (phase : Phase) (table' machine' out' : List ℕ) : Advanced → Type 0 where
  too_short : long_enough table machine out ≡ false → (table' ≡ table) × (machine' ≡ machine) × (out' ≡ out) →
      Advances listing trace table machine out phase table' machine' out' TooShort
  went : {next : Phase} {n : ℕ} → long_enough table machine out ≡ true → Moves listing trace table machine out phase table' machine' out' (record { phase = next; printed = n }) →
      Advances listing trace table machine out phase table' machine' out' (Went next n)
