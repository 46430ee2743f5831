-- Question 7's answer for each case of what the machine's words stand for: no state, a stop's number, or a state with its next moment due.
use Rattle.std.specs.Prelude.{cond, List, ◌≡◌, ℕ, length}
use Rattle.std.proofs.Math.Option.{Option, none, some}
use Rattle.listing.specs.Listing.{Listing}
use Rattle.walk.specs.Instant.{NextDue, next_due, environment_size}
use Rattle.walk.specs.Calls.{Machine, halted, running}
use Rattle.machine.specs.Due.{due_at}
use Rattle.machine.specs.ReadMachine.{stopped_words, read_machine}
use Rattle.machine_words.specs.Tests.{Dues}
use Rattle.machine_check_slots.specs.Kept.{words_kept}
use Rattle.machine_check.specs.declared.MachineCheck.{MachineCheck}
use Rattle.machine_check.specs.declared.MachineCheck.TheVariants.{NotAState, Stopped, Running}

pub data Standing : Type 0 where
  not_aState : Standing
  stopped : ℕ → Standing
  runs : NextDue → Standing

unfoldable pub answer_of : Option Machine → Standing
answer_of none = not_aState
answer_of (some (halted k)) = stopped k
answer_of (some (running s)) = runs (next_due s)

unfoldable pub check_of : MachineCheck → Standing
check_of NotAState = not_aState
check_of (Stopped k) = stopped k
check_of (Running t) = runs (due_at t)

-- The array of moments as question 7 leaves it: a stopped machine has no blocks to test.
unfoldable pub dues_left : Listing → List ℕ → List ℕ → List ℕ
dues_left listing machine dues = cond (stopped_words machine) dues (words_kept (environment_size listing) machine dues)

-- Question 7's answer for a machine's 12,288 words, and what it leaves of the array `before`; of a state, `dues` has the soonest moment due of each block.
pub record Answered (listing : Listing) (machine before dues : List ℕ) (r : MachineCheck) : Type 0 where
  pub answer : check_of r ≡ answer_of (read_machine listing machine)
  pub each : (due : ℕ) → r ≡ Running due → Dues (environment_size listing) machine dues
  pub places : length dues ≡ 65
  pub kept : dues ≡ dues_left listing machine before
