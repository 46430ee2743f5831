-- What the work of an instant call asks for, its questions answered. Letters: t the table's words.
use Rattle.std.specs.Prelude.{true, false, List, ◌≡◌, ℕ, ◌≤◌, ◌<◌, length}
use Rattle.std.proofs.Math.Option.{some}
use Rattle.walk.specs.State.{State}
use Rattle.walk.specs.Instant.{environment_size, next_due}
use Rattle.walk.specs.Calls.{running, due_before, inputs_rise, inputs_of, first_words}
use Rattle.table.specs.Decode.{table_listing}
use Rattle.table.specs.Question6.{is_table}
use Rattle.machine.specs.Words.{HasMachine}
use Rattle.machine.specs.ReadMachine.{read_machine}
use Rattle.machine_words.specs.Tests.{Dues}

-- `dues` has the soonest moment due of each block.
pub record MayInstant (t words : List ℕ) (moment : ℕ) (dues in_numbers in_values : List ℕ) (allowance : ℕ) : Type 0 where
  pub size : HasMachine words
  pub same : length in_numbers ≡ length in_values
  pub table : is_table t ≡ true
  pub state : State
  pub stands : read_machine (table_listing t) (first_words words) ≡ some (running state)
  pub later : state.now < moment
  pub places : length dues ≡ 65
  pub each : Dues (environment_size (table_listing t)) (first_words words) dues
  pub nothing_due : due_before (next_due state) moment ≡ false
  pub inputs : inputs_rise (table_listing t).inputs 0 (inputs_of in_numbers in_values) ≡ true
  pub most : allowance ≤ 1000000
