-- What the end of a call asks of the words that its run leaves, and what it promises.
-- Letters: t the table's words, o the walk's answer.
use Rattle.std.specs.Prelude.{true, false, List, ◌++◌, ◌≡◌, ℕ, length}
use Rattle.std.proofs.Math.Option.{some}
use Rattle.listing.specs.Listing.{Listing}
use Rattle.walk.specs.State.{State}
use Rattle.walk.specs.State as walk
use Rattle.walk.specs.Instant.{unmarked, Done, environment_size, written_outputs, next_due}
use Rattle.walk.specs.Calls.{running, halted_words, answered, numbers_after, values_after, first_words, later_words}
use Rattle.walk.specs.Question7.{IsState}
use Rattle.walk.specs.Promises as promises
use Rattle.table.specs.Decode.{table_listing}
use Rattle.table.specs.Question6.{is_table}
use Rattle.machine.specs.Words.{HasMachine}
use Rattle.machine.specs.ReadMachine.{read_machine}
use Rattle.engine_rows.specs.Beginning.{unmarked_rows, next_due_of_rows}
use Rattle.engine_rows.specs.Holds.{Holds, SameOutcome}
use Rattle.engine_blocks.specs.Blocks.{rows_of, environment_of}
use Rattle.engine_clean.specs.Clean.{Clean}
use Rattle.engine_run_laws.specs.Runs.{ran_by}
use Rattle.engine_run_laws.specs.declared.Left.{Left}
use Rattle.engine_run_laws.specs.declared.Ran.{Ran}
use Rattle.engine_run_laws.specs.declared.Ran.TheVariants.{Ended}
use Rattle.call_conclude.specs.Answers.{Answer, result_of}

-- The machine's words after a call from these words, whose walk's answer is o.
pub data Leaves (listing : Listing) (before after : List ℕ) : walk.Result Done → Type 0 where
  leaves_stopped : {k : ℕ} → after ≡ halted_words k ++ later_words before → Leaves listing before after (walk.stop k)
  leaves_state : {d : Done} → read_machine listing (first_words after) ≡ some (running d.state) → length after ≡ length before →
      later_words after ≡ later_words before → Leaves listing before after (walk.ok d)

-- Answer, machine and output lists after it.
pub record Concludes (listing : Listing) (before numbers values after numbers' values' : List ℕ) (o : walk.Result Done) (r : Answer) : Type 0 where
  pub result : result_of r ≡ promises.result_of (answered o)
  pub machine : Leaves listing before after o
  pub numbers_are : numbers' ≡ numbers_after (answered o) numbers
  pub values_are : values' ≡ values_after (answered o) values

-- The words hold, but for marks and working words, a state at this moment.
pub record MayFinish (t words : List ℕ) (moment : ℕ) : Type 0 where
  pub size : HasMachine words
  pub table : is_table t ≡ true
  pub clean : Clean (environment_size (table_listing t)) words
  pub state : State
  pub present : state.now ≡ moment
  pub holds : Holds false (table_listing t) (unmarked_rows (rows_of words)) (unmarked (environment_of (environment_size (table_listing t)) words)) state
  pub is_state : IsState (table_listing t) state
  pub due : next_due_of_rows (rows_of words) (environment_of (environment_size (table_listing t)) words) ≡ next_due state

-- The instant's end, after so many steps: the state's words, the outputs listed, the figures.
pub record FinishedAs (t before numbers values after numbers' values' : List ℕ) (steps : ℕ) (s : State) (r : Answer) : Type 0 where
  pub reads : read_machine (table_listing t) (first_words after) ≡ some (running s)
  pub size : length after ≡ length before
  pub past : later_words after ≡ later_words before
  pub result : (d : Done) → d.state ≡ s → d.steps ≡ steps → d.listed ≡ written_outputs (table_listing t) (environment_of (environment_size (table_listing t)) before) →
      result_of r ≡ promises.result_of (answered (walk.ok d))
  pub numbers_are : (d : Done) → d.listed ≡ written_outputs (table_listing t) (environment_of (environment_size (table_listing t)) before) →
      numbers' ≡ numbers_after (answered (walk.ok d)) numbers
  pub values_are : (d : Done) → d.listed ≡ written_outputs (table_listing t) (environment_of (environment_size (table_listing t)) before) →
      values' ≡ values_after (answered (walk.ok d)) values

-- The run's answer is the walk's answer o, whose state, if there is one, meets question 7's condition.
pub record MayConclude (t words : List ℕ) (moment allowance : ℕ) (ran : Ran) : Type 0 where
  pub size : HasMachine words
  pub table : is_table t ≡ true
  pub answer : walk.Result Done
  pub same : SameOutcome (table_listing t) moment allowance answer (ran_by (environment_size (table_listing t)) words ran)
  pub states : (d : Done) → answer ≡ walk.ok d → IsState (table_listing t) d.state
  pub clean : (x : Left) → ran ≡ Ended x → Clean (environment_size (table_listing t)) words
