-- What the beginning of an instant asks for and promises, up to its first routine that runs.
-- Letters: t the table's words, before and after the machine's, q a slot.
use Rattle.std.specs.Prelude.{true, false, ◌≡◌, List, ℕ, ◌≤◌, ◌<◌, length, get_or, take, drop}
use Rattle.std.proofs.Math.Option.{some}
use Rattle.walk.specs.State.{State, live_in_forest}
use Rattle.walk.specs.Instant.{Write, environment_size, due_writes, apply_inputs, next_due}
use Rattle.walk.specs.Calls.{running, inputs_rise, inputs_of, due_before}
use Rattle.table.specs.Decode.{table_listing}
use Rattle.table.specs.Question6.{is_table}
use Rattle.machine.specs.ReadMachine.{read_machine}
use Rattle.machine_words.specs.Tests.{Dues}
use Rattle.engine_rows.specs.Rows.{Rows}
use Rattle.engine_rows.specs.Triggers.{triggers_of, ready_of}
use Rattle.engine_rows.specs.Beginning.{due_in_rows}
use Rattle.engine_rows.specs.Holds.{Holds}
use Rattle.engine_blocks.specs.Blocks.{owner_at, rows_of, environment_of}
use Rattle.engine_clean.specs.Clean.{Clean}
use Rattle.engine_ready.specs.declared.ReadyList.{ReadyList}
use Rattle.engine_ready.specs.Slots.{slots_of}
use Rattle.engine_ready.specs.Ordered.{Ordered}
use Rattle.engine_triggers.specs.Chains.{triggers_at}
use Rattle.engine_run_laws.specs.Placed.{Placed}

-- ── an instant ────────────────────────────────────────────────────────────────────────────────────
-- The words are read as a running state, and the soonest moment due of each block is known; the moment is not the start's, and nothing is due before
-- it; questions 1 and 11 of document 01 are answered for the inputs.
pub record MayBegin (t words : List ℕ) (moment : ℕ) (dues numbers values : List ℕ) : Type 0 where
  pub table : is_table t ≡ true
  pub size : 12288 ≤ length words
  pub state : State
  pub stands : read_machine (table_listing t) (take 12288 words) ≡ some (running state)
  pub later : 0 < moment
  pub places : length dues ≡ 65
  pub each : Dues (environment_size (table_listing t)) (take 12288 words) dues
  pub nothing_due : due_before (next_due state) moment ≡ false
  pub inputs : inputs_rise (table_listing t).inputs 0 (inputs_of numbers values) ≡ true
  pub same : length numbers ≡ length values

-- Rule 1 of document 01 is done, from words that are read as state s: rows that hold s are filled in, "Every waiting write due at t is made, and is gone.
-- Then the call's inputs are written"; the sleepers are listed by the variables that they await, and those of them are ready who await a written one.
pub record BegunFrom (t before after : List ℕ) (moment : ℕ) (inputs : List Write) (ready : ReadyList) (s : State) : Type 0 where
  pub filled : Rows
  pub filled_holds : Holds true (table_listing t) filled s.environment s
  pub rows : rows_of after ≡ due_in_rows moment filled
  pub environment : environment_of (environment_size (table_listing t)) after ≡ apply_inputs moment inputs (due_writes moment s.environment)
  pub lists : (q index : ℕ) → q ≤ 64 → index < 16 → triggers_at after q index ≡ triggers_of (table_listing t) (rows_of after) (owner_at q index)
  pub ready_slots : slots_of ready ≡ ready_of (table_listing t) (rows_of after) (environment_of (environment_size (table_listing t)) after)
  pub order : Ordered (rows_of after) (slots_of ready)
  pub live : get_or before 3 0 ≡ live_in_forest s.tree
  pub clean : Clean (environment_size (table_listing t)) after
  pub placed : Placed t (rows_of after)
  pub size : length after ≡ length before
  pub past : drop 12288 after ≡ drop 12288 before

pub record Begun (t before after : List ℕ) (moment : ℕ) (numbers values : List ℕ) (ready : ReadyList) : Type 0 where
  pub holds : (s : State) → read_machine (table_listing t) (take 12288 before) ≡ some (running s) →
      BegunFrom t before after moment (inputs_of numbers values) ready s
