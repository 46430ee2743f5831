-- The run of an instant as a whole: what it asks of the words, and what it leaves.
-- Letters: t the table's words, left the steps left.
use Rattle.std.specs.Prelude.{true, List, ◌≡◌, ℕ, ◌≤◌, ◌<◌, length}
use Rattle.walk.specs.State.{Variable}
use Rattle.walk.specs.Instant.{environment_size}
use Rattle.table.specs.Decode.{table_listing}
use Rattle.table.specs.Question6.{is_table}
use Rattle.engine_rows.specs.Rows.{Owner, Rows}
use Rattle.engine_rows.specs.Engine.{RowsRunner, next_ready, run_rows}
use Rattle.engine_rows.specs.Steady.{TableFits}
use Rattle.engine_rows.specs.Reached.{Reached}
use Rattle.engine_blocks.specs.Blocks.{owner_at, rows_of, environment_of}
use Rattle.engine_clean.specs.Clean.{Clean}
use Rattle.engine_ready.specs.Ordered.{Ordered}
use Rattle.engine_ready.specs.Slots.{slots_of}
use Rattle.engine_ready.specs.declared.ReadyList.{ReadyList}
use Rattle.engine_triggers.specs.Chains.{triggers_at}
use Rattle.engine_steps.specs.Outcome.{Stays}
use Rattle.engine_run_laws.specs.Placed.{Placed}
use Rattle.engine_run_laws.specs.Runs.{ran_by}
use Rattle.engine_run_laws.specs.declared.Left.{Left}
use Rattle.engine_run_laws.specs.declared.Ran.{Ran}
use Rattle.engine_run_laws.specs.declared.Ran.TheVariants.{Ended}

-- What holds before the first that is ready goes on.
pub record MayBeginRun (t words : List ℕ) (moment left : ℕ) (ready : ReadyList) (live : ℕ) : Type 0 where
  pub size : 12288 ≤ length words
  pub table : is_table t ≡ true
  pub fits : TableFits (table_listing t)
  pub triggers : Owner → List ℕ
  pub lists : (s index : ℕ) → s ≤ 64 → index < 16 → triggers_at words s index ≡ triggers (owner_at s index)
  pub placed : Placed t (rows_of words)
  pub clean : Clean (environment_size (table_listing t)) words
  pub allowed : left ≤ 1000000
  pub order : Ordered (rows_of words) (slots_of ready)
  -- if this leaves a state to the rest of the run, whatever that is, the state is reached
  pub reaches : (σ' : Rows) (environment' : List Variable) (ready' : List ℕ) (live' woken' me' : ℕ) →
      ((go : RowsRunner) → next_ready go left (rows_of words) (environment_of (environment_size (table_listing t)) words) (slots_of ready) live 0 ≡
      go σ' environment' ready' live' woken' me') → Reached (table_listing t) moment triggers fits left σ' environment' ready' live' woken' me'

-- The same from the first that is ready.
pub record RunsReady (t before after : List ℕ) (moment left : ℕ) (ready : ReadyList) (live : ℕ) (r : Ran) : Type 0 where
  pub outcome : (may : MayBeginRun t before moment left ready live) →
      next_ready (run_rows (table_listing t) moment may.triggers left) left (rows_of before) (environment_of (environment_size (table_listing t)) before) (slots_of ready)
      live 0 ≡ ran_by (environment_size (table_listing t)) after r
  pub stays : Stays before after
  pub clean : (x : Left) → r ≡ Ended x → Clean (environment_size (table_listing t)) after
