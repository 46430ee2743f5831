-- The run of a routine and all that are ready after it: what it asks of the words, and what it leaves.
-- Letters: t the table's words, u the running state, left the steps left.
use Rattle.std.specs.Prelude.{true, List, ◌≡◌, ℕ, ◌+◌, ◌≤◌, ◌<◌, length}
use Rattle.walk.specs.Instant.{environment_size}
use Rattle.table.specs.Decode.{table_listing}
use Rattle.table.specs.Question6.{is_table}
use Rattle.engine_rows.specs.Rows.{Owner}
use Rattle.engine_rows.specs.Engine.{RowsResult, halts, ends, run_rows}
use Rattle.engine_rows.specs.Steady.{TableFits}
use Rattle.engine_rows.specs.Reached.{Reached}
use Rattle.engine_blocks.specs.Blocks.{owner_at, rows_of, environment_of}
use Rattle.engine_clean.specs.Clean.{Clean}
use Rattle.engine_ready.specs.Slots.{slots_of}
use Rattle.engine_triggers.specs.Chains.{triggers_at}
use Rattle.engine_steps.specs.declared.running.Running.{Running}
use Rattle.engine_steps.specs.Outcome.{Stays}
use Rattle.engine_run_laws.specs.Placed.{Placed}
use Rattle.engine_run_laws.specs.declared.Left.{Left}
use Rattle.engine_run_laws.specs.declared.Ran.{Ran}
use Rattle.engine_run_laws.specs.declared.Ran.TheVariants.{Ended, Stopped}

-- What holds when a routine is about to run, with so many steps left.
pub record MayRunOn (t words : List ℕ) (moment left : ℕ) (u : Running) : Type 0 where
  pub size : 12288 ≤ length words
  pub table : is_table t ≡ true
  pub fits : TableFits (table_listing t)
  -- the trigger lists of the instant, which the words hold
  pub triggers : Owner → List ℕ
  pub lists : (s index : ℕ) → s ≤ 64 → index < 16 → triggers_at words s index ≡ triggers (owner_at s index)
  pub reached : Reached (table_listing t) moment triggers fits left (rows_of words) (environment_of (environment_size (table_listing t)) words) (slots_of u.ready)
      u.live u.woken u.me
  pub placed : Placed t (rows_of words)
  pub clean : Clean (environment_size (table_listing t)) words
  pub few : u.woken + left ≤ 1000001

-- What the run leaves: the instant's end, or a stop under a number; the blocks' words are then any, since the stopped form takes their place.
-- n: the number of environment variables.
unfoldable pub ran_by : ℕ → List ℕ → Ran → RowsResult
ran_by n words (Ended x) = ends (rows_of words) (environment_of n words) x.left x.live x.woken
ran_by n words (Stopped k) = halts k

-- The routine that runs was run on to the instant's end, or to a stop, as scheduler's queue engine runs on rows.
pub record RunsOn (t before after : List ℕ) (moment left : ℕ) (u : Running) (r : Ran) : Type 0 where
  pub outcome : (may : MayRunOn t before moment left u) →
      run_rows (table_listing t) moment may.triggers left (rows_of before) (environment_of (environment_size (table_listing t)) before) (slots_of u.ready) u.live
      u.woken u.me ≡ ran_by (environment_size (table_listing t)) after r
  pub stays : Stays before after
  pub clean : (x : Left) → r ≡ Ended x → Clean (environment_size (table_listing t)) after
