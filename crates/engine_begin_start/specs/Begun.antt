-- What the beginning of the start promises.
-- Letters: t the table's words, before and after the machine's, q a slot.
use Rattle.std.specs.Prelude.{◌≡◌, List, [], ℕ, ◌≤◌, ◌<◌, length, drop}
use Rattle.walk.specs.Instant.{environment_size}
use Rattle.table.specs.Decode.{table_listing}
use Rattle.engine_rows.specs.Rows.{no_rows, with_row}
use Rattle.engine_rows.specs.Beginning.{main_row, new_environment}
use Rattle.engine_blocks.specs.Blocks.{rows_of, environment_of}
use Rattle.engine_clean.specs.Clean.{Clean}
use Rattle.engine_ready.specs.Slots.{slots_of}
use Rattle.engine_triggers.specs.Chains.{triggers_at}
use Rattle.engine_steps.specs.declared.running.Running.{Running}
use Rattle.engine_run_laws.specs.Placed.{Placed}

-- "The start is the instant 0, with main newly called and no inputs": main alone, in slot u .me, is about to run.
pub record BegunStart (t before after : List ℕ) (u : Running) : Type 0 where
  pub slot : u.me < 64
  pub rows : rows_of after ≡ with_row no_rows u.me (main_row (table_listing t) (new_environment (table_listing t)) u.me)
  pub environment : environment_of (environment_size (table_listing t)) after ≡ new_environment (table_listing t)
  pub lists : (q index : ℕ) → q ≤ 64 → index < 16 → triggers_at after q index ≡ []
  pub ready_slots : slots_of u.ready ≡ []
  pub live : u.live ≡ 1
  pub woken : u.woken ≡ 0
  pub clean : Clean (environment_size (table_listing t)) after
  pub placed : Placed t (rows_of after)
  pub size : length after ≡ length before
  pub past : drop 12288 after ≡ drop 12288 before
