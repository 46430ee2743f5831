-- A run on its way: what is left of it equals the whole, and everything that a step asks still holds.
-- Letters: t the table's words, m₀ and u₀ the words and the running state at the beginning, m and u those now.
use Rattle.std.specs.Prelude.{List, ◌≡◌, ℕ, ◌+◌, ◌≤◌, ◌<◌}
use Rattle.listing.specs.Listing.{Listing}
use Rattle.walk.specs.Instant.{environment_size}
use Rattle.table.specs.Decode.{table_listing}
use Rattle.engine_rows.specs.Rows.{Owner, Row}
use Rattle.engine_rows.specs.Engine.{RowsResult, run_rows}
use Rattle.engine_rows.specs.Reached.{Reached}
use Rattle.engine_blocks.specs.Blocks.{rows_of, environment_of}
use Rattle.engine_clean.specs.Clean.{Clean}
use Rattle.engine_ready.specs.Slots.{slots_of}
use Rattle.engine_steps.specs.declared.running.Running.{Running}
use Rattle.engine_steps.specs.Outcome.{Stays}
use Rattle.engine_run_laws.specs.Placed.{Placed}
use Rattle.engine_run_laws.specs.Runs.{MayRunOn}

module _ (t : List ℕ) (moment : ℕ) where
  abbrev pub listing : Listing
  listing = table_listing t

  abbrev pub ports : ℕ
  ports = environment_size (table_listing t)

  abbrev pub ReachedBy : {m₀ : List ℕ} {allowance : ℕ} {u₀ : Running} → MayRunOn t m₀ moment allowance u₀ → List ℕ → ℕ → Running → Type 0
  ReachedBy may m left u = Reached listing moment may.triggers may.fits left (rows_of m) (environment_of ports m) (slots_of u.ready) u.live u.woken u.me

  -- What the run from here gives.
  abbrev pub rest : (Owner → List ℕ) → List ℕ → ℕ → Running → RowsResult
  rest triggers m left u = run_rows listing moment triggers left (rows_of m) (environment_of ports m) (slots_of u.ready) u.live u.woken u.me

  pub record InStep {m₀ : List ℕ} {allowance : ℕ} {u₀ : Running} (may : MayRunOn t m₀ moment allowance u₀) (m : List ℕ) (left : ℕ) (u : Running) : Type 0 where
    pub reached : ReachedBy may m left u
    pub runs : rest may.triggers m left u ≡ rest may.triggers m₀ allowance u₀

  pub record Going (m₀ : List ℕ) (allowance : ℕ) (u₀ : Running) (m : List ℕ) (left : ℕ) (u : Running) : Type 0 where
    pub together : (may : MayRunOn t m₀ moment allowance u₀) → InStep may m left u
    pub placed : Placed t (rows_of m)
    pub clean : Clean ports m
    pub stays : Stays m₀ m
    pub few : u.woken + left ≤ 1000001
