-- The running routine goes on without the ready list: what that asks of the words, and how far it gets.
-- Letters: t the table's words, m₀ the words at the beginning, m those now, u the running state.
use Rattle.std.specs.Prelude.{List, ◌≡◌, ℕ, ◌≤◌, ◌<◌, length}
use Rattle.walk.specs.Walk.{instruction_at}
use Rattle.table.specs.Decode.{table_listing}
use Rattle.engine_rows.specs.Rows.{Row}
use Rattle.engine_blocks.specs.Blocks.{rows_of}
use Rattle.engine_ready.specs.declared.ReadyList.{ReadyList}
use Rattle.engine_steps.specs.declared.running.Running.{Running}
use Rattle.engine_steps.specs.Outcome.{NeedsReady}
use Rattle.engine_run_laws.specs.Asked.{MayStep}
use Rattle.engine_run_laws.specs.Runs.{MayRunOn, RunsOn}
use Rattle.engine_run_laws.specs.Going.{Going}
use Rattle.engine_run_laws.specs.declared.Ran.TheVariants.{Stopped}
use Rattle.engine_straight.specs.declared.Straight.{Straight}
use Rattle.engine_straight.specs.declared.Straight.TheVariants.{At, StopsWith}

-- What a step without the ready list asks of the words: that they are those of some running state in which the routine in slot `me` runs.
pub record MayStepAlone (t words : List ℕ) (me : ℕ) : Type 0 where
  pub ready : ReadyList
  pub live : ℕ
  pub woken : ℕ
  pub may : MayStep t words (record { ready = ready; live = live; woken = woken; me = me })

-- What a run of such steps asks: that the routine in slot `me` may run, with so many steps left, whoever else is ready.
pub record MayGoAlone (t words : List ℕ) (moment left me : ℕ) : Type 0 where
  pub ready : ReadyList
  pub live : ℕ
  pub woken : ℕ
  pub may : MayRunOn t words moment left (record { ready = ready; live = live; woken = woken; me = me })

module _ (t : List ℕ) (moment : ℕ) where
  -- A running routine has gone on without the ready list: to an instruction that needs it, or until no step is left; or to a stop.
  unfoldable pub WentStraight : List ℕ → ℕ → Running → List ℕ → Straight → Type 0
  WentStraight m₀ allowance u m (At left) =
      Going t moment m₀ allowance u m left u × (left ≤ allowance) × (0 < left → NeedsReady (instruction_at (table_listing t) (rows_of m u.me).routine (rows_of m u.me).place))
  WentStraight m₀ allowance u m (StopsWith k) = RunsOn t m₀ m moment allowance u (Stopped k)

  -- So it is for the routine in slot `me`, whoever is ready; and the words keep their number.
  pub record GoesStraight (m₀ : List ℕ) (allowance me : ℕ) (m : List ℕ) (r : Straight) : Type 0 where
    pub went : (u : Running) → u.me ≡ me → MayRunOn t m₀ moment allowance u → WentStraight m₀ allowance u m r
    pub long : length m ≡ length m₀
