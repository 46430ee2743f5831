-- The run from the first that is ready: what its pop asks, and what it leaves to the loop.
-- Letters: t the table's words, m the words before, m' those after the pop, m'' those after the run.
use mathlib.Core.Path.{◌≡◌, refl, sym, ap, subst, ◌∙◌}
use mathlib.Core.List.{List}
use Prim.Native.Nat.{ℕ}
use native.Mathlib.Omega.{arith}
use Rattle.walk.specs.Instant.{environment_size}
use Rattle.table.specs.Decode.{table_listing}
use Rattle.table.proofs.Bounds.{bounds}
use Rattle.engine_rows.specs.Rows.{Row}
use Rattle.engine_rows.specs.Engine.{RowsResult, RowsRunner, next_ready, run_rows}
use Rattle.engine_rows.proofs.Reachable.{Reached}
use Rattle.engine_rows.proofs.Bounds.{reached_bounds}
use Rattle.engine_blocks.specs.Blocks.{rows_of, environment_of}
use Rattle.engine_clean.specs.Clean.{Clean}
use Rattle.engine_ready.specs.Slots.{slots_of}
use Rattle.engine_ready.specs.declared.ReadyList.{ReadyList}
use Rattle.engine_ready.proofs.Falling.{length_slots}
use Rattle.engine_ready.proofs.Distinct.{ordered_few}
use Rattle.engine_triggers.proofs.Chaining.{lists_stay}
use Rattle.engine_steps.specs.Asked.{MayPop}
use Rattle.engine_steps.specs.declared.running.Running.{Running}
use Rattle.engine_steps.specs.declared.running.Answer.{Answer}
use Rattle.engine_steps.specs.declared.running.Answer.TheVariants.{Goes, Ends, Stops}
use Rattle.engine_steps.specs.declared.running.Stepped.{Stepped}
use Rattle.engine_steps.specs.Outcome.{left_by, RunsLive, Pops}
use Rattle.engine_steps.proofs.Stores.{stays_then}
use Rattle.engine_run_laws.specs.Placed.{GoesOn}
use Rattle.engine_run_laws.specs.Runs.{MayRunOn, ran_by, RunsOn}
use Rattle.engine_run.specs.Whole.{MayBeginRun, RunsReady}
use Rattle.engine_run_laws.specs.declared.Ran.{Ran}
use Rattle.engine_run_laws.specs.declared.Ran.TheVariants.{Ended, Stopped}
use Rattle.engine_run_laws.proofs.Reaching.{slots_of_order}
use Rattle.engine_run_laws.proofs.Keeping.{running_childless}
use Rattle.engine_run_laws.proofs.Placing.{saying, Kept, KeptBy, pop_kept}

abbrev before : ReadyList → ℕ → Running
before ready live = record { ready = ready; live = live; woken = 0; me = 0 }

module _ (t : List ℕ) (moment left : ℕ) {m : List ℕ} {ready : ReadyList} {live : ℕ} where
  pub may_pop_first : MayBeginRun t m moment left ready live → MayPop m (before ready live)
  may_pop_first may =
      record {
        size = may.size;
        few = let e = length_slots ready in let f = ordered_few (rows_of m) (slots_of ready) may.order in omega arith;
        slots = slots_of_order may.order;
        woken = omega arith;
        sleepers = λ s e.
            let g = may.placed.sleeper s e in let b = (bounds t may.table).code (rows_of m s).routine g.routine in omega (arith, b, g.next);
      }

  module _ {m' : List ℕ} {r : Stepped} (x : Pops m m' (record { ready = ready; live = live; woken = 0; me = 0 }) r) where
    first_left : (go : RowsRunner) (a : Answer) → r.answer ≡ a →
        next_ready go left (rows_of m) (environment_of (environment_size (table_listing t)) m) (slots_of ready) live 0 ≡ left_by (environment_size (table_listing t)) m' go left a r.running
    first_left go a e = x.outcome (environment_size (table_listing t)) go left ∙ ap (λ (b : Answer). left_by (environment_size (table_listing t)) m' go left b r.running) e

    pub first_reached : (may : MayBeginRun t m moment left ready live) → r.answer ≡ Goes →
        Reached (table_listing t) moment may.triggers may.fits left (rows_of m') (environment_of (environment_size (table_listing t)) m') (slots_of r.running.ready) r.running.live
        r.running.woken r.running.me
    unfolding left_by
    first_reached may e =
        may.reaches (rows_of m') (environment_of (environment_size (table_listing t)) m') (slots_of r.running.ready) r.running.live r.running.woken r.running.me
        (λ go. first_left go Goes e)

    pub first_kept : (may : MayBeginRun t m moment left ready live) → r.answer ≡ Goes → Kept t 0 (rows_of m') r.running.woken
    unfolding left_by KeptBy saying
    first_kept may e =
        let k = pop_kept t left 0 (rows_of m) (environment_of (environment_size (table_listing t)) m) (slots_of ready) live 0 may.placed (omega arith) in
        subst (λ (y : RowsResult). KeptBy t left 0 y) (first_left (saying left) Goes e) k refl
        (running_childless (table_listing t) moment may.triggers may.fits left (rows_of m') (environment_of (environment_size (table_listing t)) m') (slots_of r.running.ready)
        r.running.live r.running.woken r.running.me (first_reached may e))

    pub first_clean : (may : MayBeginRun t m moment left ready live) (a : Answer) → r.answer ≡ a → RunsLive m' a r.running → Clean (environment_size (table_listing t)) m'
    first_clean may a e runs = x.clean (environment_size (table_listing t)) (subst (λ (b : Answer). RunsLive m' b r.running) (sym e) runs) may.clean

    -- Somebody runs.
    unfoldable pub may_run_first : MayBeginRun t m moment left ready live → r.answer ≡ Goes → MayRunOn t m' moment left r.running
    unfolding RunsLive
    may_run_first may e =
        record {
          size = omega (arith, may.size, x.stays.outside.size);
          table = may.table;
          fits = may.fits;
          triggers = may.triggers;
          lists = λ s index h k. lists_stay m m' x.stays.triggers s index h ∙ may.lists s index h k;
          reached = first_reached may e;
          placed = (first_kept may e).placed;
          clean = first_clean may Goes e (reached_bounds (table_listing t) moment may.triggers may.fits left (rows_of m') (environment_of (environment_size (table_listing t)) m')
              (slots_of r.running.ready) r.running.live r.running.woken r.running.me (first_reached may e)).sits;
          few = omega (arith, may.allowed, (first_kept may e).few);
        }

    pub first_runs : {m'' : List ℕ} {z : Ran} → r.answer ≡ Goes → RunsOn t m' m'' moment left r.running z → RunsReady t m m'' moment left ready live z
    unfolding left_by may_run_first
    first_runs e y =
        record {
          outcome = λ may. first_left (run_rows (table_listing t) moment may.triggers left) Goes e ∙ y.outcome (may_run_first may e);
          stays = stays_then x.stays y.stays;
          clean = y.clean;
        }

    -- Nobody is ready.
    pub first_ends : MayBeginRun t m moment left ready live → r.answer ≡ Ends →
        RunsReady t m m' moment left ready live (Ended (record { left = left; live = r.running.live; woken = r.running.woken }))
    unfolding left_by ran_by RunsLive
    first_ends may e =
        record {
          outcome = λ again. first_left (run_rows (table_listing t) moment again.triggers left) Ends e;
          stays = x.stays;
          clean = λ y same. first_clean may Ends e (omega arith);
        }

    pub first_halts : (k : ℕ) → r.answer ≡ Stops k → RunsReady t m m' moment left ready live (Stopped k)
    unfolding left_by ran_by
    first_halts k e =
        record {
          outcome = λ again. first_left (run_rows (table_listing t) moment again.triggers left) (Stops k) e;
          stays = x.stays;
          clean = λ y same. let z : ◌≡◌ {A = ℕ} 0 1 = cc in absurd (omega arith);
        }
