-- The loop of a run: the run that is left equals the whole run, and everything that a step asks still holds.
-- Letters: t the table's words, m₀ and u₀ the words and the running state at the loop's beginning, m and u those now.
use mathlib.Core.Path.{◌≡◌, refl, sym, ap, subst, ◌∙◌}
use mathlib.Core.List.{List}
use Prim.Native.Nat.{ℕ, suc, ◌+◌, ◌-◌, ◌≤◌, ◌<◌}
use native.Mathlib.Omega.{arith}
use lib.ListN.{length}
use Rattle.listing.specs.Listing.{Listing}
use Rattle.walk.specs.Walk.{instruction_at}
use Rattle.walk.specs.Instant.{environment_size}
use Rattle.table.specs.Decode.{table_listing}
use Rattle.engine_rows.specs.Rows.{Owner, Row}
use Rattle.engine_rows.specs.Engine.{RowsResult, RowsRunner, execute_rows, run_rows}
use Rattle.engine_rows.proofs.Reachable.{Reached, step_reaches}
use Rattle.engine_rows.proofs.Bounds.{reached_bounds}
use Rattle.engine_blocks.specs.Blocks.{rows_of, environment_of}
use Rattle.engine_clean.specs.Clean.{Clean}
use Rattle.engine_ready.specs.Slots.{slots_of}
use Rattle.engine_triggers.proofs.Chaining.{lists_stay}
use Rattle.engine_steps.specs.declared.running.Running.{Running}
use Rattle.engine_steps.specs.declared.running.Answer.{Answer}
use Rattle.engine_steps.specs.declared.running.Answer.TheVariants.{Goes, Ends, Stops}
use Rattle.engine_steps.specs.declared.running.Stepped.{Stepped}
use Rattle.engine_steps.specs.Outcome.{left_by, RunsLive, Reading, Stays, Executes}
use Rattle.engine_steps.proofs.Stores.{stays_then, stays_start}
use Rattle.engine_run_laws.specs.Asked.{MayStep}
use Rattle.engine_run_laws.specs.Placed.{Placed}
use Rattle.engine_run_laws.specs.Going as specs
use Rattle.engine_run_laws.specs.Runs.{MayRunOn, ran_by, RunsOn}
use Rattle.engine_run_laws.specs.declared.Left.{Left}
use Rattle.engine_run_laws.specs.declared.Ran.{Ran}
use Rattle.engine_run_laws.specs.declared.Ran.TheVariants.{Ended, Stopped}
use Rattle.engine_run_laws.proofs.Invariant.{may_step, reading}
use Rattle.engine_run_laws.proofs.Keeping.{running_childless}
use Rattle.engine_run_laws.proofs.Placing.{saying, Kept, KeptBy}
use Rattle.engine_run_laws.proofs.PlacedSteps.{step_kept}

module _ (t : List ℕ) (moment : ℕ) where
  abbrev listing : Listing
  listing = table_listing t

  abbrev ports : ℕ
  ports = environment_size (table_listing t)

  abbrev ReachedBy : {m₀ : List ℕ} {allowance : ℕ} {u₀ : Running} → MayRunOn t m₀ moment allowance u₀ → List ℕ → ℕ → Running → Type 0
  ReachedBy may m left u = specs.ReachedBy t moment may m left u

  abbrev rest : (Owner → List ℕ) → List ℕ → ℕ → Running → RowsResult
  rest triggers m left u = specs.rest t moment triggers m left u

  abbrev Going : List ℕ → ℕ → Running → List ℕ → ℕ → Running → Type 0
  Going m₀ allowance u₀ m left u = specs.Going t moment m₀ allowance u₀ m left u

  pub going_begins : {m : List ℕ} {left : ℕ} {u : Running} → MayRunOn t m moment left u → Going m left u m left u
  going_begins {m} may =
      record {
        together = λ again. record { reached = again.reached; runs = refl };
        placed = may.placed;
        clean = may.clean;
        stays = stays_start m;
        few = may.few;
      }

  module _ {m₀ : List ℕ} {allowance : ℕ} {u₀ : Running} where
    pub still_long : MayRunOn t m₀ moment allowance u₀ → {m : List ℕ} {left : ℕ} {u : Running} → Going m₀ allowance u₀ m left u → 12288 ≤ length m
    still_long may g = omega (arith, may.size, g.stays.outside.size)

    pub may_step_now : MayRunOn t m₀ moment allowance u₀ → {m : List ℕ} {left : ℕ} {u : Running} → Going m₀ allowance u₀ m left u → MayStep t m u
    may_step_now may {m} {left} {u} g =
        may_step t m ports moment may.triggers may.fits left u may.table (g.together may).reached (still_long may g) (omega (arith, g.few))
        g.placed g.clean

    read_now : (may : MayRunOn t m₀ moment allowance u₀) → {m : List ℕ} {left : ℕ} {u : Running} → Going m₀ allowance u₀ m left u →
        Reading m u.me ports may.triggers
    read_now may {m} {left} {u} g =
        reading t m ports moment may.triggers may.fits left u may.table (g.together may).reached
        (λ s index h k. lists_stay m₀ m g.stays.triggers s index h ∙ may.lists s index h k)

    -- one step of those left
    pub one_taken : {m : List ℕ} {left : ℕ} {u : Running} → Going m₀ allowance u₀ m left u → 0 < left → Going m₀ allowance u₀ m (suc (left - 1)) u
    one_taken {m} {left} {u} g some = let e : left ≡ suc (left - 1) = omega arith in subst (λ (k : ℕ). Going m₀ allowance u₀ m k u) e g

    -- ── one step ──────────────────────────────────────────────────────────────────────────────────
    module _ {m m' : List ℕ} {left : ℕ} {u : Running} {r : Stepped} (g : Going m₀ allowance u₀ m (suc left) u)
        (x : Executes listing moment (instruction_at listing (rows_of m u.me).routine (rows_of m u.me).place) m m' u r) where
      abbrev stepped : MayRunOn t m₀ moment allowance u₀ → RowsRunner → RowsResult
      stepped may go =
          execute_rows listing moment may.triggers go left (instruction_at listing (rows_of m u.me).routine (rows_of m u.me).place) (rows_of m)
          (environment_of ports m) (slots_of u.ready) u.live u.woken u.me

      left_so : (may : MayRunOn t m₀ moment allowance u₀) (go : RowsRunner) (a : Answer) → r.answer ≡ a → stepped may go ≡ left_by ports m' go left a r.running
      left_so may go a e = x.outcome ports may.triggers (read_now may g) go left ∙ ap (λ (b : Answer). left_by ports m' go left b r.running) e

      -- the step is the first of the run that was left
      whole_so : (may : MayRunOn t m₀ moment allowance u₀) → rest may.triggers m₀ allowance u₀ ≡ stepped may (run_rows listing moment may.triggers left)
      unfolding run_rows
      whole_so may = sym (g.together may).runs

      reached_next : (may : MayRunOn t m₀ moment allowance u₀) → r.answer ≡ Goes → ReachedBy may m' left r.running
      unfolding left_by
      reached_next may e =
          step_reaches listing moment may.triggers may.fits left (rows_of m) (rows_of m') (environment_of ports m) (environment_of ports m') (slots_of u.ready)
          (slots_of r.running.ready) u.live r.running.live u.woken r.running.woken u.me r.running.me (g.together may).reached
          (λ go. left_so may go Goes e)

      kept_next : (may : MayRunOn t m₀ moment allowance u₀) → r.answer ≡ Goes → Kept t u.woken (rows_of m') r.running.woken
      unfolding left_by KeptBy saying
      kept_next may e =
          let b = reached_bounds listing moment may.triggers may.fits (suc left) (rows_of m) (environment_of ports m) (slots_of u.ready) u.live u.woken
          u.me (g.together may).reached in
          let k = step_kept t moment may.triggers left (rows_of m) (environment_of ports m) (slots_of u.ready) u.live u.woken u.me g.placed
          may.table b.sits in
          subst (λ (y : RowsResult). KeptBy t left u.woken y) (left_so may (saying left) Goes e) k refl
          (running_childless listing moment may.triggers may.fits left (rows_of m') (environment_of ports m') (slots_of r.running.ready) r.running.live
          r.running.woken r.running.me (reached_next may e))

      clean_next : (may : MayRunOn t m₀ moment allowance u₀) (a : Answer) → r.answer ≡ a → RunsLive m' a r.running → Clean ports m'
      clean_next may a e live =
          x.clean ports may.triggers (read_now may g) (subst (λ (b : Answer). RunsLive m' b r.running) (sym e) live) g.clean

      -- Somebody runs.
      pub going_on : MayRunOn t m₀ moment allowance u₀ → r.answer ≡ Goes → Going m₀ allowance u₀ m' left r.running
      unfolding left_by RunsLive
      going_on may e =
          let k = kept_next may e in
          let b = reached_bounds listing moment may.triggers may.fits left (rows_of m') (environment_of ports m') (slots_of r.running.ready) r.running.live
          r.running.woken r.running.me (reached_next may e) in
          record {
            together = λ again. record {
              reached = reached_next again e;
              runs = sym (whole_so again ∙ left_so again (run_rows listing moment again.triggers left) Goes e);
            };
            placed = k.placed;
            clean = clean_next may Goes e b.sits;
            stays = stays_then g.stays x.stays;
            few = omega (arith, g.few, k.few);
          }

      -- The instant ends.
      pub going_ends : MayRunOn t m₀ moment allowance u₀ → r.answer ≡ Ends →
          RunsOn t m₀ m' moment allowance u₀ (Ended (record { left = left; live = r.running.live; woken = r.running.woken }))
      unfolding left_by ran_by RunsLive
      going_ends may e =
          record {
            outcome = λ again. whole_so again ∙ left_so again (run_rows listing moment again.triggers left) Ends e;
            stays = stays_then g.stays x.stays;
            clean = λ y same. clean_next may Ends e (omega arith);
          }

      -- The machine stops.
      pub going_halts : (k : ℕ) → r.answer ≡ Stops k → RunsOn t m₀ m' moment allowance u₀ (Stopped k)
      unfolding left_by ran_by
      going_halts k e =
          record {
            outcome = λ again. whole_so again ∙ left_so again (run_rows listing moment again.triggers left) (Stops k) e;
            stays = stays_then g.stays x.stays;
            clean = λ y same. let z : ◌≡◌ {A = ℕ} 0 1 = cc in absurd (omega arith);
          }

    -- No step is left.
    pub going_used_up : {m : List ℕ} {left : ℕ} {u : Running} → Going m₀ allowance u₀ m left u → left ≡ 0 → RunsOn t m₀ m moment allowance u₀ (Stopped 13)
    unfolding run_rows ran_by
    going_used_up {m} {left} {u} g none =
        record {
          outcome = λ again. sym (g.together again).runs ∙ ap (λ (k : ℕ). rest again.triggers m k u) none;
          stays = g.stays;
          clean = λ y same. let z : ◌≡◌ {A = ℕ} 0 1 = cc in absurd (omega arith);
        }
