-- From the run's answer to the call's: a stop, or the end of the instant. Letters: t the table's words, d what the walk gives.
use mathlib.Core.Path.{◌≡◌, refl, ap, subst, ◌∙◌}
use mathlib.Core.List.{List, ◌++◌}
use Prim.Native.Nat.{ℕ, ◌-◌, ◌≤◌}
use native.Mathlib.Omega.{arith}
use lib.ListN.{drop}
use Rattle.listing.specs.Listing.{Listing}
use Rattle.walk.specs.State.{State, Variable}
use Rattle.walk.specs.State as walk
use Rattle.walk.specs.Instant.{Done, environment_size}
use Rattle.walk.specs.Calls.{halted_words, answered, outcome_number, outcome_place, numbers_after, values_after, no_figures, outcome_figures}
use Rattle.walk.specs.Promises as promises
use Rattle.table.specs.Decode.{table_listing}
use Rattle.engine_rows.specs.Rows.{Rows}
use Rattle.engine_rows.specs.Engine.{RowsResult, halts, ends}
use Rattle.engine_rows.proofs.Holds.{unmarked_state}
use Rattle.engine_rows.proofs.InstantOnRows.{Agrees, SameOutcome, same_stop, same_done}
use Rattle.engine_blocks.specs.Blocks.{rows_of, environment_of}
use Rattle.engine_run_laws.specs.Runs.{ran_by}
use Rattle.engine_run_laws.specs.declared.Left.{Left}
use Rattle.engine_run_laws.specs.declared.Ran.{Ran}
use Rattle.engine_run_laws.specs.declared.Ran.TheVariants.{Ended}
use Rattle.engine_run_laws.specs.declared.Ran.TheVariants as ran-variants
use Rattle.std.specs.Prelude.{Err}
use Rattle.call_conclude.specs.declared.answers.Failure.TheVariants.{Stopped}
use Rattle.call_conclude.specs.Answers.{Answer, result_of}
use Rattle.call_conclude.specs.Conclusions.{leaves_stopped, leaves_state, Concludes, MayFinish, FinishedAs, MayConclude}

-- ── the cases of the same outcome ─────────────────────────────────────────────────────────────────
stop_of_lem : {listing : Listing} {t allowance : ℕ} {o : walk.Result Done} {r : RowsResult} → SameOutcome listing t allowance o r → (k : ℕ) → r ≡ halts k → o ≡ walk.stop k
stop_of_lem same_stop k e = cc
stop_of_lem (same_done A) k e = let z : ◌≡◌ {A = ℕ} 0 1 = cc in absurd (omega arith)

-- What d has in common with what a run on rows leaves.
unfoldable pub AgreesWith : Listing → ℕ → ℕ → Done → RowsResult → Type 0
AgreesWith listing t allowance d (halts k) = ⊥
AgreesWith listing t allowance d (ends σ environment left live woken) = Agrees listing t allowance d σ environment left live woken

pub record HasDone (listing : Listing) (t allowance : ℕ) (o : walk.Result Done) (r : RowsResult) : Type 0 where
  pub given : Done
  pub is : o ≡ walk.ok given
  pub agrees : AgreesWith listing t allowance given r

done_of_lem : {listing : Listing} {t allowance : ℕ} {o : walk.Result Done} {r : RowsResult} → SameOutcome listing t allowance o r →
    (σ : Rows) (environment : List Variable) (left live woken : ℕ) → r ≡ ends σ environment left live woken → HasDone listing t allowance o r
unfolding AgreesWith
done_of_lem same_stop σ environment left live woken e = let z : ◌≡◌ {A = ℕ} 0 1 = cc in absurd (omega arith)
done_of_lem (same_done {d = d} A) σ environment left live woken e = record { given = d; is = refl; agrees = A }

-- ── a stop ────────────────────────────────────────────────────────────────────────────────────────
module _ (t words : List ℕ) (moment allowance : ℕ) (ran : Ran) (may : MayConclude t words moment allowance ran) where
  pub concluded_stop : (k : ℕ) → ran ≡ ran-variants.Stopped k → (after numbers values : List ℕ) → after ≡ halted_words k ++ drop 12288 words →
      Concludes (table_listing t) words numbers values after numbers values may.answer (Err (Stopped k))
  unfolding ran_by result_of promises.result_of answered outcome_number outcome_place no_figures outcome_figures numbers_after values_after
  concluded_stop k e after numbers values h =
      let s : may.answer ≡ walk.stop k = stop_of_lem may.same k (ap (ran_by (environment_size (table_listing t)) words) e) in
      rw s (record { result = refl; machine = leaves_stopped h; numbers_are = refl; values_are = refl })

  -- ── the end ─────────────────────────────────────────────────────────────────────────────────────
  module _ (x : Left) (e : ran ≡ Ended x) where
    pub got : HasDone (table_listing t) moment allowance may.answer (ran_by (environment_size (table_listing t)) words ran)
    unfolding ran_by
    got = done_of_lem may.same (rows_of words) (environment_of (environment_size (table_listing t)) words) x.left x.live x.woken
        (ap (ran_by (environment_size (table_listing t)) words) e)

    pub agreed : Agrees (table_listing t) moment allowance got.given (rows_of words) (environment_of (environment_size (table_listing t)) words) x.left x.live x.woken
    unfolding ran_by AgreesWith
    agreed = subst (AgreesWith (table_listing t) moment allowance got.given) (ap (ran_by (environment_size (table_listing t)) words) e) got.agrees

    pub left_within : x.left ≤ allowance
    left_within = agreed.within

    unfoldable pub may_finish : MayFinish t words moment
    unfolding unmarked_state
    may_finish =
        record {
          size = may.size;
          table = may.table;
          clean = may.clean x e;
          state = got.given.state;
          present = ap (λ (s : State). s.now) agreed.state ∙ agreed.moment;
          holds = agreed.after;
          is_state = may.states got.given got.is;
          due = agreed.due;
        }

    pub concluded_end : (after numbers values numbers' values' : List ℕ) (r : Answer) →
        FinishedAs t words numbers values after numbers' values' (allowance - x.left) may_finish.state r →
        Concludes (table_listing t) words numbers values after numbers' values' may.answer r
    unfolding may_finish
    concluded_end after numbers values numbers' values' r F =
        rw got.is
        (record {
          result = F.result got.given refl agreed.steps agreed.listed;
          machine = leaves_state F.reads F.size F.past;
          numbers_are = F.numbers_are got.given agreed.listed;
          values_are = F.values_are got.given agreed.listed;
        })
