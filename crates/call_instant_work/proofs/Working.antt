-- From the questions' answers through the beginning, the run and the end of an instant call to the walk's outcome.
-- Letters: t the table's words, w₀ to w₃ the machine's words before, after the beginning, after the run and after the end.
use mathlib.Core.Path.{◌≡◌, refl, sym, ap, ap₂, subst, ◌∙◌}
use mathlib.Core.Bool.{true}
use mathlib.Core.List.{List}
use Prim.Native.Nat.{ℕ, ◌+◌, ◌<◌}
use native.Mathlib.Omega.{arith}
use lib.ListN.{get_or, take}
use Rattle.listing.specs.Listing.{Listing}
use Rattle.walk.specs.State.{Variable, State, live_in_forest}
use Rattle.walk.specs.Instant.{Write, environment_size, due_writes, apply_inputs, instant}
use Rattle.walk.specs.Calls.{Words32, inputs_of}
use Rattle.walk.specs.Question7.{IsState}
use Rattle.walk_laws.proofs.Stays.{instant_leaves_state}
use Rattle.table.specs.Decode.{table_listing}
use Rattle.machine.proofs.MachineWords.{read_is_a_state}
use Rattle.engine_rows.specs.Rows.{Rows}
use Rattle.engine_rows.specs.Triggers.{triggers_of, ready_of}
use Rattle.engine_rows.specs.Engine.{RowsResult, RowsRunner, next_ready, run_rows}
use Rattle.engine_rows.specs.Beginning.{due_in_rows}
use Rattle.engine_rows.proofs.Waking.{Triggers}
use Rattle.engine_rows.proofs.Kept.{Known}
use Rattle.engine_rows.proofs.Steady.{TableFits}
use Rattle.engine_rows.proofs.TriggerLists.{triggers_made}
use Rattle.engine_rows.proofs.Changing.{changed, due_rows, due_length, changed_slots, changed_range, changed_asleep}
use Rattle.engine_rows.proofs.Holds.{Holds}
use Rattle.engine_rows.proofs.InstantOnRows.{SameOutcome, instant_same}
use Rattle.engine_rows.proofs.FirstReached.{instant_reaches}
use Rattle.engine_blocks.specs.Blocks.{rows_of, environment_of}
use Rattle.engine_ready.specs.declared.ReadyList.{ReadyList}
use Rattle.engine_ready.specs.Slots.{slots_of}
use Rattle.engine_run_laws.specs.Runs.{ran_by}
use Rattle.engine_run.specs.Whole.{MayBeginRun, RunsReady}
use Rattle.engine_run_laws.specs.declared.Ran.{Ran}
use Rattle.engine_begin.specs.Begun.{MayBegin, BegunFrom, Begun}
use Rattle.engine_begin_laws.proofs.Filled.{table_fits}
use Rattle.call_conclude.specs.Answers.{Answer}
use Rattle.call_conclude.specs.Conclusions.{Concludes, MayConclude}
use Rattle.call_conclude.proofs.Earlier.{concludes_from}
use Rattle.call_conclude.proofs.Literals.{literals_are_words}
use Rattle.call_instant_work.specs.Works.{MayInstant}
use Rattle.call_arguments.proofs.TableSize.{first_words32}
use Rattle.walk_laws.proofs.Literals.{inputs_are_words}

four : {A B C D E : Type 0} (f : A → B → C → D → E) {a a' : A} {b b' : B} {c c' : C} {d d' : D} → a ≡ a' → b ≡ b' → c ≡ c' → d ≡ d' →
    f a b c d ≡ f a' b' c' d'
four f p q r s = cc

-- The trigger lists that the beginning makes are right.
pub triggers_right : (listing : Listing) (t : ℕ) (s : State) (σ : Rows) (environment : List Variable) → Holds true listing σ environment s →
    Triggers listing (due_in_rows t σ) (triggers_of listing (due_in_rows t σ))
triggers_right listing t s σ environment H =
    triggers_made listing (changed (due_writes t) H.tree) (changed_range (due_writes t) (due_length t) H.range) known
  where
    known : Known (due_in_rows t σ) (changed (due_writes t) H.tree)
    known = record {
      all = λ n a. rw (changed_slots (due_writes t) (due_length t) H.tree)
          (H.marked refl n (sym (changed_asleep (due_writes t) (due_length t) σ n) ∙ sym (ap (λ r. (r n).asleep) (due_rows t σ)) ∙ a));
    }

-- ── an instant ────────────────────────────────────────────────────────────────────────────────────
module _ (t w₀ : List ℕ) (moment : ℕ) (dues ns vs : List ℕ) (allowance : ℕ) (may : MayInstant t w₀ moment dues ns vs allowance) (small : Words32 w₀) where
  abbrev listing : Listing
  listing = table_listing t

  abbrev n : ℕ
  n = environment_size listing

  abbrev s : State
  s = may.state

  abbrev inputs : List Write
  inputs = inputs_of ns vs

  pub may_begin : MayBegin t w₀ moment dues ns vs
  may_begin =
      record {
        table = may.table;
        size = may.size;
        state = s;
        stands = may.stands;
        later = omega (arith, may.later);
        places = may.places;
        each = may.each;
        nothing_due = may.nothing_due;
        inputs = may.inputs;
        same = may.same;
      }

  pub is_state : IsState listing s
  is_state = read_is_a_state listing (take 12288 w₀) s (first_words32 w₀ small) may.stands

  pub fits : TableFits listing
  fits = table_fits t may.table

  module _ (w₁ : List ℕ) (ready : ReadyList) (B : Begun t w₀ w₁ moment ns vs ready) (live : ℕ) (L : live ≡ get_or w₀ 3 0) where
    pub b : BegunFrom t w₀ w₁ moment inputs ready s
    b = B.holds s may.stands

    -- what stands in the words is what the walk's instant begins with
    pub begins : (f : Rows → List Variable → List ℕ → ℕ → RowsResult) →
        f (due_in_rows moment b.filled) (apply_inputs moment inputs (due_writes moment s.environment))
        (ready_of listing (due_in_rows moment b.filled) (apply_inputs moment inputs (due_writes moment s.environment))) (live_in_forest s.tree) ≡
        f (rows_of w₁) (environment_of n w₁) (slots_of ready) live
    begins f = sym (four f b.rows b.environment (b.ready_slots ∙ ap₂ (ready_of listing) b.rows b.environment) (L ∙ b.live))

    pub right : Triggers listing (due_in_rows moment b.filled) (triggers_of listing (rows_of w₁))
    right = subst (λ (ρ : Rows). Triggers listing (due_in_rows moment b.filled) (triggers_of listing ρ)) (sym b.rows)
        (triggers_right listing moment s b.filled s.environment b.filled_holds)

    unfoldable pub may_run : MayBeginRun t w₁ moment allowance ready live
    may_run =
        record {
          size = omega (arith, b.size, may.size);
          table = may.table;
          fits = fits;
          triggers = triggers_of listing (rows_of w₁);
          lists = b.lists;
          placed = b.placed;
          clean = b.clean;
          allowed = may.most;
          order = b.order;
          reaches = λ σ' environment' ready' live' woken' me' e.
              instant_reaches listing moment (triggers_of listing (rows_of w₁)) fits s is_state b.filled s.environment b.filled_holds inputs allowance right
              σ' environment' ready' live' woken' me' (λ (go : RowsRunner). begins (λ ρ v q l. next_ready go allowance ρ v q l 0) ∙ e go);
        }

    module _ (w₂ : List ℕ) (ran : Ran) (R : RunsReady t w₁ w₂ moment allowance ready live ran) (below : moment < 18446744073709551616) (words : Words32 vs) where
      pub same : SameOutcome listing moment allowance (instant listing s moment inputs allowance) (ran_by n w₂ ran)
      unfolding may_run
      same =
          subst (SameOutcome listing moment allowance (instant listing s moment inputs allowance))
          (begins (λ ρ v q l. next_ready (run_rows listing moment (triggers_of listing (rows_of w₁)) allowance) allowance ρ v q l 0) ∙ R.outcome may_run)
          (instant_same listing moment (triggers_of listing (rows_of w₁)) fits s is_state b.filled s.environment b.filled_holds inputs allowance right)

      unfoldable pub may_conclude : MayConclude t w₂ moment allowance ran
      may_conclude =
          record {
            size = omega (arith, R.stays.outside.size, b.size, may.size);
            table = may.table;
            answer = instant listing s moment inputs allowance;
            same = same;
            states = λ d e. (instant_leaves_state listing s moment inputs allowance (literals_are_words t may.table) is_state below may.nothing_due
                (inputs_are_words ns vs words) d e).is_state;
            clean = R.clean;
          }

      pub instant_concludes : (w₃ numbers values numbers' values' : List ℕ) (r : Answer) →
          Concludes listing w₂ numbers values w₃ numbers' values' may_conclude.answer r →
          Concludes listing w₀ numbers values w₃ numbers' values' (instant listing s moment inputs allowance) r
      unfolding may_conclude
      instant_concludes w₃ numbers values numbers' values' r C =
          concludes_from listing w₀ w₂ w₃ numbers values numbers' values' (instant listing s moment inputs allowance) r
          (R.stays.outside.size ∙ b.size) (R.stays.outside.past ∙ b.past) C
