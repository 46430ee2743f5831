-- The start: from main newly called through the run and the end to the walk's outcome. Letters: t the table's words,
-- w₀ to w₃ the machine's words before, after the beginning, after the run and after the end.
use mathlib.Core.Path.{◌≡◌, sym, subst, ◌∙◌}
use mathlib.Core.Bool.{true}
use mathlib.Core.List.{List, []}
use Prim.Native.Nat.{ℕ, ◌≤◌}
use native.Mathlib.Omega.{arith}
use lib.ListN.{length}
use Rattle.listing.specs.Listing.{Listing}
use Rattle.walk.specs.Instant.{environment_size, start}
use Rattle.walk_laws.proofs.Stays.{start_leaves_state}
use Rattle.table.specs.Decode.{table_listing}
use Rattle.table.specs.Question6.{is_table}
use Rattle.engine_rows.specs.Rows.{Owner}
use Rattle.engine_rows.specs.Engine.{run_rows}
use Rattle.engine_rows.specs.Beginning.{start_on_rows}
use Rattle.engine_rows.proofs.Steady.{TableFits}
use Rattle.engine_rows.proofs.InstantOnRows.{SameOutcome}
use Rattle.engine_rows.proofs.StartOnRows.{start_on_rows_lem}
use Rattle.engine_rows.proofs.Reachable.{Reached}
use Rattle.engine_rows.proofs.FirstReached.{start_reaches}
use Rattle.engine_steps.specs.declared.running.Running.{Running}
use Rattle.engine_run_laws.specs.Runs.{MayRunOn, ran_by, RunsOn}
use Rattle.engine_run_laws.specs.declared.Ran.{Ran}
use Rattle.engine_begin_start.specs.Begun.{BegunStart}
use Rattle.engine_begin_laws.proofs.Filled.{table_fits}
use Rattle.call_conclude.specs.Answers.{Answer}
use Rattle.call_conclude.specs.Conclusions.{Concludes, MayConclude}
use Rattle.call_conclude.proofs.Earlier.{concludes_from}
use Rattle.call_conclude.proofs.Literals.{literals_are_words}

five : {A B C D E F : Type 0} (f : A → B → C → D → E → F) {a a' : A} {b b' : B} {c c' : C} {d d' : D} {e e' : E} → a ≡ a' → b ≡ b' → c ≡ c' →
    d ≡ d' → e ≡ e' → f a b c d e ≡ f a' b' c' d' e'
five f p q r s t = cc

pub carried : {A B C D E : Type 0} (P : A → B → C → D → E → Type 0) {a a' : A} {b b' : B} {c c' : C} {d d' : D} {e e' : E} → a ≡ a' → b ≡ b' → c ≡ c' →
    d ≡ d' → e ≡ e' → P a' b' c' d' e' → P a b c d e
carried P p q r s t h = rw (p, q, r, s, t) h

module _ (t w₀ w₁ : List ℕ) (u : Running) (table : is_table t ≡ true) (long : 12288 ≤ length w₀) (allowance : ℕ) (most : allowance ≤ 1000000)
    (B : BegunStart t w₀ w₁ u) where
  abbrev listing : Listing
  listing = table_listing t

  pub fits : TableFits listing
  fits = table_fits t table

  unfoldable pub may_run : MayRunOn t w₁ 0 allowance u
  may_run =
      record {
        size = omega (arith, B.size, long);
        table = table;
        fits = fits;
        triggers = λ (o : Owner). [];
        lists = B.lists;
        reached = carried (λ ρ v q l k. Reached listing 0 (λ (o : Owner). []) fits allowance ρ v q l k u.me) B.rows B.environment B.ready_slots B.live
            B.woken (start_reaches listing fits u.me B.slot allowance);
        placed = B.placed;
        clean = B.clean;
        few = omega (arith, B.woken, most);
      }

  module _ (w₂ : List ℕ) (ran : Ran) (R : RunsOn t w₁ w₂ 0 allowance u ran) where
    pub ran_is : start_on_rows listing u.me allowance ≡ ran_by (environment_size listing) w₂ ran
    unfolding start_on_rows may_run
    ran_is =
        five (λ ρ v q l k. run_rows listing 0 (λ o. []) allowance ρ v q l k u.me) (sym B.rows) (sym B.environment) (sym B.ready_slots) (sym B.live)
        (sym B.woken) ∙ R.outcome may_run

    unfoldable pub may_conclude : MayConclude t w₂ 0 allowance ran
    may_conclude =
        record {
          size = omega (arith, R.stays.outside.size, B.size, long);
          table = table;
          answer = start listing allowance;
          same = subst (SameOutcome listing 0 allowance (start listing allowance)) ran_is (start_on_rows_lem listing fits u.me B.slot allowance);
          states = λ d e. (start_leaves_state listing allowance (literals_are_words t table) d e).is_state;
          clean = R.clean;
        }

    pub start_concludes : (w₃ numbers values numbers' values' : List ℕ) (r : Answer) →
        Concludes listing w₂ numbers values w₃ numbers' values' may_conclude.answer r →
        Concludes listing w₀ numbers values w₃ numbers' values' (start listing allowance) r
    unfolding may_conclude
    start_concludes w₃ numbers values numbers' values' r C =
        concludes_from listing w₀ w₂ w₃ numbers values numbers' values' (start listing allowance) r
        (R.stays.outside.size ∙ B.size) (R.stays.outside.past ∙ B.past) C
