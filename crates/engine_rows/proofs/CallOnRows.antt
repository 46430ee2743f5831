-- A whole instant call on rows: from what is kept of a state, through the pass, the instant and the clearing of marks, to what is kept of the next state.
-- Letters as in Place and Held.
use mathlib.Core.Path.{◌≡◌}
use mathlib.Core.Bool.{true, false}
use mathlib.Core.List.{List}
use Prim.Native.Nat.{ℕ, ◌<◌}
use Rattle.listing.specs.Listing.{Listing}
use Rattle.walk.specs.State.{Variable, live_in_forest, State}
use Rattle.walk.specs.Instant.{due_writes, Write, apply_inputs, Done, instant}
use Rattle.walk.specs.Question7.{IsState}
use Rattle.engine_rows.specs.Rows.{Rows}
use Rattle.engine_rows.specs.Beginning.{due_in_rows, unmarked_rows, instant_on_rows}
use Rattle.engine_rows.specs.Records.{kept_in, kept_of, filled_rows}
use Rattle.engine_rows.proofs.Sorted.{In}
use Rattle.engine_rows.proofs.Steady.{TableFits}
use Rattle.engine_rows.proofs.Folding.{Distinct}
use Rattle.engine_rows.proofs.Holds.{Holds}
use Rattle.engine_rows.proofs.InstantOnRows.{Agrees, SameOutcome, instant_on_rows_lem}
use Rattle.engine_rows.proofs.CallBeginning.{filled_holds}
use Rattle.engine_rows.proofs.CallEnd.{Left, left_by_rows}

-- What a call finds: in the slots of this list, and in no others, what is kept of the state's routines in walking order; nobody is marked.
pub record Keeps (listing : Listing) (σ : Rows) (slots : List ℕ) (s : State) (state : IsState listing s) : Type 0 where
  pub kept : kept_in σ slots ≡ kept_of state.tree 0
  pub distinct : Distinct slots
  pub small : (n : ℕ) → In n slots → n < 64
  pub whole : (n : ℕ) → (σ n).used ≡ true → In n slots
  pub unmarked : (n : ℕ) → (σ n).asleep ≡ true → In n slots

module _ (listing : Listing) (T : TableFits listing) where
  -- The rows after the pass.
  pub pass_holds : (s : State) (state : IsState listing s) (σ : Rows) (slots : List ℕ) (latest : ℕ → ℕ) → Keeps listing σ slots s state →
      Holds true listing (filled_rows listing σ s.environment latest slots) s.environment s
  pass_holds s state σ slots latest K =
      filled_holds listing T s.environment state.size σ latest s.now state.tree slots K.distinct K.small K.kept K.whole
      K.unmarked

  -- The instant from there.
  pub instant_call_lem : (s : State) (state : IsState listing s) (σ : Rows) (slots : List ℕ) (latest : ℕ → ℕ) → Keeps listing σ slots s state →
      (t : ℕ) (inputs : List Write) (allowance : ℕ) →
      SameOutcome listing t allowance (instant listing s t inputs allowance)
      (instant_on_rows listing t (due_in_rows t (filled_rows listing σ s.environment latest slots))
      (apply_inputs t inputs (due_writes t s.environment)) (live_in_forest s.tree) allowance)
  instant_call_lem s state σ slots latest K t inputs allowance =
      instant_on_rows_lem listing T s state (filled_rows listing σ s.environment latest slots) s.environment (pass_holds s state σ slots latest K) t
      inputs allowance

  -- What it leaves for the next call, the next state being one of question 7 again.
  pub call_leaves : (t allowance : ℕ) (d : Done) (σ : Rows) (environment : List Variable) (left live woken : ℕ) →
      Agrees listing t allowance d σ environment left live woken →
      IsState listing d.state → Left listing (unmarked_rows σ) d.state
  call_leaves t allowance d σ environment left live woken A state = left_by_rows listing (unmarked_rows σ) _ d.state false A.after state
