-- The running rows that an instant reaches: an invariant that every instruction keeps, and the bounds that it gives.
-- Letters as in Place and Held; left is the number of steps left.
use mathlib.Core.Path.{◌≡◌, refl, sym, ap, ap₂, subst, ◌∙◌}
use mathlib.Core.Bool.{false}
use mathlib.Core.List.{List, [], ◌∷◌}
use Prim.Native.Nat.{ℕ, zero, suc}
use native.Mathlib.Omega.{arith}
use Rattle.listing.specs.Listing.{Listing}
use Rattle.walk.specs.State.{Variable, Result, Turn}
use Rattle.walk.specs.Walk.{instruction_at}
use Rattle.engine_rows.specs.Rows.{Owner, in_environment, in_slot, Rows, no_rows}
use Rattle.engine_rows.specs.Engine.{RowsResult, halts, ends, RowsRunner, next_ready, execute_rows}
use Rattle.engine_rows.proofs.Place.{Tree, ◌⋈◌, Frame, plug}
use Rattle.engine_rows.proofs.EngineState.{Idle}
use Rattle.engine_rows.proofs.Steady.{TableFits}
use Rattle.engine_rows.proofs.Outcomes.{Sound, Goal, idle_as_walk}
use Rattle.engine_rows.proofs.Loop.{instruction_as_walk, place_is, routine_is}
pub use Rattle.engine_rows.specs.Reached.{Reached}

module _ (listing : Listing) (now : ℕ) (triggers : Owner → List ℕ) (T : TableFits listing) where
  -- ── the next state, observed by an outcome ────────────────────────────────────────────────────────
  -- a runner that only says where it was started
  unfoldable pub slot_owners : List ℕ → List Owner
  slot_owners [] = []
  slot_owners (s ∷ ss) = in_slot s 0 ∷ slot_owners ss

  unfoldable owner_slot : Owner → ℕ
  owner_slot (in_environment a) = a
  owner_slot (in_slot s i) = s

  unfoldable owner_slots : List Owner → List ℕ
  owner_slots [] = []
  owner_slots (o ∷ os) = owner_slot o ∷ owner_slots os

  slots_back : (ss : List ℕ) → owner_slots (slot_owners ss) ≡ ss
  unfolding slot_owners owner_slots owner_slot
  slots_back [] = refl
  slots_back (s ∷ ss) = ap (λ l. s ∷ l) (slots_back ss)

  unfoldable pub observed : Rows → List ℕ → ℕ → Rows
  observed σ ready me zero =
      record {
        used = false;
        asleep = false;
        level = 0;
        parent = 0;
        child = 0;
        base = 0;
        children = 0;
        low = 0;
        bits = 0;
        routine = 0;
        place = me;
        bindings = slot_owners ready;
        own = [];
      }
  observed σ ready me (suc n) = σ n

  unfoldable pub observer : ℕ → RowsRunner
  observer left σ environment ready live woken me = ends (observed σ ready me) environment (suc left) live woken

  pub data Observed (left : ℕ) : RowsResult → Type 0 where
    observed_stop : {k : ℕ} → Observed left (halts k)
    observed_end : {σ : Rows} {environment : List Variable} {live woken : ℕ} → Observed left (ends σ environment left live woken)
    observed_next : {σ : Rows} {environment : List Variable} {ready : List ℕ} {live woken me : ℕ} → Reached listing now triggers T left σ environment ready live woken me →
        Observed left (ends (observed σ ready me) environment (suc left) live woken)

  -- what an end says
  unfoldable rows_in : RowsResult → Rows
  rows_in (halts k) = no_rows
  rows_in (ends σ environment left live woken) = σ

  unfoldable environment_in : RowsResult → List Variable
  environment_in (halts k) = []
  environment_in (ends σ environment left live woken) = environment

  unfoldable left_in : RowsResult → ℕ
  left_in (halts k) = 0
  left_in (ends σ environment left live woken) = left

  unfoldable live_in : RowsResult → ℕ
  live_in (halts k) = 0
  live_in (ends σ environment left live woken) = live

  unfoldable woken_in : RowsResult → ℕ
  woken_in (halts k) = 0
  woken_in (ends σ environment left live woken) = woken

  unfoldable unobserved : Rows → Rows
  unobserved τ n = τ (suc n)

  rows_back : (σ : Rows) (ready : List ℕ) (me : ℕ) → unobserved (observed σ ready me) ≡ σ
  unfolding observed unobserved
  rows_back σ ready me = refl

  ready_back : (σ : Rows) (ready : List ℕ) (me : ℕ) → owner_slots (observed σ ready me 0).bindings ≡ ready
  unfolding observed
  ready_back σ ready me = slots_back ready

  me_back : (σ : Rows) (ready : List ℕ) (me : ℕ) → (observed σ ready me 0).place ≡ me
  unfolding observed
  me_back σ ready me = refl

  pub reached_observed : (left : ℕ) (r : RowsResult) (σ : Rows) (environment : List Variable) (ready : List ℕ) (live woken me : ℕ) → Observed left r →
      r ≡ observer left σ environment ready live woken me → Reached listing now triggers T left σ environment ready live woken me
  unfolding observer rows_in environment_in left_in live_in woken_in
  reached_observed left _ σ environment ready live woken me (observed_stop {k = k}) e = let z : ◌≡◌ {A = ℕ} 0 (suc left) = ap left_in e in absurd (omega arith)
  reached_observed left _ σ environment ready live woken me observed_end e = let z : left ≡ suc left = ap left_in e in absurd (omega arith)
  reached_observed left _ σ environment ready live woken me (observed_next {σ = σ₀} {environment = environment₀} {ready = ready₀} {live = live₀}
      {woken = woken₀} {me = me₀} R) e =
      let rows : observed σ₀ ready₀ me₀ ≡ observed σ ready me = ap rows_in e in
      let a : σ₀ ≡ σ = sym (rows_back σ₀ ready₀ me₀) ∙ ap unobserved rows ∙ rows_back σ ready me in
      let b : ready₀ ≡ ready = sym (ready_back σ₀ ready₀ me₀) ∙ ap (λ (τ : Rows). owner_slots (τ 0).bindings) rows ∙ ready_back σ ready me in
      let c : me₀ ≡ me = sym (me_back σ₀ ready₀ me₀) ∙ ap (λ (τ : Rows). (τ 0).place) rows ∙ me_back σ ready me in
      subst (λ x. Reached listing now triggers T left x environment ready live woken me) a (subst (λ x. Reached listing now triggers T left σ₀ x ready live woken me) (ap environment_in e)
      (subst (λ x. Reached listing now triggers T left σ₀ environment₀ x live woken me) b (subst (λ x. Reached listing now triggers T left σ₀ environment₀ ready₀ x woken me) (ap live_in e)
      (subst (λ x. Reached listing now triggers T left σ₀ environment₀ ready₀ live₀ x me) (ap woken_in e)
      (subst (λ x. Reached listing now triggers T left σ₀ environment₀ ready₀ live₀ woken₀ x) c R)))))

  pub tells : (left : ℕ) (whole : Result Turn) → Goal listing now triggers 4294967296 T left whole (Observed left) (observer left)
  unfolding observer
  tells left whole =
      record {
        deep = λ σ environment q l woken f fs R S. observed_next (record {
          frame = f;
          frames = fs;
          whole = whole;
          runs = R;
          sound = S;
          here = refl;
        });
        stops = λ e. observed_stop;
        finishes = λ h. observed_end;
      }

  -- ── every instruction keeps it ────────────────────────────────────────────────────────────────
  -- If one instruction leaves this state to the rest of the run, whatever that is, the state is reached.
  pub step_reaches : (left : ℕ) (σ σ' : Rows) (environment environment' : List Variable) (ready ready' : List ℕ)
      (live live' woken woken' me me' : ℕ) →
      Reached listing now triggers T (suc left) σ environment ready live woken me →
      ((go : RowsRunner) → execute_rows listing now triggers go left (instruction_at listing (σ me).routine (σ me).place) σ environment ready live
      woken me ≡
      go σ' environment' ready' live' woken' me') →
      Reached listing now triggers T left σ' environment' ready' live' woken' me'
  step_reaches left σ σ' environment environment' ready ready' live live' woken woken' me me' R e =
      reached_observed left _ σ' environment' ready' live' woken' me' outcome (e (observer left))
    where
      mine : ℕ
      mine = R.frame.self.slot

      D : Goal listing now triggers 4294967296 T left R.whole (Observed left) (observer left)
      D = tells left R.whole

      at_mine : Observed left (execute_rows listing now triggers (observer left) left
          (instruction_at listing R.frame.self.routine R.frame.self.place) σ environment ready live woken mine)
      at_mine = instruction_as_walk listing now triggers 4294967296 T left R.whole D σ environment ready live woken R.frame R.frames
          R.runs R.sound _ refl

      outcome : Observed left (execute_rows listing now triggers (observer left) left (instruction_at listing (σ me).routine (σ me).place) σ environment
          ready live woken me)
      outcome = subst (λ z. Observed left (execute_rows listing now triggers (observer left) left (instruction_at listing (σ z).routine (σ z).place) σ
          environment ready live woken z)) (sym R.here)
          (subst (λ z. Observed left (execute_rows listing now triggers (observer left) left z σ environment ready live woken mine))
          (sym (ap₂ (instruction_at listing) (routine_is listing now triggers 4294967296 T left R.whole D σ environment ready live woken R.frame
          R.frames R.runs R.sound)
          (place_is listing now triggers 4294967296 T left R.whole D σ environment ready live woken R.frame R.frames R.runs
          R.sound))) at_mine)

  -- the first that is ready
  pub pop_reaches : (left : ℕ) (σ σ' : Rows) (environment environment' : List Variable) (ready ready' : List ℕ) (live live' woken woken' me' : ℕ)
      (fs : List Frame) (d t : Tree) (whole : Result Turn) → Idle listing now triggers 4294967296 σ environment ready left live woken fs d t whole →
      Sound listing now triggers 4294967296 T σ environment live (plug fs (d ⋈ t)) →
      ((go : RowsRunner) → next_ready go left σ environment ready live woken ≡ go σ' environment' ready' live' woken' me') →
      Reached listing now triggers T left σ' environment' ready' live' woken' me'
  pop_reaches left σ σ' environment environment' ready ready' live live' woken woken' me' fs d t whole I S e =
      reached_observed left _ σ' environment' ready' live' woken' me'
      (idle_as_walk listing now triggers 4294967296 T left whole (tells left whole) σ environment ready live woken fs d t I S) (e (observer left))
