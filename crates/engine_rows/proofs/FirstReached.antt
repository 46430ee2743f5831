-- The states with which an instant and the start begin to run are reached.
-- Letters as in Place and Held.
use mathlib.Core.Path.{◌≡◌, refl}
use mathlib.Core.Bool.{true}
use mathlib.Core.List.{List, []}
use Prim.Native.Nat.{ℕ, ◌<◌}
use Rattle.listing.specs.Listing.{Listing}
use Rattle.walk.specs.State.{Variable, live_in_forest, State}
use Rattle.walk.specs.Instant.{due_writes, Write, apply_inputs, environment_names, main_call, start_turn}
use Rattle.walk.specs.Question7.{IsState}
use Rattle.engine_rows.specs.Rows.{Owner, Rows, no_rows, with_row}
use Rattle.engine_rows.specs.Triggers.{ready_of}
use Rattle.engine_rows.specs.Engine.{RowsRunner, next_ready}
use Rattle.engine_rows.specs.Beginning.{due_in_rows, main_row, new_environment}
use Rattle.engine_rows.proofs.Place.{nil}
use Rattle.engine_rows.proofs.Priority.{new_child}
use Rattle.engine_rows.proofs.Moves.{placed, focus}
use Rattle.engine_rows.proofs.Waking.{Triggers}
use Rattle.engine_rows.proofs.Steady.{TableFits}
use Rattle.engine_rows.proofs.Holds.{Holds}
use Rattle.engine_rows.proofs.InstantOnRows.{visit_at, instant_meets}
use Rattle.engine_rows.proofs.StartOnRows.{main_runs, main_sound}
use Rattle.engine_rows.proofs.Reachable.{Reached, observer, tells, reached_observed}

-- If the beginning of an instant leaves this state to the rest of the run, whatever that is, the state is reached.
pub instant_reaches : (listing : Listing) (t : ℕ) (triggers : Owner → List ℕ) (T : TableFits listing) (s : State) → IsState listing s →
    (σ : Rows) (environment : List Variable) → Holds true listing σ environment s → (inputs : List Write) (allowance : ℕ) →
    Triggers listing (due_in_rows t σ) triggers →
    (σ' : Rows) (environment' : List Variable) (ready' : List ℕ) (live' woken' me' : ℕ) →
    ((go : RowsRunner) → next_ready go allowance (due_in_rows t σ) (apply_inputs t inputs (due_writes t environment))
    (ready_of listing (due_in_rows t σ) (apply_inputs t inputs (due_writes t environment))) (live_in_forest s.tree) 0 ≡ go σ' environment' ready' live'
    woken' me') →
    Reached listing t triggers T allowance σ' environment' ready' live' woken' me'
instant_reaches listing t triggers T s I σ environment H inputs allowance tr σ' environment' ready' live' woken' me' e =
    reached_observed listing t triggers T allowance _ σ' environment' ready' live' woken' me'
    (instant_meets listing t triggers T s I σ environment H inputs allowance
    (tells listing t triggers T allowance (visit_at listing t triggers T s σ environment H inputs allowance)) tr)
    (e (observer listing t triggers T allowance))

-- Main, newly called, in slot s.
pub start_reaches : (listing : Listing) (T : TableFits listing) (s : ℕ) → s < 64 → (allowance : ℕ) →
    Reached listing 0 (λ o. []) T allowance (with_row no_rows s (main_row listing (new_environment listing) s)) (new_environment listing) [] 1 0 s
unfolding focus placed new_child
start_reaches listing T s small allowance =
    record {
      frame = focus (placed (new_child listing 0 (new_environment listing) (environment_names listing) (main_call listing) 0 s 0 32) 0) nil nil;
      frames = [];
      whole = start_turn listing allowance;
      runs = main_runs listing T s small allowance;
      sound = main_sound listing T s small;
      here = refl;
    }
