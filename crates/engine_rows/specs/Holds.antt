-- Rows and environment that hold a state of the walk; an outcome on rows that is the walk's.
-- Letters as in Tree and Held.
use Rattle.std.specs.Prelude.{◌≡◌, Bool, true, false, List, [], ℕ, zero, suc, ◌+◌, ◌-◌, ◌≤◌, length}
use Rattle.listing.specs.Listing.{Listing}
use Rattle.walk.specs.State.{Variable, live_in_forest, State, Result, stop, ok}
use Rattle.walk.specs.Instant.{unmarked, unmarked_forest, written_outputs, Done, next_due}
use Rattle.engine_rows.specs.Rows.{Rows}
use Rattle.engine_rows.specs.Engine.{RowsResult, halts, ends}
use Rattle.engine_rows.specs.Beginning.{unmarked_rows, next_due_of_rows}
use Rattle.engine_rows.specs.Tree.{Tree, erase, slots_of, In, Range, AllBegun}
use Rattle.engine_rows.specs.Held.{Held}
use Rattle.engine_rows.specs.Steady.{SteadyTree}

unfoldable pub one : Bool → ℕ
one true = 1
one false = 0

unfoldable pub used_below : Rows → ℕ → ℕ
used_below σ zero = 0
used_below σ (suc n) = one (σ n).used + used_below σ n

-- With `marks`, the routines asleep since before this instant are marked so, and nobody else.
pub record Holds (marks : Bool) (listing : Listing) (σ : Rows) (environment : List Variable) (state : State) : Type 0 where
  pub environment_is : environment ≡ state.environment
  pub tree : Tree
  pub tree_is : erase tree ≡ state.tree
  pub held : Held σ marks [] (length environment) tree
  pub range : Range 0 4294967296 tree
  pub steady : SteadyTree listing environment tree
  pub begun : AllBegun tree
  pub whole : (s : ℕ) → (σ s).used ≡ true → In s (slots_of tree)
  pub marked : marks ≡ true → (s : ℕ) → (σ s).asleep ≡ true → In s (slots_of tree)

unfoldable pub unmarked_state : State → State
unmarked_state s = record { now = s.now; environment = unmarked s.environment; tree = unmarked_forest s.tree }

-- What the walk's answer d of an instant at t has in common with rows, environment, steps left, live routines and waits passed at the end.
pub record Agrees (listing : Listing) (t allowance : ℕ) (d : Done) (σ : Rows) (environment : List Variable) (left live woken : ℕ) : Type 0 where
  pub within : left ≤ allowance
  pub steps : d.steps ≡ allowance - left
  pub passed : d.woken ≡ woken
  pub listed : d.listed ≡ written_outputs listing environment
  pub number : live ≡ live_in_forest d.state.tree
  -- before the written marks are cleared
  pub last : State
  pub moment : last.now ≡ t
  pub before : Holds false listing σ environment last
  pub state : d.state ≡ unmarked_state last
  -- and after
  pub after : Holds false listing (unmarked_rows σ) (unmarked environment) d.state
  pub due : next_due_of_rows σ environment ≡ next_due d.state

pub data SameOutcome (listing : Listing) (t allowance : ℕ) : Result Done → RowsResult → Type 0 where
  same_stop : {k : ℕ} → SameOutcome listing t allowance (stop k) (halts k)
  same_done : {d : Done} {σ : Rows} {environment : List Variable} {left live woken : ℕ} → Agrees listing t allowance d σ environment left live woken →
      SameOutcome listing t allowance (ok d) (ends σ environment left live woken)
