-- The start and an instant as a whole: due writes, inputs, the visit, outputs listed, next moment due.
use Rattle.std.specs.Prelude.{Bool, true, false, List, [], ◌∷◌, ℕ, suc, ◌+◌, ◌-◌, leb, drop, replicate}
use Rattle.listing.specs.Listing.{Listing, Call}
use Rattle.walk.specs.State.{Waiting, idle, due, Variable, new_variable, made_due, unmarked_of, Node, node, Forest, empty, more, live_in_forest, State, Running, new_running, Turn, Result, ok, ◌>>=◌}
use Rattle.walk.specs.Memory.{input_at, consecutive}
use Rattle.walk.specs.Walk.{new_routine, begin, run, visit_forest}

-- ── rule 1: "Every waiting write due at t is made, and is gone." ──────────────────────────────────
unfoldable pub due_writes : ℕ → List Variable → List Variable
due_writes t [] = []
due_writes t (x ∷ xs) = made_due t x ∷ due_writes t xs

unfoldable mutual
  pub due_in_node : Node → ℕ → Node
  due_in_node (node r place names own children) t = node r place names (due_writes t own) (due_in_forest children t)

  pub due_in_forest : Forest → ℕ → Forest
  due_in_forest empty t = empty
  due_in_forest (more n ns) t = more (due_in_node n t) (due_in_forest ns t)

-- A write of a number: an input's or an output's, with its value.
pub record Write : Type 0 where
  pub number : ℕ
  pub value : ℕ

-- "Then the call's inputs are written."
unfoldable pub apply_inputs : ℕ → List Write → List Variable → List Variable
apply_inputs t [] environment = environment
apply_inputs t (w ∷ ws) environment = apply_inputs t ws (input_at t environment w.number w.value)

-- ── after the visit: the marks of this instant go ─────────────────────────────────────────────────
unfoldable pub unmarked : List Variable → List Variable
unmarked [] = []
unmarked (x ∷ xs) = unmarked_of x ∷ unmarked xs

unfoldable mutual
  pub unmarked_node : Node → Node
  unmarked_node (node r place names own children) = node r place names (unmarked own) (unmarked_forest children)

  pub unmarked_forest : Forest → Forest
  unmarked_forest empty = empty
  unmarked_forest (more n ns) = more (unmarked_node n) (unmarked_forest ns)

-- ── "the next moment due or none" ─────────────────────────────────────────────────────────────────
pub data NextDue : Type 0 where
  never : NextDue
  moment : ℕ → NextDue

unfoldable pub earlier_of : Bool → ℕ → ℕ → NextDue
earlier_of true a b = moment a
earlier_of false a b = moment b

unfoldable pub earlier : NextDue → NextDue → NextDue
earlier never y = y
earlier (moment a) never = moment a
earlier (moment a) (moment b) = earlier_of (leb a b) a b

unfoldable pub due_of : Waiting → NextDue
due_of idle = never
due_of (due m v) = moment m

unfoldable pub due_of_variables : List Variable → NextDue
due_of_variables [] = never
due_of_variables (x ∷ xs) = earlier (due_of x.waiting) (due_of_variables xs)

unfoldable mutual
  pub due_of_node : Node → NextDue
  due_of_node (node r place names own children) = earlier (due_of_variables own) (due_of_forest children)

  pub due_of_forest : Forest → NextDue
  due_of_forest empty = never
  due_of_forest (more n ns) = earlier (due_of_node n) (due_of_forest ns)

unfoldable pub next_due : State → NextDue
next_due s = earlier (due_of_variables s.environment) (due_of_forest s.tree)

-- ── "Outputs written in the instant .. (number, final value), rising by number" ───────────────────
unfoldable pub listed_if : Bool → ℕ → ℕ → List Write → List Write
listed_if true n v ws = record { number = n; value = v } ∷ ws
listed_if false n v ws = ws

-- The written ones of the variables numbered from n on.
unfoldable pub written_from : ℕ → List Variable → List Write
written_from n [] = []
written_from n (x ∷ xs) = listed_if x.written n x.value (written_from (suc n) xs)

-- The report's order stands here alone.
unfoldable pub written_outputs : Listing → List Variable → List Write
written_outputs listing environment = written_from listing.inputs (drop listing.inputs environment)

-- ── what an instant gives ─────────────────────────────────────────────────────────────────────────
-- The state after it, the steps used, the outputs listed, the waits passed. (The next moment due is `next_due` of the state.)
pub record Done : Type 0 where
  pub state : State
  pub steps : ℕ
  pub listed : List Write
  pub woken : ℕ

unfoldable pub finish : Listing → ℕ → ℕ → Turn → Result Done
finish listing t allowance a =
    ok (record {
      state = record { now = t; environment = unmarked a.running.memory; tree = unmarked_forest a.tree };
      steps = allowance - a.running.left;
      listed = written_outputs listing a.running.memory;
      woken = a.running.woken;
    })

-- "Main has i + o arguments, all `r`: the environment's variables, inputs first."
unfoldable pub environment_size : Listing → ℕ
environment_size listing = listing.inputs + listing.outputs

unfoldable pub main_call : Listing → Call
main_call listing = record { callee = 0; arguments = consecutive (environment_size listing) 0 }

unfoldable pub environment_names : Listing → List ℕ
environment_names listing = consecutive (environment_size listing) 0

-- "The start is the instant 0, with main newly called and no inputs": main, what is running then, and main's turn.
abbrev pub new_environment : Listing → List Variable
new_environment listing = replicate (environment_size listing) (new_variable 0 0)

abbrev pub new_main : Listing → Node
new_main listing = new_routine listing 0 (new_environment listing) (environment_names listing) (main_call listing)

abbrev pub at_start : Listing → ℕ → Running
at_start listing allowance = new_running (new_environment listing) allowance 1

abbrev pub start_turn : Listing → ℕ → Result Turn
start_turn listing allowance = begin (run listing 0 allowance) 0 (new_main listing) (at_start listing allowance)

unfoldable pub start : Listing → ℕ → Result Done
start listing allowance = start_turn listing allowance >>= finish listing 0 allowance

-- "An instant at t": rule 1, then the visit.
abbrev pub at_instant : State → ℕ → List Write → ℕ → Running
at_instant s t inputs allowance = new_running (apply_inputs t inputs (due_writes t s.environment)) allowance (live_in_forest (due_in_forest s.tree t))

abbrev pub instant_turn : Listing → State → ℕ → List Write → ℕ → Result Turn
instant_turn listing s t inputs allowance = visit_forest listing t (due_in_forest s.tree t) 0 (at_instant s t inputs allowance)

unfoldable pub instant : Listing → State → ℕ → List Write → ℕ → Result Done
instant listing s t inputs allowance = instant_turn listing s t inputs allowance >>= finish listing t allowance
