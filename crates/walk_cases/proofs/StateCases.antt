-- Cases of what lies behind the answers: the state that a start and an instant leave, the waits passed, and what is told of a run.
use mathlib.Core.Path.{◌≡◌, refl}
use mathlib.Core.Bool.{false}
use mathlib.Core.List.{List, [], ◌∷◌, ◌++◌}
use Prim.Native.Nat.{ℕ}
use Prim.Native.String.{String}
use Rattle.listing.specs.Bytes.{bytes_of}
use Rattle.listing.specs.Listing.{Listing}
use Rattle.listing.specs.Load as Load
use Rattle.listing.specs.Load.{Loading}
use Rattle.listing.specs.Evaluation.{load}
use Rattle.walk.specs.State.{Waiting, idle, due, Variable, node, Forest, empty, more}
use Rattle.walk.specs.Calls.{Machine, halted, running, Outcome, refused, stopped, done, start_on}
use Rattle.walk.specs.Events.{Event}
use Rattle.walk.specs.Runs.{InstantCall, Run, Answered, answers_from, machine_after, accepted_inputs, reported_writes, time_of}
use Rattle.walk.specs.Evaluation.{calls_quoted}
use Rattle.walk.specs.Paper.{tick}
use Rattle.walk.proofs.Cases.{shown, pressed, too_short_lem, ◌≔◌}

-- What is told of a quoted listing; nothing where it is refused.
unfoldable pub if_loaded : {A : Type 0} → (Listing → List A) → Loading → List A
if_loaded f (Load.refused number place) = []
if_loaded f (Load.loaded listing) = f listing

unfoldable pub quoted : {A : Type 0} → (Listing → List A) → String → List A
unfolding calls_quoted shown if_loaded
quoted f listing = if_loaded f (load (bytes_of (shown listing)))

-- ── states ────────────────────────────────────────────────────────────────────────────────────────
-- The machine, and what it is after each call.
unfoldable pub machines_after : Machine → List Answered → List Machine
unfolding calls_quoted
machines_after m [] = m ∷ []
machines_after m (a ∷ xs) = m ∷ machines_after (machine_after m a.outcome) xs

-- The machine after the start (allowance 10,000) and after each call.
unfoldable pub machines : List InstantCall → Listing → List Machine
unfolding calls_quoted machines_after
machines calls listing = let m = machine_after (halted 0) (start_on listing 10000) in machines_after m (answers_from listing m calls)

abbrev pub variable : ℕ → Waiting → Variable
variable v w = record { value = v; written = false; waiting = w }

-- Main has the environment's two variables (addresses 0 and 1) and one of its own (2). It forks a child that has the input
-- by reference and a copy of main's variable (3), and a child that ends at once.
abbrev pub two_children : String
two_children = "P|1|1\nR|rr|1\nS|1|#4\nS|2|#6\nA|2|#9|#3\nF|1 0 2|2\nE\nR|rv|0\nA|1|#2|#5\nW|0\nE\nR|-|0\nE\n"

-- Main at its `F`, the live child at its `W`.
abbrev pub one_asleep : Forest
one_asleep =
    more (node 0 3 (0 ∷ 1 ∷ 2 ∷ []) (variable 6 (due 9 3) ∷ [])
    (more (node 1 1 (0 ∷ 3 ∷ []) (variable 6 (due 2 5) ∷ []) empty) empty)) empty

-- The start leaves no marks; a refused call leaves the machine as it is; with main's end the environment is left. A stop leaves its number.
pub states-are-as-stated :
    quoted (machines (tick 3 ∷ pressed 1 7 ∷ [])) two_children ++ quoted (machines (tick 1 ∷ [])) "P|0|0\nR|-|0\nF|0\nE\n" ≡
    running (record { now = 0; environment = variable 0 idle ∷ variable 4 idle ∷ []; tree = one_asleep }) ∷
    running (record { now = 0; environment = variable 0 idle ∷ variable 4 idle ∷ []; tree = one_asleep }) ∷
    running (record { now = 1; environment = variable 7 idle ∷ variable 4 idle ∷ []; tree = empty }) ∷ halted 15 ∷ halted 15 ∷ []
unfolding quoted machines
states-are-as-stated = refl

-- ── "A waiting routine is woken at most once in an instant." ──────────────────────────────────────
unfoldable pub woken : Outcome → ℕ
woken (refused k) = 0
woken (stopped k) = 0
woken (done d) = d.woken

unfoldable pub woken_in : List Answered → List ℕ
unfolding woken
woken_in [] = []
woken_in (a ∷ xs) = woken a.outcome ∷ woken_in xs

-- The waits passed in the start and in each call.
unfoldable pub wakings : List InstantCall → Listing → List ℕ
unfolding calls_quoted woken_in
wakings calls listing = let o = start_on listing 10000 in woken o ∷ woken_in (answers_from listing (machine_after (halted 0) o) calls)

-- Listing B of document 01: the input wakes the first child, whose write wakes the second. Then a wait on one name twice,
-- that loops to itself; and two siblings, of which the second writes what the first waits on.
pub wakings-are-as-stated :
    quoted (wakings (tick 9 ∷ pressed 10 3 ∷ [])) "P|1|1\nR|rr|1\nF|1 0 2|2 2 1\nE\nR|rr|0\nW|0\nS|1|0\nE\nR|rr|0\nW|0\nS|1|#7\nE\n"
    ++ quoted (wakings (pressed 1 4 ∷ pressed 2 4 ∷ [])) "P|1|1\nR|rr|0\nW|0 0\nS|0|#1\nG|0\n"
    ++ quoted (wakings (pressed 1 1 ∷ tick 2 ∷ [])) "P|1|1\nR|rr|1\nF|1 2 1|2 0 2\nE\nR|rr|0\nW|0\nS|1|1 #1 +\nG|0\nR|rr|0\nW|0\nS|1|#1\nG|0\n"
    ≡ 0 ∷ 0 ∷ 2 ∷ 0 ∷ 1 ∷ 1 ∷ 0 ∷ 1 ∷ 0 ∷ []
unfolding quoted wakings
wakings-are-as-stated = refl

-- ── runs ──────────────────────────────────────────────────────────────────────────────────────────
-- What is told of a run: its accepted inputs, its reported writes, its time.
pub record Told : Type 0 where
  pub inputs : List Event
  pub writes : List Event
  pub time : ℕ

unfoldable pub told_after : Listing → List InstantCall → Outcome → List Told
unfolding calls_quoted
told_after listing calls (refused k) = []
told_after listing calls (stopped k) = []
told_after listing calls (done d) =
    let run : Run = record { listing = listing; allowance = 10000; calls = calls } in
    record { inputs = accepted_inputs run d; writes = reported_writes run d; time = time_of run d } ∷ []

unfoldable pub told : List InstantCall → Listing → List Told
unfolding calls_quoted told_after
told calls listing = told_after listing calls (start_on listing 10000)

abbrev pub event : ℕ → ℕ → ℕ → Event
event t n v = record { moment = t; number = n; value = v }

-- Calls refused with 10, 1 and 9 stand between those accepted; in the second run the second press stops the machine.
pub runs-are-told-as-stated :
    quoted (told (pressed 5 9 ∷ pressed 3 8 ∷ too_short_lem 4 (0 ≔ 7 ∷ []) 10000 ∷ tick 4 ∷ pressed 4 6 ∷ pressed 7 6 ∷ []))
    "P|1|1\nR|rr|0\nS|1|#2\nA|1|#4|#1\nW|0\nS|1|0\nG|2\n"
    ++ quoted (told (pressed 2 3 ∷ pressed 4 0 ∷ tick 5 ∷ [])) "P|1|1\nR|rr|0\nW|0\nA|1|0|#1\nG|0\n"
    ≡ record {
      inputs = event 3 0 8 ∷ event 7 0 6 ∷ [];
      writes = event 0 1 2 ∷ event 3 1 8 ∷ event 4 1 1 ∷ event 7 1 6 ∷ [];
      time = 7;
    } ∷ record { inputs = event 2 0 3 ∷ []; writes = []; time = 2 } ∷ []
unfolding quoted told
runs-are-told-as-stated = refl
