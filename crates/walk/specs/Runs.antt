-- Runs: a start and then any list of instant calls on one listing, "refused ones too".
use Rattle.std.specs.Prelude.{◌≡◌, Bool, true, false, List, [], ◌∷◌, ◌++◌, ℕ}
use Rattle.std.proofs.Math.Option.{Option, none, some}
use Rattle.listing.specs.Listing.{Listing}
use Rattle.walk.specs.State.{State}
use Rattle.walk.specs.Instant.{Write, Done}
use Rattle.walk.specs.Events.{Event, events_at}
use Rattle.walk.specs.Calls.{Machine, halted, running, Outcome, refused, stopped, done, ask, unstopped, instant_from, start_on, outcome_listed}

-- One instant call: whether its memories are long enough (question 1), its time, inputs and allowance.
-- "Each call's time, input lists, output lists and allowance are anything, given anew."
pub record InstantCall : Type 0 where
  pub long_enough : Bool
  pub time : ℕ
  pub inputs : List Write
  pub allowance : ℕ

-- What is chosen in a run: its listing, the start's allowance and the instant calls. (That it is halved, loaded and started: halves `RunFor`.)
pub record Run : Type 0 where
  pub listing : Listing
  pub allowance : ℕ
  pub calls : List InstantCall

-- The call's outcome: the table is the run's and passes question 6, the machine is as the call before left it and passes 7.
unfoldable pub call_on : Listing → Machine → InstantCall → Outcome
call_on listing m c = ask 1 c.long_enough (unstopped m λ (s : State). instant_from listing s c.time c.inputs c.allowance)

-- What the machine is after an outcome.
unfoldable pub machine_after : Machine → Outcome → Machine
machine_after m (refused k) = m
machine_after m (stopped k) = halted k
machine_after m (done d) = running d.state

-- A call with its outcome.
pub record Answered : Type 0 where
  pub call : InstantCall
  pub outcome : Outcome

unfoldable pub answers_from : Listing → Machine → List InstantCall → List Answered
answers_from listing m [] = []
answers_from listing m (c ∷ cs) =
    let o = call_on listing m c in record { call = c; outcome = o } ∷ answers_from listing (machine_after m o) cs

-- ── from any memory ───────────────────────────────────────────────────────────────────────────────
-- What a machine's words stand for, if they pass question 7; where they do not, every call is refused, under 1 or 7, and leaves them so.
unfoldable pub call_on_found : Listing → Option Machine → InstantCall → Outcome
call_on_found listing none c = ask 1 c.long_enough (refused 7)
call_on_found listing (some m) c = call_on listing m c

unfoldable pub found_after_lem : Option Machine → Outcome → Option Machine
found_after_lem m (refused k) = m
found_after_lem m (stopped k) = some (halted k)
found_after_lem m (done d) = some (running d.state)

unfoldable pub answers_from_found : Listing → Option Machine → List InstantCall → List Answered
answers_from_found listing m [] = []
answers_from_found listing m (c ∷ cs) =
    let o = call_on_found listing m c in record { call = c; outcome = o } ∷ answers_from_found listing (found_after_lem m o) cs

-- ── what is told of a run ─────────────────────────────────────────────────────────────────────────
-- "An input is accepted if its call has number 0."
unfoldable pub accepted_by : InstantCall → Outcome → List Event
accepted_by c (refused k) = []
accepted_by c (stopped k) = []
accepted_by c (done d) = events_at c.time c.inputs

unfoldable pub accepted : List Answered → List Event
accepted [] = []
accepted (a ∷ xs) = accepted_by a.call a.outcome ++ accepted xs

-- "Its reported writes are the outputs listed by each call with number 0, as moment, output and value,
-- in the order of the calls and then of the lists".
unfoldable pub reported : List Answered → List Event
reported [] = []
reported (a ∷ xs) = events_at a.call.time (outcome_listed a.outcome) ++ reported xs

-- "The run's time is the t of the last call with number 0, the start's being 0."
unfoldable pub time_after : ℕ → InstantCall → Outcome → ℕ
time_after t c (refused k) = t
time_after t c (stopped k) = t
time_after t c (done d) = c.time

unfoldable pub time_from : ℕ → List Answered → ℕ
time_from t [] = t
time_from t (a ∷ xs) = time_from (time_after t a.call a.outcome) xs

-- "A run is stopped if one of its calls stopped the machine."
pub data Unstopped : List Answered → Type 0 where
  no_call : Unstopped []
  refused_call : {c : InstantCall} {k : ℕ} {xs : List Answered} → Unstopped xs → Unstopped (record { call = c; outcome = refused k } ∷ xs)
  done_call : {c : InstantCall} {d : Done} {xs : List Answered} → Unstopped xs → Unstopped (record { call = c; outcome = done d } ∷ xs)

-- ── a run as a whole ──────────────────────────────────────────────────────────────────────────────
-- The run whose start did d: the answers to its instant calls, its accepted inputs, reported writes and time.
unfoldable pub answers : Run → Done → List Answered
answers run d = answers_from run.listing (running d.state) run.calls

unfoldable pub accepted_inputs : Run → Done → List Event
accepted_inputs run d = accepted (answers run d)

unfoldable pub reported_writes : Run → Done → List Event
reported_writes run d = events_at 0 d.listed ++ reported (answers run d)

unfoldable pub time_of : Run → Done → ℕ
time_of run d = time_from 0 (answers run d)

-- "a start on its table with number 0"
abbrev pub Starts : Run → Done → Type 0
Starts run d = start_on run.listing run.allowance ≡ done d
