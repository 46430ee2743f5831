-- Halved listings, what is one grower's in a run, and demand 3's claim.
use Rattle.std.specs.Prelude.{◌≡◌, Bool, true, false, ◌||◌, ◌&&◌, not, ℕ, eqb}
use mathlib.Core.List.{List, [], ◌∷◌, Memᴰ}
use Rattle.listing.specs.Lists.{all}
use Rattle.listing.specs.Bytes.{Bytes}
use Rattle.listing.specs.Load.{Loads}
use Rattle.listing.specs.Listing.{Listing, Call, fork, end}
use Rattle.listing.specs.Questions.{is_by_reference}
use Rattle.walk.specs.Instant.{Done}
use Rattle.walk.specs.Walk.{routine_at, instruction_at}
use Rattle.walk.specs.Events.{Event}
use Rattle.walk.specs.State.{State}
use Rattle.walk.specs.Memory.{variable_at}
use Rattle.walk.specs.Calls.{Machine, running}
use Rattle.walk.specs.Runs.{Run, Starts, Answered, machine_after, answers, accepted_inputs, reported_writes, time_of}

unfoldable pub among : ℕ → List ℕ → Bool
among n [] = false
among n (m ∷ ms) = eqb n m || among n ms

-- ── halved listings ───────────────────────────────────────────────────────────────────────────────
-- "no name of main stands in both child fields"
unfoldable pub share_none : Call → Call → Bool
share_none c d = all (λ n. not (among n d.arguments)) c.arguments

unfoldable pub all_apart_lem : List Call → Bool
all_apart_lem [] = true
all_apart_lem (c ∷ cs) = all (share_none c) cs && all_apart_lem cs

-- "all arguments of both children are `r`"
unfoldable pub called_by_reference : Listing → Call → Bool
called_by_reference listing c = all is_by_reference (routine_at listing c.callee).kinds

-- "A listing is halved if main has two instructions, an `F` of two children and an `E`, if all arguments of both children are `r`,
-- and if no name of main stands in both child fields." Said of any number of children, one for each grower.
pub record LetTo (growers : List Call) (listing : Listing) : Type 0 where
  pub main : (routine_at listing 0).code ≡ fork growers ∷ end ∷ []
  pub references : all (called_by_reference listing) growers ≡ true
  pub apart : all_apart_lem growers ≡ true

-- "A run is a halved listing loaded with number 0, a start on its table with number 0, and then any list of instant calls".
-- Said of any growers; d is what the start did.
pub record RunFor (growers : List Call) (run : Run) (d : Done) : Type 0 where
  pub let_to : LetTo growers run.listing
  pub text : Bytes
  pub loads : Loads text run.listing
  pub starts : Starts run d

-- Two growers: the listing is halved.
abbrev pub RunOfHalves : Call → Call → Run → Done → Type 0
RunOfHalves first second run d = RunFor (first ∷ second ∷ []) run d

-- ── what is a grower's ────────────────────────────────────────────────────────────────────────────
-- "The first grower has the names in the first field; its inputs and outputs are the inputs and outputs among them."
unfoldable pub kept_if : Bool → Event → List Event → List Event
kept_if true e es = e ∷ es
kept_if false e es = es

unfoldable pub only_of : Call → List Event → List Event
only_of c [] = []
only_of c (e ∷ es) = kept_if (among e.number c.arguments) e (only_of c es)

-- "Its routines are the one forked by that field and whatever a routine already among them forks."
pub data RoutineOf (listing : Listing) (c : Call) : ℕ → Type 0 where
  its_own : RoutineOf listing c c.callee
  forked : {r : ℕ} (place : ℕ) {cs : List Call} {d : Call} → RoutineOf listing c r → instruction_at listing r place ≡ fork cs → Memᴰ d cs →
      RoutineOf listing c d.callee

-- ── demand 3 ──────────────────────────────────────────────────────────────────────────────────────
-- Two runs "that agree in the first line, in main, in the first's routines with their numbers",
pub record AgreeFor (c : Call) (listing listing' : Listing) : Type 0 where
  pub inputs : listing.inputs ≡ listing'.inputs
  pub outputs : listing.outputs ≡ listing'.outputs
  pub main : routine_at listing 0 ≡ routine_at listing' 0
  pub routines : (r : ℕ) → RoutineOf listing c r → routine_at listing r ≡ routine_at listing' r

-- "in the list of accepted inputs (moment, input, value) that are the first's, and in the time. Nothing else need agree."
-- Said of any grower's child field c.
pub record Agree (c : Call) (run run' : Run) (d d' : Done) : Type 0 where
  pub listings : AgreeFor c run.listing run'.listing
  pub accepted : only_of c (accepted_inputs run d) ≡ only_of c (accepted_inputs run' d')
  pub time : time_of run d ≡ time_of run' d'

-- "Then the two lists of the first's reported writes are equal."
abbrev pub SameReports : Call → Run → Run → Done → Done → Type 0
SameReports c run run' d d' = only_of c (reported_writes run d) ≡ only_of c (reported_writes run' d')

-- ── what stands at the end of a run ───────────────────────────────────────────────────────────────
-- The machine that the calls of a run leave: a state, unless one of them stopped it.
unfoldable pub machine_from : Machine → List Answered → Machine
machine_from m [] = m
machine_from m (a ∷ xs) = machine_from (machine_after m a.outcome) xs

unfoldable pub machine_of : Run → Done → Machine
machine_of run d = machine_from (running d.state) (answers run d)

-- A grower's inputs and outputs are equal in two states: in value and in waiting write, with its moment.
abbrev pub SameVariables : Call → State → State → Type 0
SameVariables c s s' = (n : ℕ) → among n c.arguments ≡ true → variable_at s.environment n ≡ variable_at s'.environment n

-- Where both runs leave a state, the grower's inputs and outputs are equal in the two.
abbrev pub SameAtEnd : Call → Run → Run → Done → Done → Type 0
SameAtEnd c run run' d d' = (s s' : State) → machine_of run d ≡ running s → machine_of run' d' ≡ running s' → SameVariables c s s'
