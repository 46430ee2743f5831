-- Two halves on boards: what is told of a board's run by the results that its calls gave and by the lists that they left.
use Rattle.std.specs.Prelude.{◌≡◌, List, [], ◌∷◌, ◌++◌, ℕ, zero, suc}
use Rattle.std.proofs.Math.Option.{some}
use Rattle.listing.specs.Listing.{Listing, Call}
use Rattle.listing.specs.Load.{Loads}
use Rattle.walk.specs.State.{State}
use Rattle.walk.specs.Calls.{Layout, running, first_words, inputs_of}
use Rattle.walk.specs.Events.{Event, events_at}
use Rattle.walk.specs.Boards.{BoardCall, BoardRun, listed_by, board_reported}
use Rattle.walk_halves.specs.Halves.{LetTo, only_of, AgreeFor, SameVariables}

-- Of a call with this number the first if it is 0, else the second.
unfoldable pub if_zero : {A : Type 0} → ℕ → A → A → A
if_zero zero a b = a
if_zero (suc number) a b = b

-- "An input is accepted if its call has number 0."
unfoldable pub board_accepted : List BoardCall → List Event
board_accepted [] = []
board_accepted (c ∷ cs) = if_zero c.result.number (events_at c.time (inputs_of c.in_numbers c.in_values)) [] ++ board_accepted cs

-- "The run's time is the t of the last call with number 0, the start's being 0."
unfoldable pub board_time : ℕ → List BoardCall → ℕ
board_time t [] = t
board_time t (c ∷ cs) = board_time (if_zero c.result.number c.time t) cs

-- "Its reported writes are the outputs listed by each call with number 0, .. in the order of the calls and then of the lists": the start's first.
unfoldable pub board_writes : {layout : Layout} → BoardRun layout → List Event
board_writes run = listed_by 0 run.result run.numbers run.values ++ board_reported run.calls

-- The machine's words that the last call left.
unfoldable pub words_left : List ℕ → List BoardCall → List ℕ
words_left machine [] = machine
words_left machine (c ∷ cs) = words_left c.machine_after cs

-- A board's run on a listing let to these growers: "A run is a halved listing loaded with number 0, a start on its table with number 0,
-- and then any list of instant calls, refused ones too."
pub record BoardRunFor (growers : List Call) (listing : Listing) {layout : Layout} (run : BoardRun layout) : Type 0 where
  pub let_to : LetTo growers listing
  pub loads : Loads run.text listing
  pub started : run.result.number ≡ 0

-- "that agree in the first line, in main, in the first's routines with their numbers, in the list of accepted inputs (moment, input, value)
-- that are the first's, and in the time. Nothing else need agree."
pub record BoardsAgree (c : Call) (listing listing' : Listing) {layout layout' : Layout} (run : BoardRun layout) (run' : BoardRun layout')
    : Type 0 where
  pub listings : AgreeFor c listing listing'
  pub accepted : only_of c (board_accepted run.calls) ≡ only_of c (board_accepted run'.calls)
  pub time : board_time 0 run.calls ≡ board_time 0 run'.calls

-- Where the words that both runs left stand for states, the grower's inputs and outputs are equal in the two, in value and in waiting write.
abbrev pub SameOnBoards : Call → Listing → Listing → {layout layout' : Layout} → BoardRun layout → BoardRun layout' → Type 0
SameOnBoards c listing listing' {layout} {layout'} run run' = (s s' : State) →
    layout.read_machine listing (first_words (words_left run.machine run.calls)) ≡ some (running s) →
    layout'.read_machine listing' (first_words (words_left run'.machine run'.calls)) ≡ some (running s') → SameVariables c s s'
