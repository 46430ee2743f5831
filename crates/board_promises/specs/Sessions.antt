-- What is claimed of a board's whole list of calls (demand 2): results, lists and machines are the walk's.
-- Letters: found is what the machine's words stand for, if they pass question 7; cs a board's calls, xs the walk's answers to them.
use Rattle.std.specs.Prelude.{◌≡◌, true, List, [], ◌∷◌, map, ℕ}
use Rattle.std.proofs.Math.Option.{Option}
use Rattle.listing.specs.Listing.{Listing}
use Rattle.listing.specs.Load.{Loads}
use Rattle.walk.specs.Calls.{Layout, Machine, is_stop, first_words, Outcome, stopped, outcome_listed, ask, start_long_enough, start_on}
use Rattle.walk.specs.Events.{events_at}
use Rattle.walk.specs.Runs.{Answered, answers_from_found, found_after_lem, reported}
use Rattle.walk.specs.Promises.{Result, result_of}
use Rattle.walk.specs.Boards.{BoardCall, BoardRun, CallArguments, arguments_of, as_instant_calls, board_reported, listed_by}

-- The results: those of the walk's answers, and those that the calls gave.
unfoldable pub results_of : List Answered → List Result
results_of [] = []
results_of (a ∷ xs) = result_of a.outcome ∷ results_of xs

unfoldable pub results_on : List BoardCall → List Result
results_on [] = []
results_on (c ∷ cs) = c.result ∷ results_on cs

-- Every stop among the answers has a number that stops a machine.
pub data StopsAreNumbered : List Answered → Type 0 where
  no_answer : StopsAreNumbered []
  one_answer : {a : Answered} {xs : List Answered} → ((k : ℕ) → a.outcome ≡ stopped k → is_stop k ≡ true) → StopsAreNumbered xs → StopsAreNumbered (a ∷ xs)

-- The words that each call left stand for the walk's machine after it (for none, if the words before them all stand for none).
pub data LeavesTheWalks (layout : Layout) (listing : Listing) : Option Machine → List BoardCall → List Answered → Type 0 where
  no_call : {found : Option Machine} → LeavesTheWalks layout listing found [] []
  one_call : {found : Option Machine} {c : BoardCall} {a : Answered} {cs : List BoardCall} {xs : List Answered} →
      layout.read_machine listing (first_words c.machine_after) ≡ found_after_lem found a.outcome →
      LeavesTheWalks layout listing (found_after_lem found a.outcome) cs xs → LeavesTheWalks layout listing found (c ∷ cs) (a ∷ xs)

-- The calls' results, the writes in the lists they left and the machines they left are those of these answers of the walk.
pub record AsTheWalk (layout : Layout) (listing : Listing) (found : Option Machine) (calls : List BoardCall) (answers : List Answered) : Type 0 where
  pub results : results_on calls ≡ results_of answers
  pub writes : board_reported calls ≡ reported answers
  pub states : LeavesTheWalks layout listing found calls answers
  pub stops : StopsAreNumbered answers

-- A list of calls on one table, from a machine memory.
abbrev pub CallsAreTheWalks : Layout → Listing → List ℕ → List ℕ → List BoardCall → Type 0
CallsAreTheWalks layout listing table machine cs =
    let found = layout.read_machine listing (first_words machine) in
    AsTheWalk layout listing found cs (answers_from_found listing found (as_instant_calls table machine cs))

-- A session from the start: its bytes load to a listing; its start, refused and stopped ones too, has the walk's outcome, and so has every call.
pub record BoardSession (layout : Layout) (run : BoardRun layout) : Type 0 where
  pub listing : Listing
  pub loads : Loads run.text listing
  pub outcome : Outcome
  pub starts : outcome ≡ ask 1 (start_long_enough run.table run.machine_before run.numbers_before run.values_before) (start_on listing run.allowance)
  pub start_result : run.result ≡ result_of outcome
  pub start_writes : listed_by 0 run.result run.numbers run.values ≡ events_at 0 (outcome_listed outcome)
  pub start_machine : layout.read_machine listing (first_words run.machine) ≡
      found_after_lem (layout.read_machine listing (first_words run.machine_before)) outcome
  pub calls : CallsAreTheWalks layout listing run.table run.machine run.calls

-- There is a session of this text, on these memories, with this allowance at the start and with calls that are handed these arguments.
pub record SessionOf (layout : Layout) (text table_before machine_before numbers_before values_before : List ℕ) (allowance : ℕ) (handed : List CallArguments)
    : Type 0 where
  pub run : BoardRun layout
  pub text_is : run.text ≡ text
  pub table_is : run.table_before ≡ table_before
  pub machine_is_lem : run.machine_before ≡ machine_before
  pub numbers_is : run.numbers_before ≡ numbers_before
  pub values_is : run.values_before ≡ values_before
  pub allowance_is_lem : run.allowance ≡ allowance
  pub handed_is : map arguments_of run.calls ≡ handed
