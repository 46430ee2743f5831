-- What a call tells: of one that goes through the edges that its lists hold, of one that is turned away the question, and the lists as they were.
use Rattle.std.specs.Prelude.{◌≡◌, true, List, ◌⊎◌, ℕ, ◌<◌, length, take, drop}
use Rattle.std.proofs.Math.Option.{none, some}
use Rattle.listing.specs.Bytes.{Bytes}
use Rattle.schedule.specs.Schedule.{Schedule}
use Rattle.schedule.specs.Form.{read_schedule}
use Rattle.schedule.specs.Edges.{Edge, edges_in}
use Rattle.schedule.specs.Sentence.{edges_of}
use Rattle.windows.specs.Call.{long_enough}
use Rattle.windows.specs.declared.answer.Listed.{Listed}

-- the edges that three lists hold in their first places
abbrev pub listed_edges : ℕ → List ℕ → List ℕ → List ℕ → List Edge
listed_edges n moments inputs values = edges_of (take n moments) (take n inputs) (take n values)

-- a call that goes through: the text reads as a schedule, each list has a place for every edge of the span, the lists then hold them, and their other places stay
pub record GoneThrough (text : Bytes) (from to : ℕ) (moments inputs values moments' inputs' values' : List ℕ) (r : Listed) : Type 0 where
  pub schedule : Schedule
  pub reads : read_schedule text ≡ some schedule
  pub long : long_enough (edges_in schedule from to) moments inputs values ≡ true
  pub number_is : r.number ≡ 0
  pub place_is : r.place ≡ 0
  pub counted : r.listed ≡ length (edges_in schedule from to)
  pub listed_are : listed_edges r.listed moments' inputs' values' ≡ edges_in schedule from to
  pub moments_stay : drop r.listed moments' ≡ drop r.listed moments
  pub inputs_stay : drop r.listed inputs' ≡ drop r.listed inputs
  pub values_stay : drop r.listed values' ≡ drop r.listed values

-- a list is too short for so many edges
abbrev pub TooShort : ℕ → List ℕ → List ℕ → List ℕ → Type 0
TooShort n moments inputs values = (length moments < n) ⊎ (length inputs < n) ⊎ (length values < n)

-- a call that is turned away: under 19, the text reading as no schedule; or under 1, a list being too short; the lists stay
pub record TurnedAway (text : Bytes) (from to : ℕ) (moments inputs values moments' inputs' values' : List ℕ) (r : Listed) : Type 0 where
  pub cause : ((r.number ≡ 19) × (read_schedule text ≡ none))
      ⊎ ((r.number ≡ 1) × ((s : Schedule) × (read_schedule text ≡ some s) × TooShort (length (edges_in s from to)) moments inputs values))
  pub place_is : r.place ≡ 0
  pub none_listed : r.listed ≡ 0
  pub moments_stay : moments' ≡ moments
  pub inputs_stay : inputs' ≡ inputs
  pub values_stay : values' ≡ values
