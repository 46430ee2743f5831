-- The call that lists the inputs of a span: its questions in their order, its outcome, and what the lists hold afterwards.
-- Document 02, Change 5: "The layer lists the inputs of any span of moments"; "(19: has each line its form, an input below 16, and a real date or
-- minute? Only then 1: are the lists long enough? Refusals from 19 on leave memory as those up to 12 do.)"
use Rattle.std.specs.Prelude.{◌≡◌, Bool, true, false, ◌&&◌, List, ◌++◌, map, ℕ, leb, length, drop}
use Rattle.std.proofs.Math.Option.{Option, none, some}
use Rattle.listing.specs.Bytes.{Bytes}
use Rattle.schedule.specs.Schedule.{Schedule}
use Rattle.schedule.specs.Form.{read_schedule}
use Rattle.schedule.specs.Edges.{Edge, edges_in}
use Rattle.windows.specs.declared.answer.Listed.{Listed}

-- a call is refused with a number, or lists edges
pub data Outcome : Type 0 where
  refused : ℕ → Outcome
  listed : List Edge → Outcome

-- 1: "are the lists long enough?" Each has a place for every edge.
unfoldable pub long_enough : List Edge → List ℕ → List ℕ → List ℕ → Bool
long_enough edges moments inputs values =
    leb (length edges) (length moments) && (leb (length edges) (length inputs) && leb (length edges) (length values))

unfoldable pub if_long_enough : Bool → List Edge → Outcome
if_long_enough true edges = listed edges
if_long_enough false edges = refused 1

-- "Only then 1"
unfoldable pub of_schedule : Option Schedule → ℕ → ℕ → List ℕ → List ℕ → List ℕ → Outcome
of_schedule none from to moments inputs values = refused 19
of_schedule (some s) from to moments inputs values = if_long_enough (long_enough (edges_in s from to) moments inputs values) (edges_in s from to)

-- the outcome, of the schedule's text, the span and the three lists
unfoldable pub windows_call : Bytes → ℕ → ℕ → List ℕ → List ℕ → List ℕ → Outcome
windows_call text from to moments inputs values = of_schedule (read_schedule text) from to moments inputs values

-- document 01: "A call that goes through has number 0", and a refusal's other figures are 0
unfoldable pub outcome_number : Outcome → ℕ
outcome_number (refused number) = number
outcome_number (listed edges) = 0

unfoldable pub outcome_listed : Outcome → ℕ
outcome_listed (refused number) = 0
outcome_listed (listed edges) = length edges

-- a refusal leaves a list untouched; edges take its first places, by this figure of each, and the others stay
unfoldable pub list_after : (Edge → ℕ) → Outcome → List ℕ → List ℕ
list_after figure (refused number) list = list
list_after figure (listed edges) list = map figure edges ++ drop (length edges) list

-- what the call gives and leaves, of an outcome; "place 0 from here on" (document 01, after question 6)
pub record ListedAs (o : Outcome) (moments inputs values moments' inputs' values' : List ℕ) (r : Listed) : Type 0 where
  pub number_is_lem : r.number ≡ outcome_number o
  pub place_is_lem : r.place ≡ 0
  pub listed_is : r.listed ≡ outcome_listed o
  pub moments_are : moments' ≡ list_after (λ e. e.moment) o moments
  pub inputs_are_lem : inputs' ≡ list_after (λ e. e.input) o inputs
  pub values_are : values' ≡ list_after (λ e. e.value) o values

-- What a call promises, of any text, span and lists: the defined outcome.
abbrev pub WindowsFigures : Bytes → ℕ → ℕ → List ℕ → List ℕ → List ℕ → List ℕ → List ℕ → List ℕ → Listed → Type 0
WindowsFigures text from to moments inputs values moments' inputs' values' r =
    ListedAs (windows_call text from to moments inputs values) moments inputs values moments' inputs' values' r

abbrev pub refusal : ℕ → Listed
refusal number = record { number = number; place = 0; listed = 0 }
