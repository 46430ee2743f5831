-- What each call promises: its result and each lent memory, equated with the defined outcome. (The comparison writes nothing: its answer is Comparison `alike_call`.)
use Rattle.std.specs.Prelude.{◌≡◌, List, ℕ, length}
use Rattle.std.proofs.Math.Option.{some}
use Rattle.listing.specs.Listing.{Listing}
use Rattle.listing.specs.Load.{Loading, refused, loaded, loading, is_long_enough}
use Rattle.walk.specs.Instant.{NextDue}
use Rattle.walk.specs.Calls.{Layout, Outcome, outcome_number, outcome_place, outcome_figures, MachineAfter, numbers_after, values_after, first_words, later_words, start_call, instant_call}

-- The result of a start or an instant call: number, place, steps used, outputs listed, next moment due.
pub record Result : Type 0 where
  pub number : ℕ
  pub place : ℕ
  pub steps : ℕ
  pub listed : ℕ
  pub due : NextDue

unfoldable pub result_of : Outcome → Result
result_of o =
    let f = outcome_figures o in
    record { number = outcome_number o; place = outcome_place o; steps = f.steps; listed = length f.listed; due = f.due }

-- A call with outcome o on a table, which found these words in the machine and in the two output lists, left those, and gave this result.
pub record Keeps (layout : Layout) (table machine numbers values machine' numbers' values' : List ℕ) (o : Outcome) (r : Result) : Type 0 where
  pub result : r ≡ result_of o
  pub machine_is : MachineAfter layout table machine machine' o
  pub numbers_are : numbers' ≡ numbers_after o numbers
  pub values_are : values' ≡ values_after o values

-- What the start promises, of any memories and any allowance.
abbrev pub StartPromise : Layout → List ℕ → List ℕ → List ℕ → List ℕ → ℕ → List ℕ → List ℕ → List ℕ → Result → Type 0
StartPromise layout table machine numbers values allowance machine' numbers' values' r =
    Keeps layout table machine numbers values machine' numbers' values' (start_call layout table machine numbers values allowance) r

-- What the instant call promises, of any memories, moment, inputs and allowance.
abbrev pub InstantPromise : Layout → List ℕ → List ℕ → ℕ → List ℕ → List ℕ → List ℕ → List ℕ → ℕ → List ℕ → List ℕ → List ℕ → Result → Type 0
InstantPromise layout table machine t in_numbers in_values numbers values allowance machine' numbers' values' r =
    Keeps layout table machine numbers values machine' numbers' values' (instant_call layout table machine t in_numbers in_values numbers values allowance) r

-- What the lent table holds after loading: untouched, or any words that stand for the listing.
pub data TableAfter (layout : Layout) (before after : List ℕ) : Loading → Type 0 where
  untouched : {number place : ℕ} → after ≡ before → TableAfter layout before after (refused number place)
  holds : {listing : Listing} → layout.read_table (first_words after) ≡ some listing → length after ≡ length before →
      later_words after ≡ later_words before → TableAfter layout before after (loaded listing)

-- What loading promises, of any bytes and any table.
abbrev pub LoadPromise : Layout → List ℕ → List ℕ → List ℕ → Loading → Type 0
LoadPromise layout text before after answer = (answer ≡ loading (is_long_enough before) text) × TableAfter layout before after answer
