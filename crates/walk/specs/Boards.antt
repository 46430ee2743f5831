-- Boards: a whole list of calls as the calls' promises allow it, over any words of table and machine.
use Rattle.std.specs.Prelude.{◌≡◌, List, [], ◌∷◌, ◌++◌, ℕ, ◌<◌, take}
use Rattle.words.specs.Moments.{moment_range}
use Rattle.listing.specs.Load.{Loading, loading_number}
use Rattle.walk.specs.Calls.{Words32, Layout, inputs_of, instant_long_enough}
use Rattle.walk.specs.Events.{Event, events_at}
use Rattle.walk.specs.Runs.{InstantCall}
use Rattle.walk.specs.Promises.{Result, StartPromise, InstantPromise, LoadPromise}

-- One instant call on a board: what it was handed, what it left, its result.
-- "Each call's time, input lists, output lists and allowance are anything, given anew."
pub record BoardCall : Type 0 where
  pub time : ℕ
  pub in_numbers : List ℕ
  pub in_values : List ℕ
  pub numbers : List ℕ
  pub values : List ℕ
  pub allowance : ℕ
  pub machine_after : List ℕ
  pub numbers_after : List ℕ
  pub values_after : List ℕ
  pub result : Result

-- What a call is handed, its table and machine apart.
pub record CallArguments : Type 0 where
  pub time : ℕ
  pub in_numbers : List ℕ
  pub in_values : List ℕ
  pub numbers : List ℕ
  pub values : List ℕ
  pub allowance : ℕ

unfoldable pub arguments_of : BoardCall → CallArguments
arguments_of c =
    record { time = c.time; in_numbers = c.in_numbers; in_values = c.in_values; numbers = c.numbers; values = c.values; allowance = c.allowance }

-- "a moment has 64 bits", and a lent word 32.
pub data AllFit : List CallArguments → Type 0 where
  none_fits : AllFit []
  one_fits : {a : CallArguments} {rest : List CallArguments} → a.time < moment_range → Words32 a.in_values → AllFit rest → AllFit (a ∷ rest)

-- "Each gets that same table, and the machine as the call before left it, and nobody else writes table or machine meanwhile."
-- (A lent word is a u32.)
pub data BoardCalls (layout : Layout) (table : List ℕ) : List ℕ → List BoardCall → Type 0 where
  no_more : {machine : List ℕ} → BoardCalls layout table machine []
  and_then : {machine : List ℕ} {c : BoardCall} {cs : List BoardCall} →
      InstantPromise layout table machine c.time c.in_numbers c.in_values c.numbers c.values c.allowance
      c.machine_after c.numbers_after c.values_after c.result → Words32 c.machine_after →
      BoardCalls layout table c.machine_after cs → BoardCalls layout table machine (c ∷ cs)

-- A session from the start: a listing loaded with number 0, a start on its table, whatever its number, and then any list of instant calls,
-- refused ones too. (A run of document 01 has a start with number 0: board_halves `BoardRunFor`.)
pub record BoardRun (layout : Layout) : Type 0 where
  pub text : List ℕ
  pub table_before : List ℕ
  pub table : List ℕ
  pub answer : Loading
  pub loads : LoadPromise layout text table_before table answer
  pub loaded : loading_number answer ≡ 0
  pub machine_before : List ℕ
  pub numbers_before : List ℕ
  pub values_before : List ℕ
  pub allowance : ℕ
  pub machine : List ℕ
  pub numbers : List ℕ
  pub values : List ℕ
  pub result : Result
  pub starts : StartPromise layout table machine_before numbers_before values_before allowance machine numbers values result
  pub words32 : Words32 machine
  pub calls : List BoardCall
  pub answered : BoardCalls layout table machine calls

-- The call as the walk sees it.
unfoldable pub as_instant_call : List ℕ → List ℕ → BoardCall → InstantCall
as_instant_call table machine c =
    record {
      long_enough = instant_long_enough table machine c.in_numbers c.in_values c.numbers c.values;
      time = c.time;
      inputs = inputs_of c.in_numbers c.in_values;
      allowance = c.allowance;
    }

unfoldable pub as_instant_calls : List ℕ → List ℕ → List BoardCall → List InstantCall
as_instant_calls table machine [] = []
as_instant_calls table machine (c ∷ cs) = as_instant_call table machine c ∷ as_instant_calls table c.machine_after cs

-- ── what is told of a board's run, read off the lists that the calls left ─────────────────────────
-- The writes that a call listed: as many as its result says, from the two lists side by side.
unfoldable pub listed_by : ℕ → Result → List ℕ → List ℕ → List Event
listed_by t r numbers values = events_at t (inputs_of (take r.listed numbers) (take r.listed values))

unfoldable pub board_reported : List BoardCall → List Event
board_reported [] = []
board_reported (c ∷ cs) = listed_by c.time c.result c.numbers_after c.values_after ++ board_reported cs
