-- What a step does from each phase, whatever the lent memories hold (document 01, "The session").
use Rattle.std.specs.Prelude.{◌≡◌, Bool, List, [], ℕ, suc, ◌≤◌, ◌<◌, length, take, drop}
use Rattle.words.specs.Moments.{moment_range}
use Rattle.listing.specs.Bytes.{Bytes}
use Rattle.listing.specs.Limits.{byte_limit}
use Rattle.listing.specs.Listing.{Listing}
use Rattle.listing.specs.Load.{Loading}
use Rattle.listing.specs.Load as Load
use Rattle.walk.specs.Promises.{LoadPromise}
use Rattle.walk.specs.Session.{end_code}
use Rattle.walk.specs.Trace.{script, last_at, broken}
use Rattle.layout.specs.Layout.{layout}
use Rattle.call_conclude.specs.Answers.{due_of}
use Rattle.call_conclude.specs.declared.answers.Due.TheVariants.{Never, At}
use Rattle.session_trace.specs.Groups.{CallIs}
use Rattle.session_calls.specs.Clock.{Soon}
use Rattle.session_printed.specs.Made.{StartPrinted, InstantPrinted}
use Rattle.session_replay.specs.After.{step_after, EndsWith, silent}
use Rattle.session_replay.specs.declared.phase.Phase.{Phase}
use Rattle.session_replay.specs.declared.phase.Phase.TheVariants.{Opening, Starting, Reading, Over}
use Rattle.session_calls.specs.declared.clock.Clock.{Clock}
use Rattle.session_replay.specs.declared.phase.Step.{Step}
use Rattle.session_printed.specs.declared.calls.Made.{Made}

-- After loading: a refusal is printed, or the start comes next.
pub data Loads (out out' : List ℕ) (step : Step) : Loading → Type 0 where
  refused : {number place : ℕ} → EndsWith out number 0 out' step → Loads out out' step (Load.refused number place)
  loaded : {l : Listing} → out' ≡ out → step ≡ silent Starting → Loads out out' step (Load.loaded l)

-- "Before loading, a listing over 49,152 bytes has code 3, else a trace over 49,152 code 2."
pub data FromOpening (listing trace : Bytes) (table out table' out' : List ℕ) (step : Step) : Type 0 where
  long_listing : byte_limit < length listing → table' ≡ table → EndsWith out 3 0 out' step → FromOpening listing trace table out table' out' step
  long_trace : length listing ≤ byte_limit → byte_limit < length trace → table' ≡ table → EndsWith out 2 0 out' step → FromOpening listing trace table out table' out' step
  loads : {answer : Loading} → length listing ≤ byte_limit → length trace ≤ byte_limit → LoadPromise layout listing table table' answer → Loads out out' step answer →
      FromOpening listing trace table out table' out' step

-- The start.
pub record FromStarting (table machine out machine' out' : List ℕ) (step : Step) : Type 0 where
  pub made : Made
  pub call : StartPrinted table machine out machine' out' made
  pub is : step ≡ step_after made 0

-- "The program makes every due instant between, joining one with inputs of its time": one due before the call that is read at an offset, and the call is read
-- again; or the call, and the trace goes on at the next offset.
pub data TowardCall (table machine out : List ℕ) (clock : Clock) (time : ℕ) (in_numbers in_values : List ℕ) (at next : ℕ) (machine' out' : List ℕ) (step : Step) : Type 0 where
  due : {m : ℕ} {made : Made} → Soon (due_of clock.due) time (At m) → InstantPrinted clock.now m [] [] table machine out machine' out' made → step ≡ step_after made at →
      TowardCall table machine out clock time in_numbers in_values at next machine' out' step
  joins : {made : Made} → Soon (due_of clock.due) time Never → InstantPrinted clock.now time in_numbers in_values table machine out machine' out' made →
      step ≡ step_after made next → TowardCall table machine out clock time in_numbers in_values at next machine' out' step

-- "and those due up to Q's time": one of them, and the last line is read again; or the end.
pub data UntilEnd (table machine out : List ℕ) (clock : Clock) (time : ℕ) (nothingAfter : Bool) (at : ℕ) (machine' out' : List ℕ) (step : Step) : Type 0 where
  due : {m : ℕ} {made : Made} → Soon (due_of clock.due) (suc time) (At m) → InstantPrinted clock.now m [] [] table machine out machine' out' made →
      step ≡ step_after made at → UntilEnd table machine out clock time nothingAfter at machine' out' step
  ends : {code : ℕ} → Soon (due_of clock.due) (suc time) Never → ((l : Listing) → code ≡ end_code l nothingAfter) → machine' ≡ machine →
      EndsWith out code clock.now out' step → UntilEnd table machine out clock time nothingAfter at machine' out' step

-- What is next in the trace from an offset on. A call's inputs are read into two lists of 17 places, which are local to the step. (A time has 64 bits.)
pub data FromReading (trace table machine out : List ℕ) (clock : Clock) (at : ℕ) (machine' out' : List ℕ) (step : Step) : Type 0 where
  past_end : length trace < at → machine' ≡ machine → out' ≡ out → step ≡ silent Over → FromReading trace table machine out clock at machine' out' step
  call : {numbers values : List ℕ} {time count next : ℕ} → CallIs trace at numbers values time count next → time < moment_range →
      TowardCall table machine out clock time (take count numbers) (take count values) at next machine' out' step → FromReading trace table machine out clock at machine' out' step
  last : {time : ℕ} {nothingAfter : Bool} → script (drop at trace) ≡ last_at time nothingAfter → time < moment_range →
      UntilEnd table machine out clock time nothingAfter at machine' out' step → FromReading trace table machine out clock at machine' out' step
  -- "A line out of form when it is reached .. has code 2"
  breaks : script (drop at trace) ≡ broken → machine' ≡ machine → EndsWith out 2 clock.now out' step → FromReading trace table machine out clock at machine' out' step

-- The lent memories: table, machine, and the bytes to print in.
pub record Memories : Type 0 where
  pub table : List ℕ
  pub machine : List ℕ
  pub out : List ℕ

abbrev pub memories : List ℕ → List ℕ → List ℕ → Memories
memories table machine out = record { table = table; machine = machine; out = out }

-- The step from any phase, from memories m to memories m'.
pub data Does (listing trace : Bytes) (m m' : Memories) (step : Step) : Phase → Type 0 where
  from_opening : FromOpening listing trace m.table m.out m'.table m'.out step → m'.machine ≡ m.machine → Does listing trace m m' step Opening
  from_starting : FromStarting m.table m.machine m.out m'.machine m'.out step → m'.table ≡ m.table → Does listing trace m m' step Starting
  from_reading : {clock : Clock} {at : ℕ} → FromReading trace m.table m.machine m.out clock at m'.machine m'.out step → m'.table ≡ m.table →
      Does listing trace m m' step (Reading clock at)
  when_over : m' ≡ m → step ≡ silent Over → Does listing trace m m' step Over
