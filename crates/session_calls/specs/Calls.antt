-- What a session's call on the engine leaves and tells.
use Rattle.std.specs.Prelude.{◌≡◌, ◌≢◌, List, ℕ, ◌≤◌, take}
use Rattle.std.proofs.Math.Option.{some}
use Rattle.listing.specs.Listing.{Listing}
use Rattle.walk.specs.State.{State}
use Rattle.walk.specs.Instant.{Done}
use Rattle.walk.specs.Calls.{Words32, Outcome, refused, stopped, done, inputs_of, first_words, start_on, instant_from, start_call, instant_call}
use Rattle.walk.specs.Promises.{Result, Keeps}
use Rattle.walk.specs.Session.{session_allowance}
use Rattle.layout.specs.Layout.{layout}
use Rattle.call_conclude.specs.Answers.{due_of}
use Rattle.session_calls.specs.Clock.{Runs}
use Rattle.session_calls.specs.declared.clock.Clock.{Clock}
use Rattle.session_calls.specs.declared.calls.Called.{Called}
use Rattle.session_calls.specs.declared.calls.Called.TheVariants.{Ended, Went}

-- How many outputs a call lists.
abbrev pub listed_of : Called → ℕ
listed_of (Ended k) = 0
listed_of (Went clock listed) = listed

-- What came of a call at t, of its result.
pub data Tells (result : Result) (t : ℕ) : Called → Type 0 where
  ended : {k : ℕ} → k ≡ result.number → k ≢ 0 → Tells result t (Ended k)
  went : {clock : Clock} {listed : ℕ} → result.number ≡ 0 → clock.now ≡ t → due_of clock.due ≡ result.due → listed ≡ result.listed → Tells result t (Went clock listed)

-- The same on the walk's states: with a number the session ends, or the machine stands for the state that the call leaves, and the two lists begin with its writes.
pub data Goes (table machine numbers values : List ℕ) (l : Listing) (t : ℕ) : Outcome → Called → Type 0 where
  refuses : {k : ℕ} → 1 ≤ k → Goes table machine numbers values l t (refused k) (Ended k)
  stops : {k : ℕ} → 1 ≤ k → Goes table machine numbers values l t (stopped k) (Ended k)
  goes : {d : Done} {clock : Clock} {listed : ℕ} → d.state.now ≡ t → clock.now ≡ t → Runs table machine clock l d.state →
      inputs_of (take listed numbers) (take listed values) ≡ d.listed → Goes table machine numbers values l t (done d) (Went clock listed)

-- A call at t with outcome o: its result and all lent memories are what the engine promises.
pub record Made (o : Outcome) (t : ℕ) (table machine numbers values machine' numbers' values' : List ℕ) (called : Called) : Type 0 where
  pub result : Result
  pub promise : Keeps layout table machine numbers values machine' numbers' values' o result
  pub words : Words32 machine'
  pub tells : Tells result t called

-- The start, "allowance 10,000": on any table, and on one that stands for a listing.
pub record StartMade (table machine numbers values machine' numbers' values' : List ℕ) (called : Called) : Type 0 where
  pub made : Made (start_call layout table machine numbers values session_allowance) 0 table machine numbers values machine' numbers' values' called
  pub walks : (l : Listing) → layout.read_table (first_words table) ≡ some l → Goes table machine' numbers' values' l 0 (start_on l session_allowance) called

-- The instant at t with these inputs: on any table and machine, and on those that stand for a listing and a state.
pub record InstantMade (t : ℕ) (in_numbers in_values table machine numbers values machine' numbers' values' : List ℕ) (called : Called) : Type 0 where
  pub made : Made (instant_call layout table machine t in_numbers in_values numbers values session_allowance) t table machine numbers values machine' numbers' values' called
  pub walks : (l : Listing) (s : State) (clock : Clock) → Runs table machine clock l s →
      Goes table machine' numbers' values' l t (instant_from l s t (inputs_of in_numbers in_values) session_allowance) called
