-- What is next in a trace from a line's beginning (document 01, "The session").
use Rattle.std.specs.Prelude.{◌≡◌, cond, List, [], ◌∷◌, ℕ, ◌+◌, ◌≤◌, ◌<◌, eqb, ltb, length, take, drop, set, Option, Some, None}
use Rattle.listing.specs.Bytes.{Bytes, line_feed}
use Rattle.walk.specs.Instant.{Write}
use Rattle.walk.specs.Calls.{inputs_of}
use Rattle.walk.specs.Trace.{Script, call_at, last_at, broken, with_input, script}
use Rattle.session_trace_lines.specs.declared.line.TraceLine.{TraceLine}
use Rattle.session_trace_lines.specs.declared.line.TraceLine.TheVariants as LV
use Rattle.session_trace.specs.declared.group.Next.{Next}
use Rattle.session_trace.specs.declared.group.Next.TheVariants as NV
use Rattle.session_trace.specs.declared.group.Joined.{Joined}

-- As many inputs of a call as are kept: 17 rising numbers below 16 do not exist, so that a call of more is refused as it is by 17.
abbrev pub most_kept : ℕ
most_kept = 17

-- "neighbours of equal time forming one call": the call at the offset `at` has these inputs, the first of them in the lists,
-- and the trace goes on at the offset `next`
pub record CallIs (trace : Bytes) (at : ℕ) (numbers values : List ℕ) (time count next : ℕ) : Type 0 where
  pub inputs : List Write
  pub is : script (drop at trace) ≡ call_at time inputs (script (drop next trace))
  pub kept : take most_kept inputs ≡ inputs_of (take count numbers) (take count values)
  pub few : count ≤ most_kept
  pub forward : at < next
  pub inside : next ≤ length trace

-- what the trace asks for from the offset `at` on: a call; "last `Q|time`", with nothing after it or with something; or it breaks off
abbrev pub NextIs : Bytes → ℕ → List ℕ → List ℕ → Next → Type 0
NextIs trace at numbers values (NV.Call time count next) = CallIs trace at numbers values time count next
NextIs trace at numbers values (NV.Last time nothingAfter) = script (drop at trace) ≡ last_at time nothingAfter
NextIs trace at numbers values NV.Broken = script (drop at trace) ≡ broken

-- how many inputs of it are put into the lists
abbrev pub kept_of : Next → ℕ
kept_of (NV.Call time count next) = count
kept_of (NV.Last time nothingAfter) = 0
kept_of NV.Broken = 0

-- a list after it: as long as before, and the words behind the inputs stay
pub record Behind (before after : List ℕ) (count : ℕ) : Type 0 where
  pub size : length after ≡ length before
  pub behind : drop count after ≡ drop count before

-- what is next, and the two lists after it
pub record NextRead (trace : Bytes) (at : ℕ) (numbers values numbers_after values_after : List ℕ) (next : Next) : Type 0 where
  pub is : NextIs trace at numbers_after values_after next
  pub numbers_stay : Behind numbers numbers_after (kept_of next)
  pub values_stay : Behind values values_after (kept_of next)

-- ── the steps to it ──────────────────────────────────────────────────────────────
-- a line that is no input, in a trace of so many bytes
abbrev pub ended_by : ℕ → TraceLine → Next
ended_by length (LV.Input time number value stop next) = NV.Broken
ended_by length (LV.Last time stop next) = cond (eqb stop line_feed) (NV.Last time (eqb next.offset length)) NV.Broken
ended_by length LV.Bad = NV.Broken

-- a word put at a place of a list, if it is kept
abbrev pub put_at : ℕ → ℕ → List ℕ → List ℕ
put_at count word words = cond (ltb count most_kept) (set words count word) words

pub record Put (count number value : ℕ) (numbers values numbers_after values_after : List ℕ) (countAfter : ℕ) : Type 0 where
  pub numbers_are_lem : numbers_after ≡ put_at count number numbers
  pub values_are_lem : values_after ≡ put_at count value values
  pub count_is : countAfter ≡ cond (ltb count most_kept) (count + 1) count

-- an input of that time comes first, and the trace goes on at the offset `past`
pub record JoinsOn (trace : Bytes) (at time number value past : ℕ) : Type 0 where
  pub is : script (drop at trace) ≡ with_input time (record { number = number; value = value }) (script (drop past trace))
  pub forward : at < past
  pub inside : past ≤ length trace

-- no input of that time comes first
abbrev pub Apart : ℕ → Script → Type 0
Apart time rest = (w : Write) → with_input time w rest ≡ call_at time (w ∷ []) rest

abbrev pub JoinsIs : Bytes → ℕ → ℕ → Option Joined → Type 0
JoinsIs trace at time (Some input) = JoinsOn trace at time input.number input.value input.past
JoinsIs trace at time None = Apart time (script (drop at trace))
