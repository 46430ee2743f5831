-- The writes of a session, gathered from its print into three lists for the valve book. "It prints `O|time|output|value` for each write" (document 01);
-- with `I` for `O` that is a trace's line, and so the print is read as a trace is (walk `script`), neighbours of equal time belonging to one moment.
use Rattle.std.specs.Prelude.{◌≡◌, Bool, true, false, cond, List, [], ◌∷◌, ◌++◌, ℕ, ◌≤◌, ◌<◌, eqb, length, take}
use Prim.Native.Char.{code}
use Rattle.listing.specs.Bytes.{Bytes}
use Rattle.walk.specs.Instant as Walk
use Rattle.walk.specs.Trace.{Script, call_at, last_at, broken, script}
use Rattle.openings.specs.Writes.{Write, writes_of}
use Rattle.book_writes.specs.declared.Gathered.{Gathered}

-- a byte of the print as it stands in a trace: the letter `O` is in no other place of a print
abbrev pub as_in_trace : ℕ → ℕ
as_in_trace byte = cond (eqb byte (code "O")) (code "I") byte

-- as many writes of one moment as are kept: 17 different outputs below 16 do not exist, so that question 11 turns more away as it does 17
abbrev pub most_kept : ℕ
most_kept = 17

unfoldable pub writes_of_moment : ℕ → List Walk.Write → List Write
writes_of_moment moment [] = []
writes_of_moment moment (w ∷ ws) = record { moment = moment; output = w.number; value = w.value } ∷ writes_of_moment moment ws

-- the writes, up to the last line or to one that is no write
unfoldable pub writes_in : Script → List Write
writes_in (call_at time ws rest) = writes_of_moment time (take most_kept ws) ++ writes_in rest
writes_in (last_at time nothingAfter) = []
writes_in broken = []

abbrev pub writes_of_print : Bytes → List Write
writes_of_print print = writes_in (script print)

-- the writes that the first so many places of the three lists hold
abbrev pub first_writes : ℕ → List ℕ → List ℕ → List ℕ → List Write
first_writes count moments outputs values = writes_of (take count moments) (take count outputs) (take count values)

-- all writes stand in the lists, or there are more than the lists have places
unfoldable pub Holds : Bool → ℕ → List Write → List Write → Type 0
Holds true places writes held = held ≡ writes
Holds false places writes held = places < length writes

-- what was gathered; the lists stay as long as they were
pub record GatheredIs (print : Bytes) (places : ℕ) (moments outputs values : List ℕ) (r : Gathered) : Type 0 where
  pub holds : Holds r.all places (writes_of_print print) (first_writes r.count moments outputs values)
  pub most : r.count ≤ places
  pub moments_long : length moments ≡ places
  pub outputs_long : length outputs ≡ places
  pub values_long : length values ≡ places
