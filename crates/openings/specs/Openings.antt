-- The openings of a session's valves, from its writes.
-- Document 02, Change 1: "A valve is open while its value isn't 0; a write that doesn't change open or closed gives no row."
use Rattle.std.specs.Prelude.{◌≡◌, Bool, true, false, cond, ◌&&◌, not, List, [], ◌∷◌, ℕ, ◌≤◌, eqb}
use Rattle.std.proofs.Math.Option.{Option, none, some}
use Rattle.openings.specs.Writes.{Write}

-- "A valve is open while its value isn't 0": a write with 0 closes it
abbrev pub is_zero : Write → Bool
is_zero w = eqb w.value 0

-- the latest write of an output; the list has the latest first
unfoldable pub latest_of : ℕ → List Write → Option Write
latest_of output [] = none
latest_of output (w ∷ earlier) = cond (eqb w.output output) (some w) (latest_of output earlier)

-- a valve is closed before its first write, and after a write with 0
unfoldable pub closed_after : Option Write → Bool
closed_after none = true
closed_after (some w) = is_zero w

-- A write opens its valve if its value is not 0 and the latest earlier write of that output, if any, is 0.
unfoldable pub opens : List Write → Write → Bool
opens earlier w = not (is_zero w) && closed_after (latest_of w.output earlier)

-- The moment of the first later write of an output with 0; none if the valve is "still open at the end".
unfoldable pub closing : ℕ → List Write → Option ℕ
closing output [] = none
closing output (w ∷ later) = cond (eqb w.output output && is_zero w) (some w.moment) (closing output later)

-- an opening: output, moment opened, moment closed
pub record Opening : Type 0 where
  pub output : ℕ
  pub opened : ℕ
  pub closed : Option ℕ

abbrev pub opening_of : Write → List Write → Opening
opening_of w later = record { output = w.output; opened = w.moment; closed = closing w.output later }

-- an opening in front of others, if there is one
unfoldable pub with_opening : Bool → Opening → List Opening → List Opening
with_opening true opening openings = opening ∷ openings
with_opening false opening openings = openings

-- the openings among writes, after earlier ones (the latest first)
unfoldable pub openings_after : List Write → List Write → List Opening
openings_after earlier [] = []
openings_after earlier (w ∷ later) = with_opening (opens earlier w) (opening_of w later) (openings_after (w ∷ earlier) later)

-- the openings of a session's writes, as they are listed
abbrev pub openings : List Write → List Opening
openings writes = openings_after [] writes

-- an opening that does not end before it began
abbrev pub EndsLater : Opening → Type 0
EndsLater x = (c : ℕ) → x.closed ≡ some c → x.opened ≤ c
