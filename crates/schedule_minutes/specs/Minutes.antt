-- The edges of whole minutes, from the bits of a week's minutes.
use Rattle.std.specs.Prelude.{cond, List, [], ◌++◌, ℕ, zero, suc, ◌+◌, ◌-◌, ◌*◌, ◌/◌, ◌%◌, eqb, leb, get_or}
use Rattle.schedule.specs.Edges.{Edge, changes, input_count}
use Rattle.schedule_week.specs.Week.{is_marked}

-- the delay to the first whole minute at or after a moment, and after moment 0: "Nothing is written at moment 0"
abbrev pub to_minute : ℕ → ℕ
to_minute moment = cond (eqb moment 0) 60000 (cond (eqb (moment % 60000) 0) 0 (60000 - moment % 60000))

-- the whole minutes from one on, up to a moment that is left out
abbrev pub minutes_between : ℕ → ℕ → ℕ
minutes_between first to = cond (leb to first) 0 ((to - first - 1) / 60000 + 1)

-- the changes between the bits of two neighbouring minutes
abbrev pub changes_of : ℕ → ℕ → ℕ → List Edge
changes_of moment before at = changes moment (is_marked before) (is_marked at) input_count

-- the bits of a minute that is counted from moment 0: the week repeats
abbrev pub bits_at : List ℕ → ℕ → ℕ
bits_at week minute = get_or week (minute % 10080) 0

-- the edges of so many minutes from one above 0 on
unfoldable pub minute_edges : List ℕ → ℕ → ℕ → List Edge
minute_edges week minute zero = []
minute_edges week minute (suc minutes) =
    changes_of (minute * 60000) (bits_at week (minute - 1)) (bits_at week minute) ++ minute_edges week (suc minute) minutes
