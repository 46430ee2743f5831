-- Moments and delays, as natural numbers of milliseconds.
-- Document 01: "A moment is counted in milliseconds from the start, a delay from the present instant; a moment has 64 bits."
use Rattle.std.specs.Prelude.{ℕ, ◌+◌, cond, nat_lt}
use Rattle.words.specs.declared.moment.Later.{Later}
use Rattle.words.specs.declared.moment.Later.TheVariants.{At, TooLate}

-- "a moment has 64 bits": moments are below 2 to the 64
abbrev pub moment_range : ℕ
moment_range = 18446744073709551616

-- where a delay leads: to a moment, or to a stop with its number
pub data LaterMoment : Type 0 where
  later_at : ℕ → LaterMoment
  stops_with : ℕ → LaterMoment

-- "17 At `A`: is the due moment below 2 to the 64?"
abbrev pub later_moment : ℕ → ℕ → LaterMoment
later_moment present delay =
    cond (nat_lt (present + delay) moment_range) (later_at (present + delay)) (stops_with 17)

-- document 01's number and moment for each case of the answer `Later`
abbrev pub later_of : Later → LaterMoment
later_of (At m) = later_at m.0
later_of TooLate = stops_with 17

-- document 01's number: "A call that goes through has number 0"
abbrev pub later_number : LaterMoment → ℕ
later_number (later_at m) = 0
later_number (stops_with k) = k
