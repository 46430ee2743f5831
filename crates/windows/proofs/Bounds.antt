-- The numbers of a span stay within 64 bits. Letters: a the first whole minute, b the end of the span, from its start.
use mathlib.Core.Path.{◌≡◌, sym}
use mathlib.Core.List.{List, []}
use Prim.Native.Nat.{ℕ, ◌+◌, ◌*◌, ◌/◌, ◌%◌, ◌≤◌, ◌<◌}
use native.Mathlib.Decide.{dec_lt}
use native.Mathlib.Omega.{arith}
use Rattle.words.specs.Moments.{later_at, stops_with, later_moment}
use Rattle.words.proofs.Moments.{later_moment_is_sum}
use Rattle.schedule_minutes.specs.Minutes.{to_minute, minutes_between, minute_edges}
use Rattle.schedule_minutes.proofs.Whole.{First, first_is_lem, none_between, some_between}
use Rattle.schedule_minutes.proofs.Edges.{minutes_none}
use Rattle.schedule_list.proofs.Delays.{never_too_late}
use Rattle.windows.specs.Span.{span_edges}

-- what is known of a span's first whole minute and of its minutes
pub record Bounded (from to a : ℕ) : Type 0 where
  pub is : a ≡ from + to_minute from
  pub whole : a % 60000 ≡ 0
  pub above : 1 ≤ a / 60000
  pub few : a / 60000 + minutes_between a to ≤ 1000000000000000
  pub last : a + minutes_between a to * 60000 < 18446744073709611616

pub bounded : (from to a : ℕ) → to < 18446744073709551616 → later_at a ≡ later_moment from (to_minute from) → Bounded from to a
bounded from to a h e = go (dec_lt a to)
  where
    is : (a ≡ from + to_minute from) × (a < 18446744073709551616)
    is = later_moment_is_sum from (to_minute from) a (sym e)

    first : First from a
    first = rw is.0 (first_is_lem from)

    go : Dec (a < to) → Bounded from to a
    go (yes l) =
        let n = some_between a to l in
        let u = is.1 in
        record { is = is.0; whole = first.whole; above = omega (arith, first.above); few = omega arith; last = omega arith }
    go (no l) =
        let n = none_between a to (omega arith) in
        let u = is.1 in
        record { is = is.0; whole = first.whole; above = omega (arith, first.above); few = omega arith; last = omega arith }

-- a first whole minute past all moments: the span has none
pub none_left : (w : List ℕ) (from to : ℕ) → to < 18446744073709551616 → stops_with 17 ≡ later_moment from (to_minute from) → span_edges w from to ≡ []
none_left w from to h e = go (dec_lt (from + to_minute from) 18446744073709551616)
  where
    go : Dec (from + to_minute from < 18446744073709551616) → span_edges w from to ≡ []
    go (yes l) = absurd (never_too_late from (to_minute from) l e)
    go (no l) = rw (none_between (from + to_minute from) to (omega arith)) (minutes_none w _)

-- the minutes counted from the first one are those of the span
pub span_is : (w : List ℕ) (from to a n : ℕ) → Bounded from to a → n ≡ minutes_between a to → minute_edges w (a / 60000) n ≡ span_edges w from to
span_is w from to a n b e = rw (e, b.is)
