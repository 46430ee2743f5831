-- The questions put to a session's writes.
-- Document 02, Change 1: "Question 1 turns away .. unequal lists, 9 a moment that falls, 11 an output of 16 or more or listed twice in a moment."
use Rattle.std.specs.Prelude.{Bool, true, false, ◌&&◌, ◌||◌, not, List, [], ◌∷◌, ℕ, eqb, leb, ltb, length}
use Rattle.openings.specs.Writes.{Write}

-- 1: the three lists are equally long
abbrev pub equally_long : List ℕ → List ℕ → List ℕ → Bool
equally_long moments outputs values = eqb (length moments) (length outputs) && eqb (length moments) (length values)

-- each moment is at least the one before it, the first at least `least`
unfoldable pub rise_from : ℕ → List ℕ → Bool
rise_from least [] = true
rise_from least (m ∷ moments) = leb least m && rise_from m moments

-- 9: no moment falls; equal ones pass
abbrev pub none_falls : List ℕ → Bool
none_falls moments = rise_from 0 moments

-- one of these writes is of the same moment and output as w, side by side with it or not
unfoldable pub listed_among : Write → List Write → Bool
listed_among w [] = false
listed_among w (x ∷ others) = (eqb x.moment w.moment && eqb x.output w.output) || listed_among w others

-- every output is below 16, and none "listed twice in a moment"; `earlier` has the writes before these
unfoldable pub once_after : List Write → List Write → Bool
once_after earlier [] = true
once_after earlier (w ∷ later) = ltb w.output 16 && (not (listed_among w earlier) && once_after (w ∷ earlier) later)

-- 11: "an output of 16 or more or listed twice in a moment" is turned away
abbrev pub listed_once : List Write → Bool
listed_once writes = once_after [] writes
