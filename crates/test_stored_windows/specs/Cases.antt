-- A stored case of the watering windows, as the file has it.
use Rattle.std.specs.Prelude.{◌≡◌, List, ℕ, ◌-◌, ◌*◌, ◌≤◌, min, length, take, drop}
use Rattle.test_cases.specs.Frame.{word_at, moment_at, onward}
use Rattle.test_stored_windows.specs.declared.cases.Asked.{Asked}
use Rattle.test_stored_windows.specs.declared.cases.Answer.{Answer}
use Rattle.test_stored_windows.specs.declared.cases.Case.{Case}

-- the length of a list that is lent; none is longer than 100
abbrev pub room_at : List ℕ → ℕ → ℕ
room_at s at = min (word_at s at) 100

-- at a place: the span (two moments) and the lengths of the three lists (words)
pub record AskedAt (s : List ℕ) (at : ℕ) (r : Asked) : Type 0 where
  pub first_is : r.first ≡ moment_at s at
  pub end_is_lem : r.end ≡ moment_at s (onward s at 8)
  pub moments_are : r.moments ≡ room_at s (onward s at 16)
  pub inputs_are_lem : r.inputs ≡ room_at s (onward s at 20)
  pub values_are : r.values ≡ room_at s (onward s at 24)

-- the figures of the answer, and the first line where question 19 says no, or 0
pub record AnswerAt (s : List ℕ) (at : ℕ) (r : Answer) : Type 0 where
  pub number_is_lem : r.number ≡ word_at s at
  pub place_is_lem : r.place ≡ word_at s (onward s at 4)
  pub listed_is : r.listed ≡ word_at s (onward s at 8)
  pub line_is : r.line ≡ word_at s (onward s at 12)

-- a case: its name (a word), its schedule (a part), what is asked, the answer, so many moments and so many pairs of input and value
pub record CaseAt (s : List ℕ) (at : ℕ) (r : Case) : Type 0 where
  pub name_is : r.name ≡ word_at s at
  pub begins : r.from ≡ onward s (onward s at 4) 4
  pub ends : r.to ≡ onward s r.from (word_at s (onward s at 4))
  pub ordered : r.from ≤ r.to
  pub within : r.to ≤ length s
  pub asked : AskedAt s r.to (record { first = r.first; end = r.end; moments = r.moments; inputs = r.inputs; values = r.values })
  pub answer : AnswerAt s (onward s r.to 28) (record { number = r.number; place = r.place; listed = r.listed; line = r.line })
  pub edges_are : r.edges ≡ onward s (onward s r.to 28) 16
  pub pairs_are : r.pairs ≡ onward s r.edges (r.listed * 8)
  pub next_is : r.next ≡ onward s r.pairs (r.listed * 8)

-- its schedule
abbrev pub schedule_in : List ℕ → Case → List ℕ
schedule_in s c = take (c.to - c.from) (drop c.from s)
