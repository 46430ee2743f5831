-- The answer stored for a call.
use Rattle.std.specs.Prelude.{◌≡◌, List, ℕ, replicate}
use Rattle.test_cases.specs.Frame.{word_at, onward, moment_at}
use Rattle.test_lending.specs.Memories.{pattern}
use Rattle.test_stored_answers.specs.Pairs.{fitting, PairsPut}
use Rattle.test_stored_answers.specs.declared.Report.{Report}

-- the answer stored at a place
pub record AnswerAt (s : List ℕ) (at : ℕ) (r : Report) : Type 0 where
  pub number_is_lem : r.number ≡ word_at s at
  pub steps_are : r.steps ≡ word_at s (onward s at 4)
  pub listed_is : r.listed ≡ word_at s (onward s at 8)
  pub due_is : r.due ≡ moment_at s (onward s at 16)

-- an output list before the call
abbrev pub unlisted : List ℕ
unlisted = replicate 20 pattern

-- The answer stored at a place is this report; and of two lists that held nothing but the pattern, the pairs stored after it stand in the
-- first places. "places after them stay".
pub record AnswerRight (s : List ℕ) (at : ℕ) (found : Report) (numbers values : List ℕ) : Type 0 where
  pub answer : AnswerAt s at found
  pub outputs : PairsPut s (onward s at 24) (fitting found.listed unlisted unlisted) unlisted unlisted numbers values
