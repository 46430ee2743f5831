-- What the tests of question 7 give that look for the next moment due on the way: nothing if the test fails, else the soonest moment found.
use Rattle.std.specs.Prelude.{◌≡◌, Bool, true, false, List, ℕ, zero, suc, ◌+◌, ◌≤◌, ◌<◌, get_or, Option, Some, None}
use Rattle.walk.specs.Instant.{NextDue, never, earlier, due_of_variables}
use Rattle.machine.specs.Words.{block_at, environment_block, variables_in}
use Rattle.machine.specs.Due.{due_at}

unfoldable pub test_of : Option ℕ → Option NextDue
test_of None = None
test_of (Some t) = Some (due_at t)

unfoldable pub tested : Bool → NextDue → Option NextDue
tested true d = Some d
tested false d = None

-- The soonest moment due in slot s; none if it is free, as its count of variables is 0 then.
unfoldable pub slot_due_lem : List ℕ → ℕ → NextDue
slot_due_lem w s = due_of_variables (variables_in w (block_at s + 8) (get_or w (block_at s + 4) 0))

-- In the first m slots.
unfoldable pub slots_due : List ℕ → ℕ → NextDue
slots_due w zero = never
slots_due w (suc m) = earlier (slot_due_lem w m) (slots_due w m)

-- The soonest over so many environment variables and the slots, block by block; of words in place it is machine `words_due`.
unfoldable pub blocks_due : ℕ → List ℕ → NextDue
blocks_due size w = earlier (due_of_variables (variables_in w (environment_block + 8) size)) (slots_due w 64)

-- ── the soonest moment due of each block, as it is kept (0: none): place s for slot s, place 64 for the environment ──
-- The slots from s on have theirs; the environment's is as it was.
pub record SlotDues (s : ℕ) (w before after : List ℕ) : Type 0 where
  pub slots : (q : ℕ) → s ≤ q → q < 64 → due_at (get_or after q 0) ≡ slot_due_lem w q
  pub outer : get_or after 64 0 ≡ get_or before 64 0

pub record Dues (size : ℕ) (w dues : List ℕ) : Type 0 where
  pub slots : (s : ℕ) → s < 64 → due_at (get_or dues s 0) ≡ slot_due_lem w s
  pub environment : due_at (get_or dues 64 0) ≡ due_of_variables (variables_in w (environment_block + 8) size)
