-- The array of the soonest moments due of the blocks, as question 7's tests leave it (0: none). A block that passes its test has its moment put, place s
-- for slot s and place 64 for the environment; the first test that fails ends them, and the other places stay as they were.
use Rattle.std.specs.Prelude.{cond, ◌&&◌, List, ℕ, zero, suc, ◌+◌, get_or, set}
use Rattle.walk.specs.Instant.{NextDue, never, moment, due_of_variables}
use Rattle.machine.specs.Words.{environment_block, moment_at, variables_in, zero_from, block_rests, slot_holds, header_in_place}
use Rattle.machine_words.specs.Tests.{slot_due_lem}

unfoldable pub due_number : NextDue → ℕ
due_number never = 0
due_number (moment t) = t

-- The first m slots, the last of them first.
unfoldable pub slots_kept : ℕ → ℕ → List ℕ → ℕ → List ℕ → List ℕ
slots_kept n now w zero dues = dues
slots_kept n now w (suc m) dues = cond (slot_holds n now w m) (slots_kept n now w m (set dues m (due_number (slot_due_lem w m)))) dues

-- The environment, then the slots.
unfoldable pub blocks_kept : ℕ → List ℕ → List ℕ → List ℕ
blocks_kept size w dues =
    cond (zero_from w environment_block 8 && block_rests (moment_at w 1) w environment_block size)
    (slots_kept (get_or w 3 0) (moment_at w 1) w 64 (set dues 64 (due_number (due_of_variables (variables_in w (environment_block + 8) size))))) dues

-- The header comes first.
unfoldable pub words_kept : ℕ → List ℕ → List ℕ → List ℕ
words_kept size w dues = cond (header_in_place w) (blocks_kept size w dues) dues
