-- "the next moment due or none", read off the machine's words.
use Rattle.std.specs.Prelude.{List, [], ◌∷◌, ℕ, zero, suc, ◌+◌, get_or}
use Rattle.walk.specs.Instant.{NextDue, never, moment, earlier, due_of_variables}
use Rattle.machine.specs.Records.{Record}
use Rattle.machine.specs.Words.{environment_block, variables_in, records_in}

-- A due moment is at least 1, so 0 means none.
unfoldable pub due_at : ℕ → NextDue
due_at zero = never
due_at (suc t) = moment (suc t)

unfoldable pub records_due : List Record → NextDue
records_due [] = never
records_due (x ∷ xs) = earlier (due_of_variables x.own) (records_due xs)

-- The soonest over so many environment variables and the live records.
unfoldable pub words_due : ℕ → List ℕ → NextDue
words_due size w = earlier (due_of_variables (variables_in w (environment_block + 8) size)) (records_due (records_in w 0 (get_or w 3 0)))
