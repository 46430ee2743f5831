-- What a call must leave of a machine that was lent to it.
use Rattle.std.specs.Prelude.{◌≡◌, List, ℕ, ◌≤◌, ◌<◌, length, get_or, take, drop, replicate}
use Rattle.walk.specs.Calls.{memory_words, later_words}

-- the word that lists and machine are filled with before they are lent
abbrev pub pattern : ℕ
pattern = 2779096485

-- a memory before it is lent: 12 words more than are asked for
unfoldable pub unused_memory : List ℕ
unused_memory = replicate 12300 pattern

-- "The machine's first word holds the number (0 while running), its other 12,287 words are 0"
pub record StoppedForm (machine : List ℕ) (number : ℕ) : Type 0 where
  pub long_enough_lem : memory_words ≤ length machine
  pub first : get_or machine 0 0 ≡ number
  pub others : take 12287 (drop 1 machine) ≡ replicate (length (take 12287 (drop 1 machine))) 0

-- "Words past 12,288 are never touched."; "Up to 12 a refusal leaves all lent memory untouched"; a stop leaves the stopped form
pub record MachineRight (machine before : List ℕ) (number : ℕ) : Type 0 where
  pub past : later_words machine ≡ replicate (length (later_words machine)) pattern
  pub refused : 1 ≤ number → number ≤ 12 → machine ≡ before
  pub stopped : 12 < number → StoppedForm machine number
