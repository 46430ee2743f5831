-- Words made 0.
use Rattle.std.specs.Prelude.{List, ◌++◌, ℕ, ◌-◌, take, drop, replicate}

-- Those from one place up to another.
unfoldable pub zeroed : ℕ → ℕ → List ℕ → List ℕ
zeroed from to l = take from l ++ (replicate (to - from) 0 ++ drop to l)

-- A machine's words when all are 0.
unfoldable pub blank_words : List ℕ
blank_words = replicate 12288 0
