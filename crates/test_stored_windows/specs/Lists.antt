-- The lists that are lent, and what is stored of them.
use Rattle.std.specs.Prelude.{List, ◌++◌, ℕ, min, length, drop, replicate}
use Rattle.test_cases.specs.Frame.{moment_at}
use Rattle.test_lending.specs.Memories.{pattern}
use Rattle.test_stored_answers.specs.Pairs.{each_pair, fitting, PairsPut}

-- so many moments from a place on: each has 8 bytes, as a pair of words
abbrev pub moments_at : List ℕ → ℕ → ℕ → List ℕ
moments_at s at n = each_pair (moment_at s) s at n

-- lists before they are lent: 100 places of junk, of which the first so many are lent
unfoldable pub junk_moments : List ℕ
junk_moments = replicate 100 11936128518282651045

unfoldable pub junk_words : List ℕ
junk_words = replicate 100 pattern

-- The stored moments put over the first places of a list, so many or as many as it has: "places past them stay". A refusal lists nothing.
unfoldable pub moments_put : List ℕ → ℕ → ℕ → List ℕ → List ℕ
moments_put s at listed list = moments_at s at (min listed (length list)) ++ drop (min listed (length list)) list

-- the same of inputs and values, by pairs
abbrev pub WordsPut : List ℕ → ℕ → ℕ → List ℕ → List ℕ → List ℕ → List ℕ → Type 0
WordsPut s at listed inputs values inputs' values' = PairsPut s at (fitting listed inputs values) inputs values inputs' values'
