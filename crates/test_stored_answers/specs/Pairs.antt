-- Pairs of a number and a value, as the file has them one after the other.
use Rattle.std.specs.Prelude.{◌≡◌, List, ◌++◌, ℕ, min, length, drop}
use Rattle.test_cases.specs.Entries.{entries_from}
use Rattle.test_cases.specs.Frame.{word_at, onward}

-- what f reads at each of so many pairs from a place on
abbrev pub each_pair : (ℕ → ℕ) → List ℕ → ℕ → ℕ → List ℕ
each_pair f s at n = entries_from f (λ (i : ℕ). onward s i 8) at n

-- the numbers, and the values
abbrev pub numbers_at : List ℕ → ℕ → ℕ → List ℕ
numbers_at s at n = each_pair (word_at s) s at n

abbrev pub values_at : List ℕ → ℕ → ℕ → List ℕ
values_at s at n = each_pair (λ (i : ℕ). word_at s (onward s i 4)) s at n

-- so many of them as both lists have room for
abbrev pub fitting : ℕ → List ℕ → List ℕ → ℕ
fitting count numbers values = min count (min (length numbers) (length values))

-- put over the first places of two lists
pub record PairsPut (s : List ℕ) (from n : ℕ) (numbers values numbers' values' : List ℕ) : Type 0 where
  pub numbers_are : numbers' ≡ numbers_at s from n ++ drop n numbers
  pub values_are : values' ≡ values_at s from n ++ drop n values
