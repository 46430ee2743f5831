-- What the functions on words answer and leave.
use Rattle.std.specs.Prelude.{Bool, true, ◌≡◌, List, ◌++◌, ℕ, ◌≤◌, length, take, drop}

-- r says whether A holds
pub record Tells (r : Bool) (A : Type 0) : Type 0 where
  pub means : r ≡ true → A
  pub whenever : A → r ≡ true

-- the first n words of one memory put over those of another
abbrev pub copied : List ℕ → List ℕ → ℕ → List ℕ
copied from to n = take n from ++ drop n to

-- both memories have so many words, and the first so many are the same
pub record Begin (a b : List ℕ) (count : ℕ) : Type 0 where
  pub long_enough_lem : count ≤ length a
  pub other_long_enough : count ≤ length b
  pub same : take count a ≡ take count b
