-- What listing the outputs leaves in the two lent lists.
use Rattle.std.specs.Prelude.{Bool, true, false, ◌≡◌, List, ◌++◌, map, ℕ, ◌+◌, length, drop, set}
use Rattle.walk.specs.Instant.{Write}
use Rattle.engine_blocks.specs.Blocks.{block, variable_in}

-- A word put at a place, or not.
unfoldable pub put_if : Bool → List ℕ → ℕ → ℕ → List ℕ
put_if true l place v = set l place v
put_if false l place v = l

unfoldable pub count_if : Bool → ℕ → ℕ
count_if true count = count + 1
count_if false count = count

-- Environment variable i put at a place, if it was written. The lent lists before and after; r is the next place.
pub record ListedOne (m : List ℕ) (i place : ℕ) (numbers₀ values₀ numbers₁ values₁ : List ℕ) (r : ℕ) : Type 0 where
  pub count : r ≡ count_if (variable_in (block m 64) i).written place
  pub numbers : numbers₁ ≡ put_if (variable_in (block m 64) i).written numbers₀ place i
  pub values : values₁ ≡ put_if (variable_in (block m 64) i).written values₀ place (variable_in (block m 64) i).value

-- The lists begin with the numbers and the values of these writes; "places after them stay".
pub record Listed (ws : List Write) (numbers₀ values₀ numbers₁ values₁ : List ℕ) (r : ℕ) : Type 0 where
  pub count : r ≡ length ws
  pub numbers : numbers₁ ≡ map (λ (w : Write). w.number) ws ++ drop (length ws) numbers₀
  pub values : values₁ ≡ map (λ (w : Write). w.value) ws ++ drop (length ws) values₀
