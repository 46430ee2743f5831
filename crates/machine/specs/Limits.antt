-- What questions 3 and 4 give of a listing, as far as the machine's layout needs it.
use Rattle.std.specs.Prelude.{◌≡◌, List, ℕ, ◌≤◌, length}
use Rattle.listing.specs.Listing.{Listing, Call, fork}
use Rattle.walk.specs.Walk.{routine_at, instruction_at}
use Rattle.walk.specs.Instant.{environment_size}
use Rattle.walk.specs.Question7.{owned_by}

pub record WithinLimits (listing : Listing) : Type 0 where
  -- "16 names a routine"
  pub owned : (r : ℕ) → owned_by listing r ≤ 16
  -- "512 instructions in all"
  pub code : (r : ℕ) → length (routine_at listing r).code ≤ 512
  -- "`F|c|c..` forks 1 to 8 children"
  pub children : (r place : ℕ) (cs : List Call) → instruction_at listing r place ≡ fork cs → length cs ≤ 8
  -- "Main has i + o arguments", at most 16 names
  pub ports : environment_size listing ≤ 16
