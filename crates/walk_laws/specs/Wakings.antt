-- The routines that wait: "A waiting routine is woken at most once in an instant."
use Rattle.std.specs.Prelude.{ℕ, ◌+◌}
use Rattle.listing.specs.Listing.{Listing, Instruction, assign, schedule, branch, jump, wait, fork, end}
use Rattle.walk.specs.State.{Node, node, Forest, empty, more}
use Rattle.walk.specs.Walk.{instruction_at}

-- A routine at a `W` waits.
unfoldable pub waits_at : Instruction → ℕ
waits_at (assign n e) = 0
waits_at (schedule n d e) = 0
waits_at (branch e k) = 0
waits_at (jump k) = 0
waits_at (wait ns) = 1
waits_at (fork cs) = 0
waits_at end = 0

-- How many of these routines wait.
module _ (listing : Listing) where
  unfoldable mutual
    pub waiting_in_node : Node → ℕ
    waiting_in_node (node r place names own children) = waits_at (instruction_at listing r place) + waiting_in_forest children

    pub waiting_in_forest : Forest → ℕ
    waiting_in_forest empty = 0
    waiting_in_forest (more n f) = waiting_in_node n + waiting_in_forest f
