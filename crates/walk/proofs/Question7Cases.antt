-- Cases of question 7's condition: what is no state of the walk. (What is one, and more that is none: walk_cases Question7Cases.)
use mathlib.Core.Path.{sym, ap}
use mathlib.Core.Bool.{Bool, true, false, true≢false}
use mathlib.Core.List.{List, [], ◌∷◌}
use Prim.Native.Nat.{ℕ, zero, suc, ◌+◌, ◌≤◌}
use native.Mathlib.Omega.{arith}
use lib.ListN.{length, replicate}
use Rattle.listing.specs.Listing.{Listing, by_reference, by_value, Call, Instruction, assign, schedule, branch, jump, wait, fork, end}
use Rattle.walk.specs.State.{due, Variable, Node, node, Forest, empty, more, State}
use Rattle.walk.specs.Instant.{environment_names, main_call}
use Rattle.walk.specs.Question7 as Question7
use Rattle.walk.specs.Question7.{IsState, Asleep, LiveChildren, waits, joins, ended, lives}
use Rattle.walk.specs.Evaluation.{calls_quoted}
use Rattle.walk.proofs.CallCases.{waits_for_ever, asleep, holding}

-- ── at rest, at a `W` or at an `F` of which a child lives ─────────────────────────────────────────
-- `P|0|0`, `R|-|1`, `F|1 0|1 0`, `E`, `R|v|0`, `W|0`, `E`
abbrev pub forks_two : Listing
forks_two = record {
  inputs = 0;
  outputs = 0;
  routines = record { kinds = []; locals = 1; code = fork (record { callee = 1; arguments = 0 ∷ [] } ∷ record { callee = 1; arguments = 0 ∷ [] } ∷ []) ∷ end ∷ [] } ∷
      record { kinds = by_value ∷ []; locals = 0; code = wait (0 ∷ []) ∷ end ∷ [] } ∷ [];
}

-- Main at its `F` with these children.
abbrev pub main_with : Forest → State
main_with children = record { now = 0; environment = []; tree = more (node 0 0 (0 ∷ []) (holding 4 ∷ []) children) empty }

-- "waiting writes due after the present moment": not at it.
pub due_now_is_no_state : ¬ IsState waits_for_ever (record { now = 5; environment = record { value = 3; written = false; waiting = due 5 1 } ∷ []; tree = asleep })
unfolding calls_quoted Question7.all_at_rest Question7.at_rest Question7.due_after
due_now_is_no_state s = true≢false (sym s.resting)

abbrev pub is_wait : Instruction → Bool
is_wait (assign n e) = false
is_wait (schedule n d e) = false
is_wait (branch e k) = false
is_wait (jump k) = false
is_wait (wait ns) = true
is_wait (fork cs) = false
is_wait end = false

-- What the condition says of the tree: main and all below it.
abbrev pub Tree : Listing → State → Type 0
Tree listing s = LiveChildren listing (Question7.all_at_rest s.now) 0 (length s.environment) (environment_names listing) (main_call listing ∷ []) s.tree

-- "each asleep at a `W` or at an `F` of which a child lives": an `F` without one.
pub fork_without_child_is_no_state : ¬ IsState forks_two (main_with empty)
unfolding calls_quoted Question7.some_alive
fork_without_child_is_no_state s = refuted s.tree
  where
    refuted : Tree forks_two (main_with empty) → ⊥
    refuted (lives (waits made at) rest) = true≢false (sym (ap is_wait at))
    refuted (lives (joins made at shallow alive children) rest) = true≢false (sym alive)
    refuted (ended x7) = elim x7 [ ]

-- ── "of at most 64 routines" ──────────────────────────────────────────────────────────────────────
-- A child field that calls routine r with the caller's first name.
abbrev pub calling : ℕ → Call
calling r = record { callee = r; arguments = 0 ∷ [] }

-- `P|1|0`; `R|r|0`, an `F` of these child fields, `E`; `R|r|0`, `F|2 0|2 0|..` of eight, `E`; `R|r|0`, `W|0`, `E`
abbrev pub forks_many : List Call → Listing
forks_many fields = record {
  inputs = 1;
  outputs = 0;
  routines = record { kinds = by_reference ∷ []; locals = 0; code = fork fields ∷ end ∷ [] } ∷
      record { kinds = by_reference ∷ []; locals = 0; code = fork (replicate 8 (calling 2)) ∷ end ∷ [] } ∷
      record { kinds = by_reference ∷ []; locals = 0; code = wait (0 ∷ []) ∷ end ∷ [] } ∷ [];
}

-- So many nodes alike.
unfoldable pub copies : ℕ → Node → Forest
copies zero n = empty
copies (suc k) n = more n (copies k n)

-- Routine 2 at its `W`; routine 1 at its `F`, with eight of those below it.
abbrev pub sleeper : Node
sleeper = node 2 0 (0 ∷ []) [] empty

abbrev pub nine : Node
nine = node 1 0 (0 ∷ []) [] (copies 8 sleeper)

-- Main at its `F` with these children, and one input.
abbrev pub main_above : Forest → State
main_above children = record { now = 0; environment = holding 4 ∷ []; tree = more (node 0 0 (0 ∷ []) [] children) empty }

-- One child more than the 64 routines of seven `nine` and main: the tree is right (walk_cases), and of 65.
abbrev pub eight_fields : List Call
eight_fields = calling 2 ∷ replicate 7 (calling 1)

abbrev pub sixty_five : State
sixty_five = main_above (more sleeper (copies 7 nine))

pub sixty_five_routines_are_no_state : ¬ IsState (forks_many eight_fields) sixty_five
unfolding calls_quoted copies
sixty_five_routines_are_no_state s = let many : 65 ≤ 64 = s.few in omega arith

-- ── "to level 10" ─────────────────────────────────────────────────────────────────────────────────
-- `P|1|0`, `R|r|0`, `F|0 0`, `W|0`, `E`: each level calls main again.
abbrev pub forks_itself : Listing
forks_itself = record {
  inputs = 1;
  outputs = 0;
  routines = record { kinds = by_reference ∷ []; locals = 0; code = fork (calling 0 ∷ []) ∷ wait (0 ∷ []) ∷ end ∷ [] } ∷ [];
}

-- So many levels below one at its `F`; the lowest is at its `W`.
unfoldable pub tower : ℕ → Node
tower zero = node 0 1 (0 ∷ []) [] empty
tower (suc k) = node 0 0 (0 ∷ []) [] (more (tower k) empty)

abbrev pub down_to : ℕ → State
down_to level = record { now = 0; environment = holding 4 ∷ []; tree = more (tower level) empty }

-- The first live child is made by one of the child fields.
first_live : {listing : Listing} {rest : List Variable → Bool} {level base : ℕ} {names : List ℕ} {cs : List Call} {n : Node} {f : Forest} →
    LiveChildren listing rest level base names cs (more n f) → (c : Call) × Asleep listing rest level base names c n
first_live (ended children) = first_live children
first_live (lives {c = c} a children) = (c, a)

tower_ends : {level base : ℕ} {names : List ℕ} {c : Call} (k : ℕ) → Asleep forks_itself (Question7.all_at_rest 0) level base names c (tower (suc k)) → level + k ≤ 9
unfolding tower
tower_ends zero (joins made at shallow alive children) = omega (arith, shallow)
tower_ends {level = level} (suc k) (joins made at shallow alive children) =
    let below = tower_ends {level = suc level} k (first_live children).1 in omega (arith, below)

pub asleep_at_level_11_is_no_state : ¬ IsState forks_itself (down_to 11)
asleep_at_level_11_is_no_state s = let deep : 0 + 10 ≤ 9 = tower_ends 10 (first_live s.tree).1 in omega arith
