-- More cases of question 7's condition: states, reachable or not, and more that are none.
use mathlib.Core.Path.{◌≡◌, refl, sym, ap}
use mathlib.Core.Bool.{Bool, true, false, true≢false}
use mathlib.Core.List.{List, [], ◌∷◌}
use Prim.Native.Nat.{ℕ, zero, suc, ◌+◌, ◌≤◌}
use native.Mathlib.Omega.{arith}
use lib.ListN.{replicate}
use Rattle.listing.specs.Listing.{Call, Instruction, assign, schedule, branch, jump, wait, fork, end}
use Rattle.walk.specs.State.{idle, due, Node, node, Forest, empty, more, State}
use Rattle.walk.specs.Memory.{top}
use Rattle.walk.specs.Question7 as Question7
use Rattle.walk.specs.Question7.{IsState, Asleep, LiveChildren, waits, joins, no_more, ended, lives}
use Rattle.walk.specs.Evaluation.{calls_quoted}
use Rattle.walk.proofs.CallCases.{waits_for_ever, asleep, holding, at_five}
use Rattle.walk.proofs.Question7Cases.{forks_two, main_with, is_wait, Tree, calling, forks_many, copies, sleeper, nine, main_above, eight_fields, sixty_five, forks_itself, tower, down_to}

-- ── states ────────────────────────────────────────────────────────────────────────────────────────
-- Main asleep at its wait, at moment 5.
pub asleep_at_a_wait_is_a_state : IsState waits_for_ever at_five
unfolding calls_quoted Question7.all_at_rest Question7.at_rest Question7.due_after Question7.owned_by Question7.owned_count Question7.bound_names
asleep_at_a_wait_is_a_state = record {
  moment = omega arith;
  size = refl;
  resting = refl;
  tree = lives (waits (record { number = refl; bound = refl; owned = refl; resting = refl }) refl) no_more;
  few = omega arith;
}

-- "none after main's end": any moment, any values, a write due at the last moment.
pub main_ended_is_a_state : IsState waits_for_ever (record { now = 7; environment = record { value = 9; written = false; waiting = due 18446744073709551615 1 } ∷ []; tree = empty })
unfolding calls_quoted Question7.all_at_rest Question7.at_rest Question7.due_after
main_ended_is_a_state = record { moment = omega arith; size = refl; resting = refl; tree = ended no_more; few = omega arith }

abbrev pub child : Forest → Forest
child others = more (node 1 0 (1 ∷ []) (holding 4 ∷ []) empty) others

-- The first child has ended.
pub one_child_of_two_is_a_state : IsState forks_two (main_with (child empty))
unfolding calls_quoted Question7.all_at_rest Question7.at_rest Question7.due_after Question7.owned_by Question7.owned_count Question7.bound_names Question7.some_alive
one_child_of_two_is_a_state = record {
  moment = omega arith;
  size = refl;
  resting = refl;
  tree = lives (joins {level = 0} (record { number = refl; bound = refl; owned = refl; resting = refl }) refl (omega arith) refl
      (ended (lives (waits (record { number = refl; bound = refl; owned = refl; resting = refl }) refl) no_more))) no_more;
  few = omega arith;
}

-- ── no states ─────────────────────────────────────────────────────────────────────────────────────
-- A mark is left; a variable is missing.
pub mark_left_is_no_state : ¬ IsState waits_for_ever (record { now = 5; environment = record { value = 3; written = true; waiting = idle } ∷ []; tree = asleep })
unfolding calls_quoted Question7.all_at_rest Question7.at_rest Question7.due_after
mark_left_is_no_state s = true≢false (sym s.resting)

pub variable_missing_is_no_state : ¬ IsState waits_for_ever (record { now = 5; environment = []; tree = empty })
unfolding calls_quoted
variable_missing_is_no_state s = let none : ◌≡◌ {A = ℕ} 0 1 = s.size in omega arith

abbrev pub is_fork : Instruction → Bool
is_fork (assign n e) = false
is_fork (schedule n d e) = false
is_fork (branch e k) = false
is_fork (jump k) = false
is_fork (wait ns) = false
is_fork (fork cs) = true
is_fork end = false

-- Main alone at moment 5, at this place and with these names.
abbrev pub main_at : ℕ → List ℕ → State
main_at place names = record { now = 5; environment = holding 3 ∷ []; tree = more (node 0 place names [] empty) empty }

-- Main at its `G`.
pub at_a_jump_is_no_state : ¬ IsState waits_for_ever (main_at 1 (0 ∷ []))
unfolding calls_quoted
at_a_jump_is_no_state s = refuted s.tree
  where
    refuted : Tree waits_for_ever (main_at 1 (0 ∷ [])) → ⊥
    refuted (lives (waits made at) rest) = true≢false (sym (ap is_wait at))
    refuted (lives (joins made at shallow alive children) rest) = true≢false (sym (ap is_fork at))
    refuted (ended x7) = elim x7 [ ]

-- "children and their names as that `F` binds them, main's as the start does": main's one name is the input.
pub other_names_are_no_state : ¬ IsState waits_for_ever (main_at 0 (1 ∷ []))
unfolding calls_quoted Question7.bound_names
other_names_are_no_state s = refuted s.tree
  where
    refuted : Tree waits_for_ever (main_at 0 (1 ∷ [])) → ⊥
    refuted (lives (waits made at) rest) = let wrong : ◌≡◌ {A = ℕ} 1 0 = ap top made.bound in omega arith
    refuted (lives (joins made at shallow alive children) rest) = true≢false (sym (ap is_fork at))
    refuted (ended x7) = elim x7 [ ]

-- ── "of at most 64 routines" ──────────────────────────────────────────────────────────────────────
module _ (fields : List Call) where
  -- Child fields alike make nodes alike.
  pub copies_live : {level : ℕ} {c : Call} {n : Node} (k : ℕ) → Asleep (forks_many fields) (Question7.all_at_rest 0) level 1 (0 ∷ []) c n →
      LiveChildren (forks_many fields) (Question7.all_at_rest 0) level 1 (0 ∷ []) (replicate k c) (copies k n)
  unfolding copies
  copies_live zero a = no_more
  copies_live (suc k) a = lives a (copies_live k a)

  pub sleeper_asleep : {level : ℕ} → Asleep (forks_many fields) (Question7.all_at_rest 0) level 1 (0 ∷ []) (calling 2) sleeper
  unfolding calls_quoted Question7.all_at_rest Question7.owned_by Question7.owned_count Question7.bound_names
  sleeper_asleep = waits (record { number = refl; bound = refl; owned = refl; resting = refl }) refl

  pub nine_asleep : Asleep (forks_many fields) (Question7.all_at_rest 0) 1 1 (0 ∷ []) (calling 1) nine
  unfolding calls_quoted copies Question7.all_at_rest Question7.owned_by Question7.owned_count Question7.bound_names Question7.some_alive
  nine_asleep = joins {level = 1} (record { number = refl; bound = refl; owned = refl; resting = refl }) refl (omega arith) refl (copies_live 8 sleeper_asleep)

  -- With children that are right, the tree is right.
  pub tree_above : {children : Forest} → Question7.some_alive children ≡ true →
      LiveChildren (forks_many fields) (Question7.all_at_rest 0) 1 1 (0 ∷ []) fields children → Tree (forks_many fields) (main_above children)
  unfolding calls_quoted Question7.all_at_rest Question7.owned_by Question7.owned_count Question7.bound_names
  tree_above alive children =
      lives (joins {level = 0} (record { number = refl; bound = refl; owned = refl; resting = refl }) refl (omega arith) alive children) no_more

-- Main, seven below it and eight below each of the seven.
pub sixty_four_routines_are_a_state : IsState (forks_many (replicate 7 (calling 1))) (main_above (copies 7 nine))
unfolding calls_quoted copies Question7.all_at_rest Question7.at_rest Question7.due_after Question7.some_alive
sixty_four_routines_are_a_state = record {
  moment = omega arith;
  size = refl;
  resting = refl;
  tree = let fields = replicate 7 (calling 1) in tree_above fields refl (copies_live fields 7 (nine_asleep fields));
  few = omega arith;
}

-- One more below main: the tree is right, and of 65.
pub sixty_five_routines_are_a_tree : Tree (forks_many eight_fields) sixty_five
unfolding copies Question7.some_alive
sixty_five_routines_are_a_tree =
    tree_above eight_fields refl (lives (sleeper_asleep eight_fields) (copies_live eight_fields 7 (nine_asleep eight_fields)))

-- ── "to level 10" ─────────────────────────────────────────────────────────────────────────────────
tower_asleep : (k level : ℕ) → level + k ≤ 10 → Asleep forks_itself (Question7.all_at_rest 0) level 1 (0 ∷ []) (calling 0) (tower k)
unfolding calls_quoted tower Question7.all_at_rest Question7.owned_by Question7.owned_count Question7.bound_names Question7.some_alive
tower_asleep zero level h = waits (record { number = refl; bound = refl; owned = refl; resting = refl }) refl
tower_asleep (suc k) level h =
    joins {level = level} (record { number = refl; bound = refl; owned = refl; resting = refl }) refl (omega arith) refl
    (lives (tower_asleep k (suc level) (omega arith)) no_more)

pub asleep_at_level_10_is_a_state : IsState forks_itself (down_to 10)
unfolding calls_quoted tower Question7.all_at_rest Question7.at_rest Question7.due_after
asleep_at_level_10_is_a_state = record {
  moment = omega arith;
  size = refl;
  resting = refl;
  tree = lives (tower_asleep 10 0 (omega arith)) no_more;
  few = omega arith;
}
