-- The shape of a tree, whatever its variables hold: due writes and the end of marks change variables alone.
-- Letters: f a forest, n a node, own a routine's variables, `rest` and `rest'` what they may be before and after, t the moment.
use mathlib.Core.Path.{◌≡◌, refl, ap, ap₂, ◌∙◌}
use mathlib.Core.Bool.{Bool, true}
use mathlib.Core.List.{List, [], ◌∷◌}
use Prim.Native.Nat.{ℕ, suc, ◌+◌}
use lib.ListN.{length}
use native.Mathlib.Omega.{arith}
use Rattle.listing.specs.Listing.{Listing, Call}
use Rattle.walk.specs.State.{Variable, Node, node, Forest, empty, more, ◌⊕◌, live_in_node, live_in_forest}
use Rattle.walk.specs.Instant.{due_writes, due_in_node, due_in_forest, unmarked, unmarked_node, unmarked_forest, NextDue, earlier, due_of_variables, due_of_node, due_of_forest, never}
use Rattle.walk.specs.Question7.{MadeBy, Asleep, waits, joins, LiveChildren, no_more, ended, lives, some_alive}
use Rattle.walk_laws.proofs.AtRest.{length_unmarked}

-- ── the number of live routines ───────────────────────────────────────────────────────────────────
pub live_in_both : (f g : Forest) → live_in_forest (f ⊕ g) ≡ live_in_forest f + live_in_forest g
unfolding live_in_forest ◌⊕◌
live_in_both empty g = omega arith
live_in_both (more n f) g = rw (live_in_both f g) (omega arith)

mutual
  unfolding due_in_forest live_in_forest

  due_writes_keep_live_in_node : (n : Node) (t : ℕ) → live_in_node (due_in_node n t) ≡ live_in_node n
  due_writes_keep_live_in_node (node r place names own children) t = ap suc (due_writes_keep_live children t)

  pub due_writes_keep_live : (f : Forest) (t : ℕ) → live_in_forest (due_in_forest f t) ≡ live_in_forest f
  due_writes_keep_live empty t = refl
  due_writes_keep_live (more n f) t = ap₂ (λ x y. x + y) (due_writes_keep_live_in_node n t) (due_writes_keep_live f t)

mutual
  unfolding unmarked_forest live_in_forest

  unmarking_keeps_live_in_node : (n : Node) → live_in_node (unmarked_node n) ≡ live_in_node n
  unmarking_keeps_live_in_node (node r place names own children) = ap suc (unmarking_keeps_live children)

  pub unmarking_keeps_live : (f : Forest) → live_in_forest (unmarked_forest f) ≡ live_in_forest f
  unmarking_keeps_live empty = refl
  unmarking_keeps_live (more n f) = ap₂ (λ x y. x + y) (unmarking_keeps_live_in_node n) (unmarking_keeps_live f)

-- ── due writes ────────────────────────────────────────────────────────────────────────────────────
pub length-due_writes : (t : ℕ) (own : List Variable) → length (due_writes t own) ≡ length own
unfolding due_writes
length-due_writes t [] = refl
length-due_writes t (x ∷ own) = ap suc (length-due_writes t own)

due_writes_keep_alive : (f : Forest) (t : ℕ) → some_alive (due_in_forest f t) ≡ some_alive f
unfolding due_in_forest some_alive
due_writes_keep_alive empty t = refl
due_writes_keep_alive (more n f) t = refl

-- `Late` is what is asked of the moments due.
module _ (listing : Listing) (t : ℕ) (rest rest' : List Variable → Bool) (Late : NextDue → Type 0)
    (both : (x y : NextDue) → Late (earlier x y) → Late x × Late y)
    (kept : (own : List Variable) → rest own ≡ true → Late (due_of_variables own) → rest' (due_writes t own) ≡ true) where
  due_writes_keep_maker : {base : ℕ} {callerNames : List ℕ} {c : Call} {r : ℕ} {names : List ℕ} {own : List Variable} →
      MadeBy listing rest base callerNames c r names own → Late (due_of_variables own) → MadeBy listing rest' base callerNames c r names (due_writes t own)
  due_writes_keep_maker {own = own} m l =
      record { number = m.number; bound = m.bound; owned = length-due_writes t own ∙ m.owned; resting = kept own m.resting l }

  mutual
    unfolding due_in_forest due_of_forest

    due_writes_keep_asleep : {level base : ℕ} {names : List ℕ} {c : Call} {n : Node} →
        Asleep listing rest level base names c n → Late (due_of_node n) → Asleep listing rest' level base names c (due_in_node n t)
    due_writes_keep_asleep (waits {own = own} m i) l = let (p, q) = both (due_of_variables own) never l in waits (due_writes_keep_maker m p) i
    due_writes_keep_asleep (joins {own = own} {f = f} m i d a k) l =
        let (p, q) = both (due_of_variables own) (due_of_forest f) l in
        joins (due_writes_keep_maker m p) i d (due_writes_keep_alive f t ∙ a) (rw (length-due_writes t own) (due_writes_keep_children k q))

    pub due_writes_keep_children : {level base : ℕ} {names : List ℕ} {cs : List Call} {f : Forest} →
        LiveChildren listing rest level base names cs f → Late (due_of_forest f) → LiveChildren listing rest' level base names cs (due_in_forest f t)
    due_writes_keep_children no_more l = no_more
    due_writes_keep_children (ended k) l = ended (due_writes_keep_children k l)
    due_writes_keep_children (lives {n = n} {f = f} a k) l =
        let (p, q) = both (due_of_node n) (due_of_forest f) l in lives (due_writes_keep_asleep a p) (due_writes_keep_children k q)

-- Nothing is asked: the shape alone stays.
unfoldable pub anything : List Variable → Bool
anything own = true

pub due_writes_keep_shape : {listing : Listing} {rest : List Variable → Bool} {level base : ℕ} {names : List ℕ} {cs : List Call} {f : Forest} (t : ℕ) →
    LiveChildren listing rest level base names cs f → LiveChildren listing anything level base names cs (due_in_forest f t)
unfolding anything
due_writes_keep_shape {listing} {rest} t k = due_writes_keep_children listing t rest anything (λ x. Unit {0}) (λ x y l. (tt, tt)) (λ own h l. refl) k tt

-- ── the marks go ──────────────────────────────────────────────────────────────────────────────────
unmarking_keeps_alive : (f : Forest) → some_alive (unmarked_forest f) ≡ some_alive f
unfolding unmarked_forest some_alive
unmarking_keeps_alive empty = refl
unmarking_keeps_alive (more n f) = refl

module _ (listing : Listing) (rest rest' : List Variable → Bool) (kept : (own : List Variable) → rest own ≡ true → rest' (unmarked own) ≡ true) where
  unmarking_keeps_maker : {base : ℕ} {callerNames : List ℕ} {c : Call} {r : ℕ} {names : List ℕ} {own : List Variable} →
      MadeBy listing rest base callerNames c r names own → MadeBy listing rest' base callerNames c r names (unmarked own)
  unmarking_keeps_maker {own = own} m =
      record { number = m.number; bound = m.bound; owned = length_unmarked own ∙ m.owned; resting = kept own m.resting }

  mutual
    unfolding unmarked_forest

    unmarking_keeps_asleep : {level base : ℕ} {names : List ℕ} {c : Call} {n : Node} →
        Asleep listing rest level base names c n → Asleep listing rest' level base names c (unmarked_node n)
    unmarking_keeps_asleep (waits m i) = waits (unmarking_keeps_maker m) i
    unmarking_keeps_asleep (joins {own = own} {f = f} m i d a k) =
        joins (unmarking_keeps_maker m) i d (unmarking_keeps_alive f ∙ a) (rw (length_unmarked own) (unmarking_keeps_children k))

    pub unmarking_keeps_children : {level base : ℕ} {names : List ℕ} {cs : List Call} {f : Forest} →
        LiveChildren listing rest level base names cs f → LiveChildren listing rest' level base names cs (unmarked_forest f)
    unmarking_keeps_children no_more = no_more
    unmarking_keeps_children (ended k) = ended (unmarking_keeps_children k)
    unmarking_keeps_children (lives a k) = lives (unmarking_keeps_asleep a) (unmarking_keeps_children k)
