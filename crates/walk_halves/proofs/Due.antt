-- Moments due: that none is before a given one, and what due writes and the end of the marks do to them.
-- Letters: t a moment, d and e next moments due, x a variable, xs variables, f a forest.
use mathlib.Core.Path.{◌≡◌, refl, ap, ap₂}
use mathlib.Core.Bool.{Bool, true, false}
use mathlib.Core.List.{List, [], ◌∷◌, ◌++◌}
use Prim.Native.Nat.{ℕ, zero, suc, ◌≤◌}
use native.Mathlib.Omega.{arith}
use native.Mathlib.Decide.{ℕ_discrete}
use borrow.Author.Tests.{leb-true, leb-false, ltb-false, eqb-false, ne_eqb}
use lib.Dec.{leb, eqb}
use lib.ListN.{get_or, take, drop, set}
use Rattle.walk.specs.State.{Waiting, idle, due, Variable, Node, node, Forest, empty, more, ◌⊕◌, no_variable, new_variable, due_write, made_if_due, unmarked_of, made_due}
use Rattle.walk.specs.Instant.{due_writes, due_in_node, due_in_forest, unmarked, unmarked_node, unmarked_forest, NextDue, never, moment, earlier_of, earlier, due_of, due_of_variables, due_of_node, due_of_forest}
use Rattle.walk.specs.Calls.{due_before}

pub data NotBefore (t : ℕ) : NextDue → Type 0 where
  nothing_due : NotBefore t never
  due_from : {m : ℕ} → t ≤ m → NotBefore t (moment m)

pub from_moment : (t m : ℕ) → NotBefore t (moment m) → t ≤ m
from_moment t m (due_from h) = h

-- Question 10's answer.
pub none_due_before : (t : ℕ) (d : NextDue) → due_before d t ≡ false → NotBefore t d
unfolding due_before
none_due_before t never e = nothing_due
none_due_before t (moment m) e = due_from (ltb-false m t e)

pub due-now? : (d : NextDue) (t : ℕ) → Dec (d ≡ moment t)
due-now? never t = no (λ e. let z : ◌≡◌ {A = ℕ} 0 1 = cc in omega arith)
due-now? (moment m) t = go (ℕ_discrete m t)
  where
    go : Dec (m ≡ t) → Dec (moment m ≡ moment t)
    go (yes e) = yes (ap moment e)
    go (no h) = no (λ e. h (cc))

pub not_now_so_later : (t : ℕ) (d : NextDue) → NotBefore t d → (d ≡ moment t → ⊥) → NotBefore (suc t) d
not_now_so_later t _ nothing_due h = nothing_due
not_now_so_later t _ (due_from {m = m} k) h = due_from (go (ℕ_discrete m t))
  where
    go : Dec (m ≡ t) → suc t ≤ m
    go (yes e) = absurd (h (ap moment e))
    go (no e) = omega arith

-- ── the earlier of two ────────────────────────────────────────────────────────────────────────────
pub both_not_before : (t : ℕ) (d e : NextDue) → NotBefore t d → NotBefore t e → NotBefore t (earlier d e)
unfolding earlier earlier_of
both_not_before t _ e nothing_due k = k
both_not_before t _ _ (due_from h) nothing_due = due_from h
both_not_before t _ _ (due_from {m = a} h) (due_from {m = b} k) = go (leb a b)
  where
    go : (x : Bool) → NotBefore t (earlier_of x a b)
    go true = due_from h
    go false = due_from k

pub neither_before : (t : ℕ) (d e : NextDue) → NotBefore t (earlier d e) → NotBefore t d × NotBefore t e
unfolding earlier earlier_of
neither_before t never e h = (nothing_due, h)
neither_before t (moment a) never h = (h, nothing_due)
neither_before t (moment a) (moment b) h = go (leb a b) refl h
  where
    go : (x : Bool) → leb a b ≡ x → NotBefore t (earlier_of x a b) → NotBefore t (moment a) × NotBefore t (moment b)
    go true e k = (k, due_from {m = b} (omega (arith, leb-true a b e, from_moment t a k)))
    go false e k = (due_from {m = a} (omega (arith, leb-false a b e, from_moment t b k)), k)

-- ── variables ─────────────────────────────────────────────────────────────────────────────────────
module _ (t : ℕ) where
  pub append_not_before : (xs ys : List Variable) → NotBefore t (due_of_variables xs) → NotBefore t (due_of_variables ys) →
      NotBefore t (due_of_variables (xs ++ ys))
  unfolding due_of_variables
  append_not_before [] ys h k = k
  append_not_before (x ∷ xs) ys h k =
      let (first, rest) = neither_before t _ _ h in both_not_before t _ _ first (append_not_before xs ys rest k)

  pub take_not_before : (n : ℕ) (xs : List Variable) → NotBefore t (due_of_variables xs) → NotBefore t (due_of_variables (take n xs))
  unfolding due_of_variables
  take_not_before zero xs h = nothing_due
  take_not_before (suc n) [] h = nothing_due
  take_not_before (suc n) (x ∷ xs) h =
      let (first, rest) = neither_before t _ _ h in both_not_before t _ _ first (take_not_before n xs rest)

  pub drop_not_before : (n : ℕ) (xs : List Variable) → NotBefore t (due_of_variables xs) → NotBefore t (due_of_variables (drop n xs))
  unfolding due_of_variables
  drop_not_before zero xs h = h
  drop_not_before (suc n) [] h = nothing_due
  drop_not_before (suc n) (x ∷ xs) h = let (first, rest) = neither_before t _ _ h in drop_not_before n xs rest

  pub set_not_before : (xs : List Variable) (a : ℕ) (x : Variable) → NotBefore t (due_of_variables xs) → NotBefore t (due_of x.waiting) →
      NotBefore t (due_of_variables (set xs a x))
  unfolding due_of_variables
  set_not_before [] a x h k = nothing_due
  set_not_before (y ∷ xs) zero x h k = let (first, rest) = neither_before t _ _ h in both_not_before t _ _ k rest
  set_not_before (y ∷ xs) (suc a) x h k =
      let (first, rest) = neither_before t _ _ h in both_not_before t _ _ first (set_not_before xs a x rest k)

  pub get_or-not_before : (xs : List Variable) (a : ℕ) → NotBefore t (due_of_variables xs) → NotBefore t (due_of (get_or xs a no_variable).waiting)
  unfolding due_of_variables due_of no_variable new_variable
  get_or-not_before [] a h = nothing_due
  get_or-not_before (x ∷ xs) zero h = (neither_before t _ _ h).0
  get_or-not_before (x ∷ xs) (suc a) h = get_or-not_before xs a (neither_before t _ _ h).1

-- ── due writes: what was due at t is made, so the rest is later ───────────────────────────────────
pub due_write_leaves_later : (t : ℕ) (x : Variable) (w : Waiting) → x.waiting ≡ w → NotBefore t (due_of w) →
    NotBefore (suc t) (due_of (due_write t x w).waiting)
unfolding due_write due_of made_if_due unmarked_of
due_write_leaves_later t x idle w h = rw w nothing_due
due_write_leaves_later t x (due m v) w h = go (eqb m t) refl
  where
    go : (made : Bool) → eqb m t ≡ made → NotBefore (suc t) (due_of (made_if_due made x v).waiting)
    go true e = nothing_due
    go false e = rw w (not_now_so_later t (moment m) h (λ k. eqb-false m t e (cc)))

pub due_writes_leave_later : (t : ℕ) (xs : List Variable) → NotBefore t (due_of_variables xs) → NotBefore (suc t) (due_of_variables (due_writes t xs))
unfolding due_of_variables due_writes made_due
due_writes_leave_later t [] h = nothing_due
due_writes_leave_later t (x ∷ xs) h =
    let (first, rest) = neither_before t _ _ h in
    both_not_before (suc t) _ _ (due_write_leaves_later t x x.waiting refl first) (due_writes_leave_later t xs rest)

mutual
  unfolding due_of_forest due_in_forest

  due_in_node_leaves_later : (n : Node) (t : ℕ) → NotBefore t (due_of_node n) → NotBefore (suc t) (due_of_node (due_in_node n t))
  due_in_node_leaves_later (node r place names own children) t h =
      let (mine, theirs) = neither_before t (due_of_variables own) (due_of_forest children) h in
      both_not_before (suc t) _ _ (due_writes_leave_later t own mine) (due_in_forest_leaves_later children t theirs)

  pub due_in_forest_leaves_later : (f : Forest) (t : ℕ) → NotBefore t (due_of_forest f) → NotBefore (suc t) (due_of_forest (due_in_forest f t))
  due_in_forest_leaves_later empty t h = nothing_due
  due_in_forest_leaves_later (more n f) t h =
      let (first, rest) = neither_before t (due_of_node n) (due_of_forest f) h in
      both_not_before (suc t) _ _ (due_in_node_leaves_later n t first) (due_in_forest_leaves_later f t rest)

-- ── nothing due: only the marks go ────────────────────────────────────────────────────────────────
dueless_write : (t : ℕ) (x : Variable) (w : Waiting) → NotBefore (suc t) (due_of w) → due_write t x w ≡ unmarked_of x
unfolding due_write made_if_due due_of
dueless_write t x idle h = refl
dueless_write t x (due m v) h = rw (ne_eqb m t (λ (e : m ≡ t). omega (arith, from_moment (suc t) m h)))

pub dueless_writes : (t : ℕ) (xs : List Variable) → NotBefore (suc t) (due_of_variables xs) → due_writes t xs ≡ unmarked xs
unfolding due_writes made_due unmarked due_of_variables
dueless_writes t [] h = refl
dueless_writes t (x ∷ xs) h =
    let (first, rest) = neither_before (suc t) _ _ h in ap₂ ◌∷◌ (dueless_write t x x.waiting first) (dueless_writes t xs rest)

mutual
  unfolding due_in_forest unmarked_forest due_of_forest

  dueless_in_node : (n : Node) (t : ℕ) → NotBefore (suc t) (due_of_node n) → due_in_node n t ≡ unmarked_node n
  dueless_in_node (node r place names own children) t h =
      let (mine, theirs) = neither_before (suc t) (due_of_variables own) (due_of_forest children) h in
      ap₂ (node r place names) (dueless_writes t own mine) (dueless_in_forest children t theirs)

  pub dueless_in_forest : (f : Forest) (t : ℕ) → NotBefore (suc t) (due_of_forest f) → due_in_forest f t ≡ unmarked_forest f
  dueless_in_forest empty t h = refl
  dueless_in_forest (more n f) t h =
      let (first, rest) = neither_before (suc t) (due_of_node n) (due_of_forest f) h in ap₂ more (dueless_in_node n t first) (dueless_in_forest f t rest)

-- ── the end of the marks ──────────────────────────────────────────────────────────────────────────
pub unmarking_keeps_due : (xs : List Variable) → due_of_variables (unmarked xs) ≡ due_of_variables xs
unfolding due_of_variables unmarked unmarked_of
unmarking_keeps_due [] = refl
unmarking_keeps_due (x ∷ xs) = ap (earlier (due_of x.waiting)) (unmarking_keeps_due xs)

mutual
  unfolding due_of_forest unmarked_forest

  unmarking_keeps_due_of_node : (n : Node) → due_of_node (unmarked_node n) ≡ due_of_node n
  unmarking_keeps_due_of_node (node r place names own children) = ap₂ earlier (unmarking_keeps_due own) (unmarking_keeps_due_of_forest children)

  pub unmarking_keeps_due_of_forest : (f : Forest) → due_of_forest (unmarked_forest f) ≡ due_of_forest f
  unmarking_keeps_due_of_forest empty = refl
  unmarking_keeps_due_of_forest (more n f) = ap₂ earlier (unmarking_keeps_due_of_node n) (unmarking_keeps_due_of_forest f)

pub unmarked_twice : (xs : List Variable) → unmarked (unmarked xs) ≡ unmarked xs
unfolding unmarked unmarked_of
unmarked_twice [] = refl
unmarked_twice (x ∷ xs) = ap₂ ◌∷◌ refl (unmarked_twice xs)

mutual
  unfolding unmarked_forest

  unmarked_node_twice : (n : Node) → unmarked_node (unmarked_node n) ≡ unmarked_node n
  unmarked_node_twice (node r place names own children) = ap₂ (node r place names) (unmarked_twice own) (unmarked_forest_twice children)

  pub unmarked_forest_twice : (f : Forest) → unmarked_forest (unmarked_forest f) ≡ unmarked_forest f
  unmarked_forest_twice empty = refl
  unmarked_forest_twice (more n f) = ap₂ more (unmarked_node_twice n) (unmarked_forest_twice f)

-- ── forests side by side ──────────────────────────────────────────────────────────────────────────
pub due_in_both : (f g : Forest) (t : ℕ) → due_in_forest (f ⊕ g) t ≡ due_in_forest f t ⊕ due_in_forest g t
unfolding ◌⊕◌ due_in_forest
due_in_both empty g t = refl
due_in_both (more n f) g t = ap (more (due_in_node n t)) (due_in_both f g t)

pub unmarked_both : (f g : Forest) → unmarked_forest (f ⊕ g) ≡ unmarked_forest f ⊕ unmarked_forest g
unfolding ◌⊕◌ unmarked_forest
unmarked_both empty g = refl
unmarked_both (more n f) g = ap (more (unmarked_node n)) (unmarked_both f g)

pub not_before_in_either : (t : ℕ) (f g : Forest) → NotBefore t (due_of_forest (f ⊕ g)) → NotBefore t (due_of_forest f) × NotBefore t (due_of_forest g)
unfolding ◌⊕◌ due_of_forest
not_before_in_either t empty g h = (nothing_due, h)
not_before_in_either t (more n f) g h =
    let (first, rest) = neither_before t (due_of_node n) (due_of_forest (f ⊕ g)) h in
    let (left, right) = not_before_in_either t f g rest in
    (both_not_before t _ _ first left, right)

pub not_before_in_both : (t : ℕ) (f g : Forest) → NotBefore t (due_of_forest f) → NotBefore t (due_of_forest g) → NotBefore t (due_of_forest (f ⊕ g))
unfolding ◌⊕◌ due_of_forest
not_before_in_both t empty g h k = k
not_before_in_both t (more n f) g h k =
    let (first, rest) = neither_before t (due_of_node n) (due_of_forest f) h in both_not_before t _ _ first (not_before_in_both t f g rest k)
