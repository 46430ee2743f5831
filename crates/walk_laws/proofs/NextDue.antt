-- The next moment due is the earliest: every waiting write of a state is due then or later, and one is due then.
-- Letters: t and m are moments, x and y next moments due or none, xs variables, n a routine, f a forest, s a state.
use mathlib.Core.Path.{◌≡◌, refl}
use mathlib.Core.Bool.{Bool, true, false}
use mathlib.Core.List.{List, [], ◌∷◌}
use mathlib.Core.Logic.{◌⊎◌, inl, inr, ⊎_elim}
use Prim.Native.Nat.{ℕ, ◌≤◌, ◌<◌}
use lib.Dec.{leb}
use native.Mathlib.Nat.{le_refl, le_trans}
use native.Mathlib.Omega.{arith}
use borrow.Author.Tests.{leb-true, leb-false}
use Rattle.walk.specs.State.{Waiting, idle, due, Variable, Node, node, Forest, empty, more, State}
use Rattle.walk.specs.Instant.{NextDue, never, moment, earlier_of, earlier, due_of, due_of_variables, due_of_node, due_of_forest, next_due}

-- ── a waiting write due at t: among variables, in a routine with all below it, in a forest, in a state ──
pub data WriteDueAmong (t : ℕ) : List Variable → Type 0 where
  on_first : {x : Variable} {xs : List Variable} {v : ℕ} → x.waiting ≡ due t v → WriteDueAmong t (x ∷ xs)
  on_later : {x : Variable} {xs : List Variable} → WriteDueAmong t xs → WriteDueAmong t (x ∷ xs)

mutual
  pub data WriteDueInNode (t : ℕ) : Node → Type 0 where
    among_own : {r place : ℕ} {names : List ℕ} {own : List Variable} {children : Forest} →
        WriteDueAmong t own → WriteDueInNode t (node r place names own children)
    below : {r place : ℕ} {names : List ℕ} {own : List Variable} {children : Forest} →
        WriteDueInForest t children → WriteDueInNode t (node r place names own children)

  pub data WriteDueInForest (t : ℕ) : Forest → Type 0 where
    in_first : {n : Node} {f : Forest} → WriteDueInNode t n → WriteDueInForest t (more n f)
    in_later : {n : Node} {f : Forest} → WriteDueInForest t f → WriteDueInForest t (more n f)

pub data WriteDueIn (t : ℕ) (s : State) : Type 0 where
  in_environment_lem : WriteDueAmong t s.environment → WriteDueIn t s
  in_tree : WriteDueInForest t s.tree → WriteDueIn t s

-- ── every waiting write is due at the next moment due or later ────────────────────────────────────
-- A moment, and no later than t.
pub data NoLaterThan (t : ℕ) : NextDue → Type 0 where
  no_later : {m : ℕ} → m ≤ t → NoLaterThan t (moment m)

earlier_of-left : (t a b : ℕ) (test : Bool) → leb a b ≡ test → a ≤ t → NoLaterThan t (earlier_of test a b)
unfolding earlier_of
earlier_of-left t a b true e l = no_later l
earlier_of-left t a b false e l = no_later {m = b} (omega (arith, leb-false a b e))

earlier_of-right : (t a b : ℕ) (test : Bool) → leb a b ≡ test → b ≤ t → NoLaterThan t (earlier_of test a b)
unfolding earlier_of
earlier_of-right t a b true e l = no_later (le_trans (leb-true a b e) l)
earlier_of-right t a b false e l = no_later l

earlier_left : {t : ℕ} (x y : NextDue) → NoLaterThan t x → NoLaterThan t (earlier x y)
unfolding earlier
earlier_left _ never (no_later l) = no_later l
earlier_left _ (moment b) (no_later {m = a} l) = earlier_of-left _ a b _ refl l

earlier_right : {t : ℕ} (x y : NextDue) → NoLaterThan t y → NoLaterThan t (earlier x y)
unfolding earlier
earlier_right never _ (no_later l) = no_later l
earlier_right (moment a) _ (no_later {m = b} l) = earlier_of-right _ a b _ refl l

among_no_earlier : {t : ℕ} {xs : List Variable} → WriteDueAmong t xs → NoLaterThan t (due_of_variables xs)
unfolding due_of_variables due_of
among_no_earlier (on_first e) = earlier_left _ _ (rw e (no_later (le_refl _)))
among_no_earlier (on_later w) = earlier_right _ _ (among_no_earlier w)

mutual
  unfolding due_of_node

  node_no_earlier : {t : ℕ} {n : Node} → WriteDueInNode t n → NoLaterThan t (due_of_node n)
  node_no_earlier (among_own w) = earlier_left _ _ (among_no_earlier w)
  node_no_earlier (below w) = earlier_right _ _ (forest_no_earlier w)

  forest_no_earlier : {t : ℕ} {f : Forest} → WriteDueInForest t f → NoLaterThan t (due_of_forest f)
  forest_no_earlier (in_first w) = earlier_left _ _ (node_no_earlier w)
  forest_no_earlier (in_later w) = earlier_right _ _ (forest_no_earlier w)

pub none_due_before_next : (t : ℕ) (s : State) → WriteDueIn t s → NoLaterThan t (next_due s)
unfolding next_due
none_due_before_next t s (in_environment_lem w) = earlier_left _ _ (among_no_earlier w)
none_due_before_next t s (in_tree w) = earlier_right _ _ (forest_no_earlier w)

-- ── some waiting write is due at the next moment due ──────────────────────────────────────────────
earlier_of-is_one : (t a b : ℕ) (test : Bool) → earlier_of test a b ≡ moment t → (moment a ≡ moment t) ⊎ (moment b ≡ moment t)
unfolding earlier_of
earlier_of-is_one t a b true e = inl e
earlier_of-is_one t a b false e = inr e

earlier_is_one : (t : ℕ) (x y : NextDue) → earlier x y ≡ moment t → (x ≡ moment t) ⊎ (y ≡ moment t)
unfolding earlier
earlier_is_one t never y e = inr e
earlier_is_one t (moment a) never e = inl e
earlier_is_one t (moment a) (moment b) e = earlier_of-is_one t a b _ e

waiting_is_due : (t : ℕ) (w : Waiting) → due_of w ≡ moment t → (v : ℕ) × (w ≡ due t v)
unfolding due_of
waiting_is_due t idle e = let z : ◌≡◌ {A = ℕ} 0 1 = cc in absurd (omega arith)
waiting_is_due t (due m v) e = let same : m ≡ t = cc in (v, rw same)

among_is_due : (t : ℕ) (xs : List Variable) → due_of_variables xs ≡ moment t → WriteDueAmong t xs
unfolding due_of_variables
among_is_due t [] e = let z : ◌≡◌ {A = ℕ} 0 1 = cc in absurd (omega arith)
among_is_due t (x ∷ xs) e =
    ⊎_elim (λ p. on_first (waiting_is_due t x.waiting p).1) (λ p. on_later (among_is_due t xs p)) (earlier_is_one t _ _ e)

mutual
  unfolding due_of_node

  node_is_due : (n : Node) (t : ℕ) → due_of_node n ≡ moment t → WriteDueInNode t n
  node_is_due (node r place names own children) t e =
      ⊎_elim (λ p. among_own (among_is_due t own p)) (λ p. below (forest_is_due children t p)) (earlier_is_one t _ _ e)

  forest_is_due : (f : Forest) (t : ℕ) → due_of_forest f ≡ moment t → WriteDueInForest t f
  forest_is_due empty t e = let z : ◌≡◌ {A = ℕ} 0 1 = cc in absurd (omega arith)
  forest_is_due (more n f) t e =
      ⊎_elim (λ p. in_first (node_is_due n t p)) (λ p. in_later (forest_is_due f t p)) (earlier_is_one t _ _ e)

pub one_is_due_at_next : (t : ℕ) (s : State) → next_due s ≡ moment t → WriteDueIn t s
unfolding next_due
one_is_due_at_next t s e =
    ⊎_elim (λ p. in_environment_lem (among_is_due t _ p)) (λ p. in_tree (forest_is_due s.tree t p)) (earlier_is_one t _ _ e)

-- ── a moment at which nothing is due ──────────────────────────────────────────────────────────────
-- Nothing is due at t: the next moment due is none, or after t.
pub data DueOnlyAfter (t : ℕ) : NextDue → Type 0 where
  never_due : DueOnlyAfter t never
  due_later : {m : ℕ} → t < m → DueOnlyAfter t (moment m)

not_both : {t : ℕ} (x : NextDue) → DueOnlyAfter t x → NoLaterThan t x → ⊥
not_both _ (due_later l) (no_later l') = omega arith
not_both {t = t} _ never_due x4 = elim x4 [ ]

pub nothing_due_at : (t : ℕ) (s : State) → DueOnlyAfter t (next_due s) → ¬ WriteDueIn t s
nothing_due_at t s h w = not_both _ h (none_due_before_next t s w)
