-- When the next waiting write is due. Of two moments due the earlier is before t if one of them is; due writes made at t leave
-- variables steady, if nothing was due before t; in a state of the walk nothing is due up to its present moment.
-- Letters: x and y what is due next, or never; t and now moments, xs variables, w a waiting write, v its value.
use mathlib.Core.Path.{◌≡◌, refl}
use mathlib.Core.Bool.{Bool, true, false, ◌&&◌, not}
use mathlib.Core.List.{List, [], ◌∷◌}
use Prim.Native.Nat.{ℕ, suc, ◌<◌, ◌≤◌}
use lib.Dec.{ltb, leb, eqb}
use borrow.Author.Tests.{lt-ltb, le-ltb, ltb-true, ltb-false, leb-true, leb-false, eqb-false}
use native.Mathlib.Omega.{arith}
use Rattle.listing.specs.Listing.{Listing, Call}
use Rattle.walk.specs.State.{Waiting, idle, due, Variable, Node, Forest, State, due_write, made_if_due, unmarked_of, made_due}
use Rattle.walk.specs.Instant.{due_writes, NextDue, never, moment, earlier_of, earlier, due_of, due_of_variables, due_of_node, due_of_forest, next_due}
use Rattle.walk.specs.Question7.{due_after, at_rest, all_at_rest, Asleep, waits, joins, LiveChildren, no_more, ended, lives, IsState}
use Rattle.walk.specs.Calls.{due_before}
use Rattle.walk_laws.proofs.Booleans.{and_left, and_right}
use Rattle.walk_laws.proofs.AtRest.{steady, all_steady}

-- ── the earlier of two ────────────────────────────────────────────────────────────────────────────
not_before : (m t : ℕ) → t ≤ m → due_before (moment m) t ≡ false
unfolding due_before
not_before m t h = le-ltb m t h

earlier_of_two : (first : Bool) (m n t : ℕ) → leb m n ≡ first → due_before (earlier_of first m n) t ≡ false → (t ≤ m) × (t ≤ n)
unfolding earlier_of due_before
earlier_of_two true m n t e h = let p : t ≤ m = ltb-false _ _ h in let q : m ≤ n = leb-true _ _ e in (p, omega arith)
earlier_of_two false m n t e h = let p : t ≤ n = ltb-false _ _ h in let q : n < m = leb-false _ _ e in (omega arith, p)

pub neither_due_before : (t : ℕ) (x y : NextDue) → due_before (earlier x y) t ≡ false → (due_before x t ≡ false) × (due_before y t ≡ false)
unfolding earlier due_before
neither_due_before t never y h = (refl, h)
neither_due_before t (moment m) never h = (h, refl)
neither_due_before t (moment m) (moment n) h = let (p, q) = earlier_of_two (leb m n) m n t refl h in (not_before m t p, not_before n t q)

one_of_two : (first : Bool) (m n t : ℕ) → due_before (moment m) t ≡ false → due_before (moment n) t ≡ false → due_before (earlier_of first m n) t ≡ false
unfolding earlier_of
one_of_two true m n t p q = p
one_of_two false m n t p q = q

pub earlier_not_before : (t : ℕ) (x y : NextDue) → due_before x t ≡ false → due_before y t ≡ false → due_before (earlier x y) t ≡ false
unfolding earlier
earlier_not_before t never y p q = q
earlier_not_before t (moment m) never p q = p
earlier_not_before t (moment m) (moment n) p q = one_of_two (leb m n) m n t p q

-- ── the writes due at t are made ──────────────────────────────────────────────────────────────────
made_if_due_steady : (now t : ℕ) (made : Bool) (x : Variable) (m v : ℕ) → x.waiting ≡ due m v → eqb m t ≡ made → x.value < 4294967296 →
    due_after now (due m v) ≡ true → t ≤ m → steady t (made_if_due made x v) ≡ true
unfolding made_if_due unmarked_of steady due_after
made_if_due_steady now t true x m v w e o h l = rw (and_right (ltb m 18446744073709551616) _ (and_right (ltb now m) _ h))
made_if_due_steady now t false x m v w e o h l =
    let other : m ≡ t → ⊥ = eqb-false _ _ e in
    let later : t < m = omega (arith, other) in
    rw (w, lt-ltb _ _ o, lt-ltb _ _ later, and_right (ltb now m) _ h)

due_write_steady : (now t : ℕ) (x : Variable) (w : Waiting) → x.waiting ≡ w → x.value < 4294967296 → due_after now w ≡ true →
    due_before (due_of w) t ≡ false → steady t (due_write t x w) ≡ true
unfolding due_write unmarked_of due_of due_before steady due_after
due_write_steady now t x idle w o h l = rw (w, lt-ltb _ _ o)
due_write_steady now t x (due m v) w o h l = made_if_due_steady now t (eqb m t) x m v w refl o h (ltb-false _ _ l)

pub due_writes_steady : (now t : ℕ) (xs : List Variable) → all_at_rest now xs ≡ true → due_before (due_of_variables xs) t ≡ false →
    all_steady t (due_writes t xs) ≡ true
unfolding due_writes made_due due_of_variables all_at_rest at_rest all_steady
due_writes_steady now t [] h l = refl
due_writes_steady now t (x ∷ xs) h l =
    let word = ltb x.value 4294967296 in
    let first = word && (not x.written && due_after now x.waiting) in
    let k = and_left first _ h in
    let later = and_right (not x.written) _ (and_right word _ k) in
    let (p, q) = neither_due_before t (due_of x.waiting) (due_of_variables xs) l in
    rw (due_write_steady now t x x.waiting refl (ltb-true _ _ (and_left word _ k)) later p, due_writes_steady now t xs (and_right first _ h) q)

-- ── nothing is due up to the present moment ───────────────────────────────────────────────────────
waiting_due_later : (now : ℕ) (w : Waiting) → due_after now w ≡ true → due_before (due_of w) (suc now) ≡ false
unfolding due_of due_before due_after
waiting_due_later now idle h = refl
waiting_due_later now (due m v) h = let later : now < m = ltb-true _ _ (and_left (ltb now m) _ h) in le-ltb m (suc now) (omega arith)

variables_due_later : (now : ℕ) (xs : List Variable) → all_at_rest now xs ≡ true → due_before (due_of_variables xs) (suc now) ≡ false
unfolding due_of_variables all_at_rest at_rest due_before
variables_due_later now [] h = refl
variables_due_later now (x ∷ xs) h =
    let word = ltb x.value 4294967296 in
    let first = word && (not x.written && due_after now x.waiting) in
    let later = and_right (not x.written) _ (and_right word _ (and_left first _ h)) in
    earlier_not_before (suc now) (due_of x.waiting) (due_of_variables xs) (waiting_due_later now x.waiting later) (variables_due_later now xs (and_right first _ h))

module _ {listing : Listing} (now : ℕ) where
  mutual
    unfolding due_of_forest due_before

    node_due_later : {level base : ℕ} {names : List ℕ} {c : Call} {n : Node} → Asleep listing (all_at_rest now) level base names c n →
        due_before (due_of_node n) (suc now) ≡ false
    node_due_later (waits {own = own} m i) = earlier_not_before (suc now) (due_of_variables own) never (variables_due_later now own m.resting) refl
    node_due_later (joins {own = own} {f = f} m i d a k) =
        earlier_not_before (suc now) (due_of_variables own) (due_of_forest f) (variables_due_later now own m.resting) (forest_due_later k)

    forest_due_later : {level base : ℕ} {names : List ℕ} {cs : List Call} {f : Forest} → LiveChildren listing (all_at_rest now) level base names cs f →
        due_before (due_of_forest f) (suc now) ≡ false
    forest_due_later no_more = refl
    forest_due_later (ended k) = forest_due_later k
    forest_due_later (lives {n = n} {f = f} a k) =
        earlier_not_before (suc now) (due_of_node n) (due_of_forest f) (node_due_later a) (forest_due_later k)

-- The next moment due of a state of the walk is after its present moment, or there is none.
pub next_due_after_now : (listing : Listing) (s : State) → IsState listing s → due_before (next_due s) (suc s.now) ≡ false
unfolding next_due
next_due_after_now listing s h =
    earlier_not_before (suc s.now) (due_of_variables s.environment) (due_of_forest s.tree)
    (variables_due_later s.now s.environment h.resting) (forest_due_later s.now h.tree)
