-- The edges of a span are exactly the changes in it, each once: an edge tells a change, each change of an input has an edge, and edges rise strictly.
-- s is a schedule, k an input, m and n are moments, a and b a span's start and end, e and f edges, c a number of inputs, p and q whether an input is open.
use mathlib.Core.Path.{◌≡◌, refl}
use mathlib.Core.Bool.{Bool, true, false, not}
use mathlib.Core.List.{List, [], ◌∷◌, ◌++◌, Memᴰ}
use mathlib.Core.Logic.{⊎_elim, inl, inr, ◌↔◌}
use Prim.Native.Nat.{ℕ, zero, suc, ◌+◌, ◌-◌, ◌≤◌, ◌<◌}
use native.Mathlib.Omega.{arith}
use lib.Dec.{eqb}
use borrow.Author.Tests.{eqb-true, eqb-false}
use Rattle.schedule.specs.Schedule.{Schedule}
use Rattle.schedule.specs.Union.{is_open}
use Rattle.schedule.specs.Edges.{Edge, change, changes, edges_at, edges_from, edges_in}
use Rattle.schedule.specs.Sentence.{open_value}
use Rattle.schedule.specs.Members.{IsEdge, InSpan, Precedes, Rising, none_rise, rise}

-- ── an edge tells a change ───────────────────────────────────────────────────────
-- of an input whose state before, and whose state at a moment is given
record Changed (n c : ℕ) (before at : ℕ → Bool) (e : Edge) : Type 0 where
  pub moment_is : e.moment ≡ n
  pub input_below : e.input < c
  pub value_is : e.value ≡ open_value (at e.input)
  pub differs : before e.input ≡ not (at e.input)

change_member : (n i : ℕ) (before at : ℕ → Bool) (e : Edge) (p q : Bool) → before i ≡ p → at i ≡ q → Memᴰ e (change n i p q)
    → Changed n (suc i) before at e × (e.input ≡ i)
unfolding change
change_member n i before at e false false u v h = absurd (mathlib.Core.List.Memᴰ.not-nil h)
change_member n i before at e false true u v h =
    let z = mathlib.Core.List.Memᴰ.eq_of_singleton h in
    rw z (record { moment_is = refl; input_below = omega arith; value_is = rw v; differs = rw v u }, refl)
change_member n i before at e true false u v h =
    let z = mathlib.Core.List.Memᴰ.eq_of_singleton h in
    rw z (record { moment_is = refl; input_below = omega arith; value_is = rw v; differs = rw v u }, refl)
change_member n i before at e true true u v h = absurd (mathlib.Core.List.Memᴰ.not-nil h)

more_inputs : {n c : ℕ} {before at : ℕ → Bool} {e : Edge} → Changed n c before at e → Changed n (suc c) before at e
more_inputs h = record { moment_is = h.moment_is; input_below = omega (arith, h.input_below); value_is = h.value_is; differs = h.differs }

changes_member : (n : ℕ) (before at : ℕ → Bool) (c : ℕ) (e : Edge) → Memᴰ e (changes n before at c) → Changed n c before at e
unfolding changes
changes_member n before at zero e h = absurd (mathlib.Core.List.Memᴰ.not-nil h)
changes_member n before at (suc c) e h =
    ⊎_elim (λ l. more_inputs (changes_member n before at c e l)) (λ r. (change_member n c before at e (before c) (at c) refl refl r).0)
    (mathlib.Core.List.Memᴰ.append_cases (changes n before at c) h)

module _ (s : Schedule) where
  pub member_at : (n : ℕ) (e : Edge) → Memᴰ e (edges_at s n) → IsEdge s e × (e.moment ≡ n)
  unfolding edges_at
  member_at zero e h = absurd (mathlib.Core.List.Memᴰ.not-nil h)
  member_at (suc n) e h =
      let g = changes_member (suc n) (λ i. is_open s i n) (λ i. is_open s i (suc n)) 16 e h in
      let m = g.moment_is in
      let l : e.moment - 1 ≡ n = omega arith in
      (record { above = omega arith; input_below = g.input_below; value_is = rw m g.value_is; differs = rw (l, m) g.differs }, m)

  member_from : (n x : ℕ) (e : Edge) → Memᴰ e (edges_from s n x) → InSpan s n (n + x) e
  unfolding edges_from
  member_from n zero e h = absurd (mathlib.Core.List.Memᴰ.not-nil h)
  member_from n (suc x) e h = ⊎_elim (λ l. here (member_at n e l)) (λ r. later (member_from (suc n) x e r)) (mathlib.Core.List.Memᴰ.append_cases (edges_at s n) h)
    where
      here : IsEdge s e × (e.moment ≡ n) → InSpan s n (n + suc x) e
      here g = record { is = g.0; from = omega (arith, g.1); before = omega (arith, g.1) }

      later : InSpan s (suc n) (suc n + x) e → InSpan s n (n + suc x) e
      later g = record { is = g.is; from = omega (arith, g.from); before = omega (arith, g.before) }

  -- every edge of a span is a change in it
  pub member_in : (a b : ℕ) (e : Edge) → Memᴰ e (edges_in s a b) → InSpan s a b e
  unfolding edges_in
  member_in a b e h =
      let g = member_from a (b - a) e h in
      record { is = g.is; from = g.from; before = omega (arith, g.from, g.before) }

-- ── each change has an edge ──────────────────────────────────────────────────────
-- the edge of an input at a moment
abbrev pub edge_of : Schedule → ℕ → ℕ → Edge
edge_of s m k = record { moment = m; input = k; value = open_value (is_open s k m) }

change_listed : (n i : ℕ) (p q : Bool) → (q ≡ p → ⊥) → Memᴰ (record { moment = n; input = i; value = open_value q }) (change n i p q)
unfolding change
change_listed n i false false h = absurd (h refl)
change_listed n i false true h = mathlib.Core.List.Memᴰ.head refl
change_listed n i true false h = mathlib.Core.List.Memᴰ.head refl
change_listed n i true true h = absurd (h refl)

changes_listed : (n : ℕ) (before at : ℕ → Bool) (c k : ℕ) → k < c → (at k ≡ before k → ⊥)
    → Memᴰ (record { moment = n; input = k; value = open_value (at k) }) (changes n before at c)
unfolding changes
changes_listed n before at zero k l h = absurd (let z : ⊥ = omega arith in z)
changes_listed n before at (suc c) k l h = go (λ l. changes_listed n before at c k l h) (eqb k c) refl
  where
    go : (k < c → Memᴰ (record { moment = n; input = k; value = open_value (at k) }) (changes n before at c)) → (t : Bool) → eqb k c ≡ t
        → Memᴰ (record { moment = n; input = k; value = open_value (at k) }) (changes n before at c ++ change n c (before c) (at c))
    go i true e = let z : k ≡ c = eqb-true k c e in mathlib.Core.List.Memᴰ.append_right (changes n before at c) (rw (← z) (change_listed n k (before k) (at k) h))
    go i false e = let z : k ≡ c → ⊥ = eqb-false k c e in mathlib.Core.List.Memᴰ.append_left (change n c (before c) (at c)) (i (omega arith))

module _ (s : Schedule) where
  pub listed_at : (k m : ℕ) → k < 16 → 0 < m → (is_open s k m ≡ is_open s k (m - 1) → ⊥) → Memᴰ (edge_of s m k) (edges_at s m)
  unfolding edges_at
  listed_at k zero l u h = absurd (let z : ⊥ = omega arith in z)
  listed_at k (suc m) l u h =
      let p : suc m - 1 ≡ m = omega arith in
      changes_listed (suc m) (λ i. is_open s i m) (λ i. is_open s i (suc m)) 16 k l (rw p at h)

  listed_from : (a x : ℕ) (e : Edge) (m : ℕ) → a ≤ m → m < a + x → Memᴰ e (edges_at s m) → Memᴰ e (edges_from s a x)
  unfolding edges_from
  listed_from a zero e m l u h = absurd (let z : ⊥ = omega arith in z)
  listed_from a (suc x) e m l u h = go (λ l u. listed_from (suc a) x e m l u h) (eqb a m) refl
    where
      go : (suc a ≤ m → m < suc a + x → Memᴰ e (edges_from s (suc a) x)) → (t : Bool) → eqb a m ≡ t
          → Memᴰ e (edges_at s a ++ edges_from s (suc a) x)
      go i true g = let z : a ≡ m = eqb-true a m g in mathlib.Core.List.Memᴰ.append_left {s = edges_at s a} (edges_from s (suc a) x) (rw z h)
      go i false g = let z : a ≡ m → ⊥ = eqb-false a m g in mathlib.Core.List.Memᴰ.append_right (edges_at s a) (i (omega arith) (omega arith))

  -- each change in a span has its edge in the list
  pub listed_in : (a b k m : ℕ) → k < 16 → a ≤ m → m < b → 0 < m → (is_open s k m ≡ is_open s k (m - 1) → ⊥) → Memᴰ (edge_of s m k) (edges_in s a b)
  unfolding edges_in
  listed_in a b k m l u v w h = listed_from a (b - a) (edge_of s m k) m u (omega arith) (listed_at k m l w h)

-- ── edges rise strictly ──────────────────────────────────────────────────────────
rising_append : {xs ys : List Edge} → Rising xs → Rising ys → ((e f : Edge) → Memᴰ e xs → Memᴰ f ys → Precedes e f) → Rising (xs ++ ys)
rising_append none_rise r h = r
rising_append {ys = ys} (rise {e = e} {es = xs} first l) r h =
    rise (λ f m. ⊎_elim (λ u. first f u) (λ u. h e f (mathlib.Core.List.Memᴰ.head refl) u) (mathlib.Core.List.Memᴰ.append_cases xs m))
    (rising_append l r (λ e f u v. h e f (mathlib.Core.List.Memᴰ.tail u) v))

change_rising : (n i : ℕ) (p q : Bool) → Rising (change n i p q)
unfolding change
change_rising n i false false = none_rise
change_rising n i false true = rise (λ f m. absurd (mathlib.Core.List.Memᴰ.not-nil m)) none_rise
change_rising n i true false = rise (λ f m. absurd (mathlib.Core.List.Memᴰ.not-nil m)) none_rise
change_rising n i true true = none_rise

changes_rising : (n : ℕ) (before at : ℕ → Bool) (c : ℕ) → Rising (changes n before at c)
unfolding changes
changes_rising n before at zero = none_rise
changes_rising n before at (suc c) =
    rising_append (changes_rising n before at c) (change_rising n c (before c) (at c))
    (λ e f u v. first e f (changes_member n before at c e u) (change_member n c before at f (before c) (at c) refl refl v))
  where
    first : (e f : Edge) → Changed n c before at e → Changed n (suc c) before at f × (f.input ≡ c) → Precedes e f
    first e f g h = record { comes_first = inr (omega (arith, g.moment_is, h.0.moment_is), omega (arith, g.input_below, h.1)) }

module _ (s : Schedule) where
  at_rising : (n : ℕ) → Rising (edges_at s n)
  unfolding edges_at
  at_rising zero = none_rise
  at_rising (suc n) = changes_rising (suc n) (λ i. is_open s i n) (λ i. is_open s i (suc n)) 16

  from_rising : (a x : ℕ) → Rising (edges_from s a x)
  unfolding edges_from
  from_rising a zero = none_rise
  from_rising a (suc x) =
      rising_append (at_rising a) (from_rising (suc a) x) (λ e f u v. first e f (member_at s a e u) (member_from s (suc a) x f v))
    where
      first : (e f : Edge) → IsEdge s e × (e.moment ≡ a) → InSpan s (suc a) (suc a + x) f → Precedes e f
      first e f g h = record { comes_first = inl (omega (arith, g.1, h.from)) }

  pub in_rising : (a b : ℕ) → Rising (edges_in s a b)
  unfolding edges_in
  in_rising a b = from_rising a (b - a)

-- ── the edges of a span ──────────────────────────────────────────────────────────
not_same : (p q : Bool) → q ≡ not p → p ≡ q → ⊥
not_same true q h e = let z : ◌≡◌ {A = ℕ} 0 1 = cc in omega arith
not_same false q h e = let z : ◌≡◌ {A = ℕ} 0 1 = cc in omega arith

-- exactly the changes in it
pub members_exactly_if : (s : Schedule) (a b : ℕ) (e : Edge) → Memᴰ e (edges_in s a b) ↔ InSpan s a b e
members_exactly_if s a b e = (member_in s a b e, there)
  where
    there : InSpan s a b e → Memᴰ e (edges_in s a b)
    there h =
        let g = h.is in
        let l : Memᴰ (edge_of s e.moment e.input) (edges_in s a b) =
        listed_in s a b e.input e.moment g.input_below h.from h.before g.above (not_same _ _ g.differs) in
        rw (← g.value_is) at l

-- each once: an edge of a rising list does not come again after itself
pub once : {e : Edge} {es : List Edge} → Rising (e ∷ es) → Memᴰ e es → ⊥
once {e} (rise first r) m = ⊎_elim (λ u. omega arith) (λ u. omega (arith, u.1)) (first e m).comes_first
