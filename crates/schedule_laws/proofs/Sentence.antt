-- The customer's sentence, of the list of the edges from moment 0 on: an input is open at a moment exactly if its last edge at or before it opened.
-- s is a schedule, k an input, m the moment, n another moment, b the span's end, x a number of moments, v a value, c a number of inputs.
use mathlib.Core.Path.{◌≡◌, refl, sym, ap, ◌∙◌}
use mathlib.Core.Bool.{Bool, true, false, cond, ◌&&◌}
use mathlib.Core.List.{List, [], ◌∷◌, ◌++◌, map}
use mathlib.Core.Logic.{◌↔◌}
use Prim.Native.Nat.{ℕ, zero, suc, ◌+◌, ◌-◌, ◌≤◌, ◌<◌}
use native.Mathlib.Omega.{arith}
use lib.Dec.{eqb, leb, ltb}
use borrow.Author.Tests.{eq-eqb, ne_eqb, le-leb, lt-leb, eqb-true, eqb-false, ltb-true, ltb-false}
use Rattle.listing.specs.Lists.{all}
use Rattle.listing.proofs.Tests.{all_head, all_tail}
use Rattle.schedule.specs.Schedule.{Window, Schedule, IsSchedule, is_window}
use Rattle.schedule.specs.Union.{any, lies, is_open}
use Rattle.schedule.specs.Edges.{Edge, change, changes, edges_at, edges_from, edges_in}
use Rattle.schedule.specs.Sentence.{open_value, last_value, edges_of}
use Rattle.schedule_laws.proofs.Windows.{window_numbers}
use Rattle.schedule_laws.proofs.Spans.{from_sum, from_one}

-- ── the last value of joined lists ───────────────────────────────────────────────
module _ (k m : ℕ) where
  pub last_append : (v : ℕ) (xs ys : List Edge) → last_value k m v (xs ++ ys) ≡ last_value k m (last_value k m v xs) ys
  unfolding last_value
  last_append v [] ys = refl
  last_append v (e ∷ xs) ys = last_append (cond (eqb e.input k && leb e.moment m) e.value v) xs ys

  -- ── one moment ─────────────────────────────────────────────────────────────────
  -- a change of another input, or after the moment, leaves the value
  other_change : (n i : ℕ) (p q : Bool) (v : ℕ) → (i ≡ k → ⊥) → last_value k m v (change n i p q) ≡ v
  unfolding last_value change
  other_change n i false false v h = refl
  other_change n i false true v h = rw (ne_eqb i k h)
  other_change n i true false v h = rw (ne_eqb i k h)
  other_change n i true true v h = refl

  late_change : (n i : ℕ) (p q : Bool) (v : ℕ) → m < n → last_value k m v (change n i p q) ≡ v
  unfolding last_value change
  late_change n i false false v h = refl
  late_change n i false true v h = go (eqb i k)
    where
      go : (t : Bool) → cond (t && leb n m) 1 v ≡ v
      go true = rw (lt-leb n m h)
      go false = refl
  late_change n i true false v h = go (eqb i k)
    where
      go : (t : Bool) → cond (t && leb n m) 0 v ≡ v
      go true = rw (lt-leb n m h)
      go false = refl
  late_change n i true true v h = refl

  -- a change of the input at or before the moment is its value
  own_change : (n : ℕ) (p q : Bool) → n ≤ m → last_value k m (open_value p) (change n k p q) ≡ open_value q
  unfolding last_value change
  own_change n false false h = refl
  own_change n false true h = rw (eq-eqb k k refl, le-leb n m h)
  own_change n true false h = rw (eq-eqb k k refl, le-leb n m h)
  own_change n true true h = refl

  module _ (n : ℕ) (before at : ℕ → Bool) where
    other_changes : (c v : ℕ) → c ≤ k → last_value k m v (changes n before at c) ≡ v
    unfolding changes last_value
    other_changes zero v h = refl
    other_changes (suc c) v h =
        last_append v (changes n before at c) _
        ∙ rw (other_changes c v (omega arith)) (other_change n c (before c) (at c) v (λ e. omega arith))

    late_changes : (c v : ℕ) → m < n → last_value k m v (changes n before at c) ≡ v
    unfolding changes last_value
    late_changes zero v h = refl
    late_changes (suc c) v h =
        last_append v (changes n before at c) _ ∙ rw (late_changes c v h) (late_change n c (before c) (at c) v h)

    own_changes : (c : ℕ) → k < c → n ≤ m → last_value k m (open_value (before k)) (changes n before at c) ≡ open_value (at k)
    unfolding changes
    own_changes zero h l = absurd (let z : ⊥ = omega arith in z)
    own_changes (suc c) h l =
        last_append (open_value (before k)) (changes n before at c) _ ∙ go (λ h. own_changes c h l) (eqb c k) refl
      where
        go : (k < c → last_value k m (open_value (before k)) (changes n before at c) ≡ open_value (at k)) → (t : Bool) → eqb c k ≡ t
            → last_value k m (last_value k m (open_value (before k)) (changes n before at c)) (change n c (before c) (at c)) ≡ open_value (at k)
        go i true e =
            let z : c ≡ k = eqb-true c k e in
            rw (other_changes c (open_value (before k)) (omega arith), z) (own_change n (before k) (at k) l)
        go i false e =
            let z : c ≡ k → ⊥ = eqb-false c k e in
            other_change n c (before c) (at c) _ z ∙ i (omega arith)

-- ── the edges from moment 0 on ───────────────────────────────────────────────────
module _ (s : Schedule) (k m : ℕ) where
  -- those after the moment
  late_edges : (n x v : ℕ) → m < n → last_value k m v (edges_from s n x) ≡ v
  unfolding edges_from last_value edges_at
  late_edges n zero v h = refl
  late_edges zero (suc x) v h = absurd (let z : ⊥ = omega arith in z)
  late_edges (suc n) (suc x) v h =
      last_append k m v (edges_at s (suc n)) (edges_from s (suc (suc n)) x)
      ∙ rw (late_changes k m (suc n) _ _ 16 v h) (late_edges (suc (suc n)) x v (omega arith))

  one_more : (n : ℕ) → edges_from s 0 (suc n) ≡ edges_from s 0 n ++ edges_at s n
  one_more n =
      let p : n + 1 ≡ suc n = omega arith in
      let q : 0 + n ≡ n = omega arith in
      rw (p, q, from_one s n) at (from_sum s 0 n 1)

  -- those up to the moment, the last of them at n
  early_edges : (n : ℕ) → k < 16 → n ≤ m → last_value k m (open_value (is_open s k 0)) (edges_from s 0 (suc n)) ≡ open_value (is_open s k n)
  unfolding edges_from last_value edges_at
  early_edges zero h l = refl
  early_edges (suc n) h l =
      rw (one_more (suc n)) (last_append k m (open_value (is_open s k 0)) (edges_from s 0 (suc n)) (edges_at s (suc n))
      ∙ rw (early_edges n h (omega arith)) (own_changes k m (suc n) (λ i. is_open s i n) (λ i. is_open s i (suc n)) 16 h l))

  pub last_of_inputs : (b : ℕ) → k < 16 → m < b → last_value k m (open_value (is_open s k 0)) (edges_in s 0 b) ≡ open_value (is_open s k m)
  unfolding edges_in
  last_of_inputs b h l =
      let p : b - 0 ≡ suc m + (b - suc m) = omega arith in
      rw (p, from_sum s 0 (suc m) (b - suc m)) (last_append k m (open_value (is_open s k 0)) (edges_from s 0 (suc m)) (edges_from s (0 + suc m) (b - suc m))
      ∙ rw (early_edges m h (omega arith)) (late_edges (0 + suc m) (b - suc m) (open_value (is_open s k m)) (omega arith)))

  -- ── an input that is not there: no window has it, and no edge ──────────────────
  other_edges : (n x v : ℕ) → 16 ≤ k → last_value k m v (edges_from s n x) ≡ v
  unfolding edges_from last_value edges_at
  other_edges n zero v h = refl
  other_edges zero (suc x) v h = other_edges 1 x v h
  other_edges (suc n) (suc x) v h =
      last_append k m v (edges_at s (suc n)) (edges_from s (suc (suc n)) x)
      ∙ rw (other_changes k m (suc n) _ _ 16 v h) (other_edges (suc (suc n)) x v h)

not_there : (s : Schedule) (k m : ℕ) → IsSchedule s → 16 ≤ k → is_open s k m ≡ false
unfolding is_open any
not_there s k m g h = go s.windows g.windows_are
  where
    go : (ws : List Window) → all is_window ws ≡ true → any (λ w. eqb w.input k && lies s.date m w) ws ≡ false
    go [] a = refl
    go (w ∷ ws) a =
        let n = window_numbers w (all_head is_window w ws a) in
        let other : w.input ≡ k → ⊥ = λ e. omega arith in
        rw (ne_eqb w.input k other) (go ws (all_tail is_window w ws a))

-- ── the sentence ─────────────────────────────────────────────────────────────────
-- the value of the last edge at or before a moment, "a window open at moment 0 counting as opened there", tells whether the input is open
pub last_edge : (s : Schedule) → IsSchedule s → (k m b : ℕ) → m < b
    → last_value k m (open_value (is_open s k 0)) (edges_in s 0 b) ≡ open_value (is_open s k m)
unfolding edges_in
last_edge s g k m b l = go (ltb k 16) refl
  where
    go : (t : Bool) → ltb k 16 ≡ t → last_value k m (open_value (is_open s k 0)) (edges_in s 0 b) ≡ open_value (is_open s k m)
    go true e = last_of_inputs s k m b (ltb-true k 16 e) l
    go false e =
        let h : 16 ≤ k = ltb-false k 16 e in
        other_edges s k m 0 (b - 0) (open_value (is_open s k 0)) h ∙ rw (not_there s k 0 g h, not_there s k m g h)

-- "a moment above 0 lies in the union .. exactly if the last edge at or before it opened" (at moment 0 too, where there is no edge)
pub sentence : (s : Schedule) → IsSchedule s → (k m b : ℕ) → m < b → (is_open s k m ≡ true) ↔ (last_value k m (open_value (is_open s k 0)) (edges_in s 0 b) ≡ 1)
sentence s g k m b l = (λ h. last_edge s g k m b l ∙ ap open_value h, λ h. opened (is_open s k m) (sym (last_edge s g k m b l) ∙ h))
  where
    opened : (t : Bool) → open_value t ≡ 1 → t ≡ true
    opened true e = refl
    opened false e = absurd (let z : ⊥ = omega arith in z)

-- ── edges as three lists ─────────────────────────────────────────────────────────
pub edges_of_lem : (es : List Edge) → edges_of (map (λ e. e.moment) es) (map (λ e. e.input) es) (map (λ e. e.value) es) ≡ es
unfolding edges_of
edges_of_lem [] = refl
edges_of_lem (e ∷ es) = ap (λ (es : List Edge). e ∷ es) (edges_of_lem es)
