-- Questions 9 and 11 in one pass over the lists. Letters: b the moment before, s the outputs seen in it as bits, t those seen late, ms moments, os
-- outputs, vs values, e earlier writes, k a place.
use mathlib.Core.Path.{◌≡◌, refl, sym, ap, ◌∙◌}
use mathlib.Core.Bool.{Bool, true, false, cond, ◌&&◌, not}
use mathlib.Core.List.{List, [], ◌∷◌}
use mathlib.Core.Logic.{◌⊎◌, inl, inr}
use Prim.Native.Nat.{ℕ, ◌+◌, ◌*◌, ◌%◌, ◌^◌, ◌≤◌, ◌<◌}
use native.Mathlib.Decide.{dec_lt}
use native.Mathlib.Nat.{le_of_suc-le-suc, zero-lt-suc, mod-lt, max-eq_left}
use native.Mathlib.Omega.{arith}
use lib.Bits.{bit_or}
use lib.Dec.{eqb, leb, ltb, lit<}
use lib.ListN.{length}
use lib.Pow.{shl_exact}
use borrow.Author.Tests.{le-leb, lt-leb, leb-true, leb-false, lt-ltb, le-ltb, ltb-true, eq-eqb, ne_eqb, eqb-true, eqb-false}
use Rattle.openings.specs.Writes.{Write, writes_of}
use Rattle.openings.specs.Order.{precedes}
use Rattle.openings.specs.Questions.{rise_from, listed_among, once_after}
use Rattle.openings.specs.InOrder.{in_order_from}
use Rattle.openings.specs.Verdicts.{verdict_by, verdict}
use Rattle.openings.specs.declared.Order.{Order}
use Rattle.openings.specs.declared.Order.TheVariants.{InOrder, AnyOrder}
use Rattle.std.specs.Prelude.{Option, Some, None}
use Rattle.openings.proofs.All.{All, none, each, weaker}
use Rattle.openings.proofs.Sorting.{sooner, less_precedes, not_precedes}
use Rattle.openings.proofs.Mask.{bit_of, from, has, or_odd, or_none_lem, has_more, Below, none_below, none_has, more_below}

-- the outputs seen in the moment m so far
abbrev pub seen_in : ℕ → ℕ → ℕ → ℕ
seen_in m b s = cond (eqb m b) s 0

-- what those seen late tell
unfoldable pub told : ℕ → Option Order
told t = cond (eqb t 0) (Some InOrder) (cond (eqb (t % 2) 1) None (Some AnyOrder))

-- what is left of the pass
unfoldable pub pass_from : ℕ → ℕ → ℕ → List ℕ → List ℕ → Option Order
pass_from b s t [] os = told t
pass_from b s t (m ∷ ms) [] = told t
pass_from b s t (m ∷ ms) (o ∷ os) =
    cond (ltb o 16 && leb b m) (pass_from m (bit_or (seen_in m b s) (bit_of o)) (bit_or t (from (seen_in m b s) o)) ms os) None

-- ── the outputs seen are those listed ─────────────────────────────────────────────────────────────
abbrev write_of : ℕ → ℕ → ℕ → Write
write_of m o v = record { moment = m; output = o; value = v }

-- s has the outputs of the moment b, which is the last, among the earlier writes
record Seen (e : List Write) (b s : ℕ) : Type 0 where
  listed : (o v : ℕ) → has s o ≡ listed_among (write_of b o v) e
  latest : All (λ (x : Write). x.moment ≤ b) e

none_listed : (m o v : ℕ) (e : List Write) → All (λ (x : Write). x.moment < m) e → listed_among (write_of m o v) e ≡ false
unfolding listed_among
none_listed m o v [] none = refl
none_listed m o v (x ∷ e) (each h a) = rw (ne_eqb x.moment m (λ q. omega arith)) (none_listed m o v e a)

module _ (e : List Write) (b s : ℕ) (v : Seen e b s) (m : ℕ) (l : b ≤ m) where
  seen_in_lem : Seen e m (seen_in m b s)
  seen_in_lem = go (eqb m b) refl
    where
      less : (m ≡ b → ⊥) → b < m
      less n = omega arith

      go : (c : Bool) → eqb m b ≡ c → Seen e m (cond c s 0)
      go true q = rw (eqb-true m b q) v
      go false q =
          let h = less (eqb-false m b q) in
          record {
            listed = λ o u. none_has o ∙ sym (none_listed m o u e (weaker (λ x g. omega arith) e v.latest));
            latest = weaker (λ x g. omega arith) e v.latest;
          }

  seen_more : (o u : ℕ) → Seen (write_of m o u ∷ e) m (bit_or (seen_in m b s) (bit_of o))
  unfolding listed_among
  seen_more o u = record {
    listed = λ p w. has_more (seen_in m b s) o p ∙ rw (eq-eqb m m refl, seen_in_lem.listed p w);
    latest = each {x = write_of m o u} (omega arith) seen_in_lem.latest;
  }

-- ── late outputs and the order ────────────────────────────────────────────────────────────────────
not_below_lem : (o l : ℕ) → not (ltb o l) ≡ leb l o
not_below_lem o l = go (dec_lt o l)
  where
    go : Dec (o < l) → not (ltb o l) ≡ leb l o
    go (yes h) = rw (lt-ltb o l h, lt-leb l o h)
    go (no h) = rw (le-ltb o l (omega arith), le-leb l o (omega arith))

in_one_moment : (m o b l : ℕ) → m ≡ b → precedes m o b l ≡ ltb o l
in_one_moment m o b l e = let h : b ≤ m = omega arith in rw (le-ltb m b h, eq-eqb m b e)

late_precedes : (m o b s l : ℕ) → b ≤ m → Below s l → eqb (from (seen_in m b s) o) 0 ≡ not (precedes m o b l)
late_precedes m o b s l h below = go (eqb m b) refl
  where
    go : (c : Bool) → eqb m b ≡ c → eqb (from (cond c s 0) o) 0 ≡ not (precedes m o b l)
    go true q = below o ∙ sym (not_below_lem o l) ∙ ap not (sym (in_one_moment m o b l (eqb-true m b q)))
    go false q = none_below o ∙ rw (le-leb 0 o (omega arith), not_precedes m o b l h (λ z. absurd (eqb-false m b q z)))

-- a write more: in order still, or not
order_on : (m o b s l t : ℕ) (ms os : List ℕ) → o < 16 → b ≤ m → (t ≡ 0 → Below s l) →
    (eqb t 0 && in_order_from b l (m ∷ ms) (o ∷ os)) ≡ (eqb (bit_or t (from (seen_in m b s) o)) 0 && in_order_from m (o + 1) ms os)
unfolding in_order_from
order_on m o b s l t ms os low h below = go (eqb t 0) refl
  where
    x : ℕ
    x = from (seen_in m b s) o

    go : (c : Bool) → eqb t 0 ≡ c →
        (c && (ltb o 16 && (not (precedes m o b l) && in_order_from m (o + 1) ms os))) ≡ (eqb (bit_or t x) 0 && in_order_from m (o + 1) ms os)
    go true z =
        let same = eqb-true t 0 z in
        rw (lt-ltb o 16 low, same, late_precedes m o b s l h (below same))
    go false z = rw (ne_eqb (bit_or t x) 0 (λ q. eqb-false t 0 z (or_none_lem t x q).0))

-- ── an output listed twice in a moment ────────────────────────────────────────────────────────────
odd_told : (t : ℕ) → t % 2 ≡ 1 → told t ≡ None
unfolding told
odd_told t h = rw (ne_eqb t 0 (λ z. omega arith), h)

odd_refused : (b s t : ℕ) (ms os : List ℕ) → t % 2 ≡ 1 → pass_from b s t ms os ≡ None
unfolding pass_from
odd_refused b s t [] os h = odd_told t h
odd_refused b s t (m ∷ ms) [] h = odd_told t h
odd_refused b s t (m ∷ ms) (o ∷ os) h = go (ltb o 16 && leb b m) (odd_refused m (bit_or y (bit_of o)) (bit_or t x) ms os (or_odd t x ∙ rw h (max-eq_left most)))
  where
    y : ℕ
    y = seen_in m b s

    x : ℕ
    x = from y o

    most : x % 2 ≤ 1
    most = le_of_suc-le-suc (mod-lt x (zero-lt-suc 1))

    go : (c : Bool) → pass_from m (bit_or y (bit_of o)) (bit_or t x) ms os ≡ None → cond c (pass_from m (bit_or y (bit_of o)) (bit_or t x) ms os) None ≡ None
    go true deep = deep
    go false deep = refl

-- ── the whole pass ────────────────────────────────────────────────────────────────────────────────
neither : (x y : Bool) → None ≡ verdict_by (x && false) (y && false)
unfolding verdict_by
neither true true = refl
neither true false = refl
neither false true = refl
neither false false = refl

module _ (m o b l : ℕ) (ms os : List ℕ) where
  high_unordered : ltb o 16 ≡ false → in_order_from b l (m ∷ ms) (o ∷ os) ≡ false
  unfolding in_order_from
  high_unordered h = rw h

  fallen_unordered : m < b → in_order_from b l (m ∷ ms) (o ∷ os) ≡ false
  unfolding in_order_from
  fallen_unordered h = rw (less_precedes m o b l (sooner h)) (go (ltb o 16))
    where
      go : (c : Bool) → (c && false) ≡ false
      go true = refl
      go false = refl

once_next : (e : List Write) (w : Write) (ws : List Write) (a c : Bool) → ltb w.output 16 ≡ a → listed_among w e ≡ c →
    once_after e (w ∷ ws) ≡ (a && (not c && once_after (w ∷ e) ws))
unfolding once_after
once_next e w ws a c p q = rw (p, q)

module _ (b s t l m o u : ℕ) (ms os : List ℕ) (ws e : List Write) (v : Seen e b s) (below : t ≡ 0 → Below s l) (even : t % 2 ≡ 0) where
  abbrev y : ℕ
  y = seen_in m b s

  abbrev x : ℕ
  x = from y o

  abbrev w : Write
  w = write_of m o u

  odd_late : x % 2 ≡ 1 → bit_or t x % 2 ≡ 1
  odd_late h = or_odd t x ∙ rw (even, h)

  even_late : has y o ≡ false → bit_or t x % 2 ≡ 0
  even_late h =
      let most = le_of_suc-le-suc (mod-lt x (zero-lt-suc 1)) in
      let n = eqb-false (x % 2) 1 h in
      or_odd t x ∙ rw (even, zero_left n most)
    where
      zero_left : (x % 2 ≡ 1 → ⊥) → x % 2 ≤ 1 → x % 2 ≡ 0
      zero_left n l = omega arith

  pass_step : (b ≤ m → bit_or t x % 2 ≡ 0 → pass_from m (bit_or y (bit_of o)) (bit_or t x) ms os ≡
      verdict_by (eqb (bit_or t x) 0 && in_order_from m (o + 1) ms os) (rise_from m ms && once_after (w ∷ e) ws)) →
      cond (ltb o 16 && leb b m) (pass_from m (bit_or y (bit_of o)) (bit_or t x) ms os) None ≡
      verdict_by (eqb t 0 && in_order_from b l (m ∷ ms) (o ∷ os)) ((leb b m && rise_from m ms) && once_after e (w ∷ ws))
  pass_step deep = go (ltb o 16) refl (leb b m) refl (has y o) refl
    where
      go : (a : Bool) → ltb o 16 ≡ a → (c : Bool) → leb b m ≡ c → (d : Bool) → has y o ≡ d →
          cond (a && c) (pass_from m (bit_or y (bit_of o)) (bit_or t x) ms os) None ≡
          verdict_by (eqb t 0 && in_order_from b l (m ∷ ms) (o ∷ os)) ((c && rise_from m ms) && once_after e (w ∷ ws))
      go false f c g d h = rw (high_unordered m o b l ms os f, once_next e w ws false (listed_among w e) f refl) (neither (eqb t 0) (c && rise_from m ms))
      go true f false g d h = rw (fallen_unordered m o b l ms os (leb-false b m g)) (neither (eqb t 0) false)
      go true f true g true h =
          let odd = odd_late (eqb-true (x % 2) 1 h) in
          let late : eqb (bit_or t x) 0 ≡ false = ne_eqb (bit_or t x) 0 (λ z. omega arith) in
          let twice : listed_among w e ≡ true = sym ((seen_in_lem e b s v m (leb-true b m g)).listed o u) ∙ h in
          odd_refused m (bit_or y (bit_of o)) (bit_or t x) ms os odd
          ∙ rw (order_on m o b s l t ms os (ltb-true o 16 f) (leb-true b m g) below, late, once_next e w ws true true f twice) (neither false (rise_from m ms))
      go true f true g false h =
          let once : listed_among w e ≡ false = sym ((seen_in_lem e b s v m (leb-true b m g)).listed o u) ∙ h in
          deep (leb-true b m g) (even_late h)
          ∙ rw (order_on m o b s l t ms os (ltb-true o 16 f) (leb-true b m g) below, once_next e w ws true false f once)

even_told : (t b l : ℕ) (os : List ℕ) (e : List Write) → t % 2 ≡ 0 → told t ≡ verdict_by (eqb t 0 && in_order_from b l [] os) (true && once_after e [])
unfolding told verdict_by in_order_from once_after
even_told t b l os e even = rw even (go (eqb t 0))
  where
    go : (c : Bool) → cond c (Some InOrder) (Some AnyOrder) ≡ verdict_by (c && true) true
    go true = refl
    go false = refl

pass_is : (b s t l : ℕ) (ms os vs : List ℕ) (e : List Write) → length ms ≡ length os → length vs ≡ length ms → Seen e b s → (t ≡ 0 → Below s l) →
    t % 2 ≡ 0 → pass_from b s t ms os ≡ verdict_by (eqb t 0 && in_order_from b l ms os) (rise_from b ms && once_after e (writes_of ms os vs))
unfolding pass_from rise_from writes_of
pass_is b s t l [] os vs e p q v below even = even_told t b l os e even
pass_is b s t l (m ∷ ms) [] vs e p q v below even = absurd (omega arith)
pass_is b s t l (m ∷ ms) (o ∷ os) [] e p q v below even = absurd (omega arith)
pass_is b s t l (m ∷ ms) (o ∷ os) (u ∷ vs) e p q v below even =
    let y = seen_in m b s in
    pass_step b s t l m o u ms os (writes_of ms os vs) e v below even
    (λ later. pass_is m (bit_or y (bit_of o)) (bit_or t (from y o)) (o + 1) ms os vs (write_of m o u ∷ e) (omega arith) (omega arith) (seen_more e b s v m later o u)
    (λ z. more_below y o (or_none_lem t (from y o) z).1))

pub one_pass : (ms os vs : List ℕ) → length ms ≡ length os → length vs ≡ length ms → pass_from 0 0 0 ms os ≡ verdict ms os vs
unfolding listed_among
one_pass ms os vs p q = pass_is 0 0 0 0 ms os vs [] p q (record { listed = λ o v. none_has o; latest = none }) (λ z. none_below) refl

-- ── write by write ────────────────────────────────────────────────────────────────────────────────
module _ (b s t m o : ℕ) (ms os ms' os' : List ℕ) (first : ms ≡ m ∷ ms') (second : os ≡ o ∷ os') where
  next : pass_from b s t ms os ≡ cond (ltb o 16 && leb b m) (pass_from m (bit_or (seen_in m b s) (bit_of o)) (bit_or t (from (seen_in m b s) o)) ms' os') None
  unfolding pass_from
  next = rw (first, second)

  pub too_high : 16 ≤ o → pass_from b s t ms os ≡ None
  too_high g = rw (le-ltb o 16 g) at next

  pub fallen : o < 16 → m < b → pass_from b s t ms os ≡ None
  fallen g l = rw (lt-ltb o 16 g, lt-leb b m l) at next

  -- the write is looked at; y are the outputs seen in its moment before it
  seen_on_lem : o < 16 → b ≤ m → (b' y : ℕ) → b' ≡ m → y ≡ seen_in m b s → pass_from b s t ms os ≡ pass_from b' (bit_or y (1 * 2 ^ o % 2 ^ 32)) (bit_or t (from y o)) ms' os'
  seen_on_lem g l b' y d e =
      let whole : 1 * 2 ^ o % 2 ^ 32 ≡ bit_of o = shl_exact 1 o 32 (lit< tt) (omega arith) in
      rw (whole, d, e) (rw (lt-ltb o 16 g, le-leb b m l) at next)

  pub moment_later : o < 16 → (m ≡ b → ⊥) → b ≤ m → (b' y : ℕ) → b' ≡ m → y ≡ 0 → pass_from b s t ms os ≡ pass_from b' (bit_or y (1 * 2 ^ o % 2 ^ 32)) (bit_or t (from y o)) ms' os'
  moment_later g n l b' y d e = seen_on_lem g l b' y d (e ∙ rw (ne_eqb m b n))

  pub moment_same : o < 16 → m ≡ b → (b' y : ℕ) → b' ≡ b → y ≡ s → pass_from b s t ms os ≡ pass_from b' (bit_or y (1 * 2 ^ o % 2 ^ 32)) (bit_or t (from y o)) ms' os'
  moment_same g n b' y d e = seen_on_lem g (omega arith) b' y (d ∙ sym n) (e ∙ rw (eq-eqb m b n))

no_moments : (b s t : ℕ) (ms os : List ℕ) → length ms ≡ 0 → pass_from b s t ms os ≡ told t
unfolding pass_from
no_moments b s t [] os e = refl
no_moments b s t (m ∷ ms) os e = absurd (omega arith)

no_outputs : (b s t : ℕ) (ms os : List ℕ) → length os ≡ 0 → pass_from b s t ms os ≡ told t
unfolding pass_from
no_outputs b s t [] os e = refl
no_outputs b s t (m ∷ ms) [] e = refl
no_outputs b s t (m ∷ ms) (o ∷ os) e = absurd (omega arith)

-- the pass ends with the first list that does; P and Q are what else is known there
pub pass_ends : (b s t : ℕ) (ms os : List ℕ) {X Y : Type 0} {P : X → Type 0} {Q : Y → Type 0} →
    ((x : X) × ((length ms ≡ 0) × P x)) ⊎ ((y : Y) × ((length os ≡ 0) × Q y)) → pass_from b s t ms os ≡ told t
pass_ends b s t ms os (inl h) = no_moments b s t ms os h.1.0
pass_ends b s t ms os (inr h) = no_outputs b s t ms os h.1.0

-- ── the end ───────────────────────────────────────────────────────────────────────────────────────
module _ (t : ℕ) where
  pub told_none : t ≡ 0 → Some InOrder ≡ told t
  unfolding told
  told_none e = rw e

  pub told_odd : (t ≡ 0 → ⊥) → t % 2 ≡ 1 → None ≡ told t
  unfolding told
  told_odd n e = rw (ne_eqb t 0 n, e)

  pub told_even : (t ≡ 0 → ⊥) → (t % 2 ≡ 1 → ⊥) → Some AnyOrder ≡ told t
  unfolding told
  told_even n e = rw (ne_eqb t 0 n, ne_eqb (t % 2) 1 e)
