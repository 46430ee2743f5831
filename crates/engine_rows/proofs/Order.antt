-- The walking order: a parent before its children, children in the order of their `F`. It is the order of (lowest priority, level).
-- Letters: s and j slots, l, m and R lists of slots, a and b the least and the bound of a rising list; the others as in Place and Held.
use mathlib.Core.Path.{◌≡◌, refl, sym, ap, ap₂, ◌∙◌}
use mathlib.Core.Bool.{Bool, true, false}
use mathlib.Core.List.{List, [], ◌∷◌, ◌++◌}
use Prim.Native.Nat.{ℕ, zero, suc, ◌+◌, ◌*◌, ◌≤◌, ◌<◌}
use native.Mathlib.Omega.{arith}
use lib.Dec.{ltb}
use lib.ListN.{length}
use borrow.Author.Tests.{ltb-true, ltb-false}
use Rattle.listing.specs.Listing.{Listing}
use Rattle.engine_rows.specs.Rows.{Row, Rows}
use Rattle.engine_rows.specs.Order.{order_key, insert_in_order, before_else, order_if, order_below_lem, walking_order}
use Rattle.engine_rows.proofs.Place.{Record, width, Tree}
use Rattle.engine_rows.proofs.Priority.{Rising, rising_nil, rising_put, rising_le, rising_append, Range, range_le, parts}
use Rattle.engine_rows.proofs.Sorted.{In, here, there, Either, this, that, rising_above}
use Rattle.engine_rows.proofs.Held.{Entry, row_for, Held, held_nil, held_put}
use Rattle.engine_rows.proofs.Kept.{slots_of}
use Rattle.engine_rows.proofs.Steady.{Above, Steady, steady_put}

unfoldable pub order_keys : Rows → List ℕ → List ℕ
order_keys σ [] = []
order_keys σ (s ∷ ss) = order_key (σ s) ∷ order_keys σ ss

keys_append : (σ : Rows) (a b : List ℕ) → order_keys σ (a ++ b) ≡ order_keys σ a ++ order_keys σ b
unfolding order_keys
keys_append σ [] b = refl
keys_append σ (s ∷ a) b = ap (λ z. order_key (σ s) ∷ z) (keys_append σ a b)

pub key_in : (σ : Rows) (s : ℕ) (ss : List ℕ) → In s ss → In (order_key (σ s)) (order_keys σ ss)
unfolding order_keys
key_in σ s _ (here e) = here (ap (λ z. order_key (σ z)) e)
key_in σ s _ (there {l = l} i) = there (key_in σ s l i)

-- two lists in strict order with the same members are equal
pub same_order : (σ : Rows) (l m : List ℕ) {a b a' b' : ℕ} → Rising a b (order_keys σ l) → Rising a' b' (order_keys σ m) → ((s : ℕ) → In s l → In s m) →
    ((s : ℕ) → In s m → In s l) → l ≡ m
unfolding order_keys
same_order σ [] [] r q f g = refl
same_order σ [] (y ∷ m) r q f g = elim (g y (here refl)) [ ]
same_order σ (x ∷ l) [] r q f g = elim (f x (here refl)) [ ]
same_order σ (x ∷ l) (y ∷ m) (rising_put e r) (rising_put e' q) f g =
    ap₂ ◌∷◌ one (same_order σ l m r q (λ s i. tail_f s i (f s (there i))) (λ s i. tail_g s i (g s (there i))))
  where
    after_x : (s : ℕ) → In s l → order_key (σ x) < order_key (σ s)
    after_x s i = (rising_above r (key_in σ s l i)).0

    after_y : (s : ℕ) → In s m → order_key (σ y) < order_key (σ s)
    after_y s i = (rising_above q (key_in σ s m i)).0

    heads : In x (y ∷ m) → In y (x ∷ l) → x ≡ y
    heads (here p) h = p
    heads (there p) (here h) = sym h
    heads (there p) (there h) = let u = after_y x p in let v = after_x y h in absurd (omega arith)

    one : x ≡ y
    one = heads (f x (here refl)) (g y (here refl))

    tail_f : (s : ℕ) → In s l → In s (y ∷ m) → In s m
    tail_f s i (here p) = let u = after_x s i in let v : order_key (σ s) ≡ order_key (σ x) = ap (λ z. order_key (σ z)) (p ∙
        sym one) in absurd (omega arith)
    tail_f s i (there p) = p

    tail_g : (s : ℕ) → In s m → In s (x ∷ l) → In s l
    tail_g s i (here p) = let u = after_y s i in let v : order_key (σ s) ≡ order_key (σ y) = ap (λ z. order_key (σ z)) (p ∙ one) in absurd (omega arith)
    tail_g s i (there p) = p

-- ── the slots of a tree, in walking order, rise ─────────────────────────────────────────────────
module _ (listing : Listing) (σ : Rows) where
  key_of : (z : Bool) (p : List Entry) (b n : ℕ) (x : Record) → σ x.slot ≡ row_for z p b n x → order_key (σ x.slot) ≡ x.low * 16 + length p
  unfolding order_key row_for
  key_of z p b n x e = ap (λ (r : Row). r.low * 16 + r.level) e

  pub walking_rises : {d : Bool} {p : List Entry} {c : ℕ} {t : Tree} {lo hi : ℕ} {u : Above} (a : ℕ) → a ≤ lo * 16 + length p → a ≤ hi * 16 →
      Held σ d p c t → Range lo hi t → Steady listing u (length p) c t → Rising a (hi * 16) (order_keys σ (slots_of t))
  unfolding slots_of order_keys
  walking_rises a l h held_nil r s = rising_nil h
  walking_rises {p = p} {lo = lo} {hi = hi} a l h (held_put {b = b} {x = x} {k = k} {f = f} z m e hk hf) r (steady_put sr sk sf) =
      let q = parts r in
      let key : order_key (σ x.slot) ≡ x.low * 16 + length p = key_of z p b _ x e in
      let wide : 1 ≤ width x = q.wider in
      let first : lo ≤ x.low = q.lowest in
      let last : x.low + width x ≤ hi = range_le q.siblings in
      let level : length p ≤ 10 = sr.high in
      let at_least : a ≤ order_key (σ x.slot) = omega arith in
      let inside : suc (order_key (σ x.slot)) ≤ x.low * 16 + suc (length p) = omega arith in
      let before_end : suc (order_key (σ x.slot)) ≤ (x.low + width x) * 16 = omega arith in
      let on : (x.low + width x) * 16 ≤ (x.low + width x) * 16 + length p = omega arith in
      let to_end : (x.low + width x) * 16 ≤ hi * 16 = omega arith in
      let below : Rising (suc (order_key (σ x.slot))) ((x.low + width x) * 16) (order_keys σ (slots_of k)) =
      walking_rises (suc (order_key (σ x.slot))) inside before_end hk q.children sk in
      let beside : Rising ((x.low + width x) * 16) (hi * 16) (order_keys σ (slots_of f)) = walking_rises ((x.low + width x) * 16) on to_end hf
      q.siblings sf in
      let rest : Rising (suc (order_key (σ x.slot))) (hi * 16) (order_keys σ (slots_of k ++ slots_of f)) =
      rw (keys_append σ (slots_of k) (slots_of f)) (rising_append below beside) in
      rising_put at_least rest

-- ── the order list, made by insertion ───────────────────────────────────────────────────────────
in_only : (σ : Rows) (s j : ℕ) (l : List ℕ) → In j (insert_in_order σ s l) → Either (j ≡ s) (In j l)
unfolding insert_in_order before_else
in_only σ s j [] (here e) = this e
in_only σ s j [] (there i) = that i
in_only σ s j (x ∷ l) i = go (ltb (order_key (σ s)) (order_key (σ x))) i (in_only σ s j l)
  where
    back : Either (j ≡ s) (In j l) → Either (j ≡ s) (In j (x ∷ l))
    back (this e) = this e
    back (that h) = that (there h)

    go : (b : Bool) → In j (before_else b s x l (insert_in_order σ s l)) → (In j (insert_in_order σ s l) → Either (j ≡ s) (In j l)) →
        Either (j ≡ s) (In j (x ∷ l))
    go true (here e) deep = this e
    go true (there h) deep = that h
    go false (here e) deep = that (here e)
    go false (there h) deep = back (deep h)

in_new : (σ : Rows) (s : ℕ) (l : List ℕ) → In s (insert_in_order σ s l)
unfolding insert_in_order before_else
in_new σ s [] = here refl
in_new σ s (x ∷ l) = go (ltb (order_key (σ s)) (order_key (σ x))) (in_new σ s l)
  where
    go : (b : Bool) → In s (insert_in_order σ s l) → In s (before_else b s x l (insert_in_order σ s l))
    go true deep = here refl
    go false deep = there deep

in_old : (σ : Rows) (s j : ℕ) (l : List ℕ) → In j l → In j (insert_in_order σ s l)
unfolding insert_in_order before_else
in_old σ s j _ (here {x = x} {l = l} e) = go (ltb (order_key (σ s)) (order_key (σ x)))
  where
    go : (b : Bool) → In j (before_else b s x l (insert_in_order σ s l))
    go true = there (here e)
    go false = here e
in_old σ s j _ (there {x = x} {l = l} i) = go (ltb (order_key (σ s)) (order_key (σ x))) (in_old σ s j l i)
  where
    go : (b : Bool) → In j (insert_in_order σ s l) → In j (before_else b s x l (insert_in_order σ s l))
    go true deep = there (there i)
    go false deep = there deep

-- no two of the members of R stand at one place of the order
rising_in : (σ : Rows) (s : ℕ) (l : List ℕ) {a b : ℕ} → Rising a b (order_keys σ l) → a ≤ order_key (σ s) → order_key (σ s) < b →
    ((j : ℕ) → In j l → order_key (σ j) ≡ order_key (σ s) → ⊥) → Rising a b (order_keys σ (insert_in_order σ s l))
unfolding insert_in_order before_else order_keys
rising_in σ s [] r p q n = rising_put p (rising_nil q)
rising_in σ s (x ∷ l) {a} {b} (rising_put e r) p q n =
    go (ltb (order_key (σ s)) (order_key (σ x))) refl (λ h. rising_in σ s l r h q (λ j i. n j (there i)))
  where
    go : (w : Bool) → ltb (order_key (σ s)) (order_key (σ x)) ≡ w →
        (order_key (σ x) < order_key (σ s) → Rising (suc (order_key (σ x))) b (order_keys σ (insert_in_order σ s l))) →
        Rising a b (order_keys σ (before_else w s x l (insert_in_order σ s l)))
    go true h deep = rising_put p (rising_put (ltb-true _ _ h) r)
    go false h deep = let g : order_key (σ x) ≤ order_key (σ s) = ltb-false _ _ h in let m : order_key (σ x) ≡ order_key (σ s) →
        ⊥ = n x (here refl) in rising_put e (deep (omega arith))

-- a member of a rising list is determined by its place in the order
one_place : (σ : Rows) (l : List ℕ) {a b : ℕ} → Rising a b (order_keys σ l) → (j s : ℕ) → In j l → In s l → order_key (σ j) ≡ order_key (σ s) → j ≡ s
unfolding order_keys
one_place σ [] r j s i k e = elim i [ ]
one_place σ (x ∷ l) r j s (here p) (here q) e = p ∙ sym q
one_place σ (x ∷ l) (rising_put e r) j s (here p) (there q) h = let u = (rising_above r (key_in σ s l q)).0 in let v : order_key (σ j) ≡ order_key
    (σ x) = ap (λ z. order_key (σ z)) p in absurd (omega arith)
one_place σ (x ∷ l) (rising_put e r) j s (there p) (here q) h = let u = (rising_above r (key_in σ j l p)).0 in let v : order_key (σ s) ≡ order_key
    (σ x) = ap (λ z. order_key (σ z)) q in absurd (omega arith)
one_place σ (x ∷ l) (rising_put e r) j s (there p) (there q) h = one_place σ l r j s p q h

module _ (σ : Rows) (R : List ℕ) {a b : ℕ} (rises : Rising a b (order_keys σ R)) (small : (s : ℕ) → In s R → s < 64) (sits : (s : ℕ) → In s R →
    (σ s).used ≡ true) (whole : (s : ℕ) → (σ s).used ≡ true → In s R) where
  below_only : (n j : ℕ) → In j (order_below_lem σ n) → (j < n) × ((σ j).used ≡ true)
  unfolding order_below_lem order_if
  below_only zero j i = elim i [ ]
  below_only (suc n) j i = go (σ n).used refl i (below_only n j)
    where
      two : (σ n).used ≡ true → Either (j ≡ n) (In j (order_below_lem σ n)) → (In j (order_below_lem σ n) → (j < n) × ((σ j).used ≡ true)) →
          (j < suc n) × ((σ j).used ≡ true)
      two e (this h) deep = (omega arith, ap (λ z. (σ z).used) h ∙ e)
      two e (that h) deep = let d = deep h in let u = d.0 in (omega (arith, u), d.1)

      go : (w : Bool) → (σ n).used ≡ w → In j (order_if w σ n (order_below_lem σ n)) → (In j (order_below_lem σ n) → (j < n) × ((σ j).used ≡ true)) →
          (j < suc n) × ((σ j).used ≡ true)
      go true e h deep = two e (in_only σ n j (order_below_lem σ n) h) deep
      go false e h deep = let d = deep h in let u = d.0 in (omega (arith, u), d.1)

  below_in : (n j : ℕ) → j < n → (σ j).used ≡ true → In j (order_below_lem σ n)
  unfolding order_below_lem order_if
  below_in zero j l h = absurd (omega arith)
  below_in (suc n) j l h = go (σ n).used refl (below_in n j)
    where
      go : (w : Bool) → (σ n).used ≡ w → (j < n → (σ j).used ≡ true → In j (order_below_lem σ n)) → In j (order_if w σ n (order_below_lem σ n))
      go true e deep = two (native.Mathlib.Decide.ℕ_discrete j n)
        where
          two : Dec (j ≡ n) → In j (insert_in_order σ n (order_below_lem σ n))
          two (yes q) = rw q (in_new σ n (order_below_lem σ n))
          two (no q) = in_old σ n j (order_below_lem σ n) (deep (omega arith) h)
      go false e deep = two (native.Mathlib.Decide.ℕ_discrete j n)
        where
          two : Dec (j ≡ n) → In j (order_below_lem σ n)
          two (yes q) = let z : ◌≡◌ {A = Bool} true false = sym h ∙ ap (λ y. (σ y).used) q ∙
              e in let w : ◌≡◌ {A = ℕ} 0 1 = cc in absurd (omega arith)
          two (no q) = deep (omega arith) h

  below_rises : (n : ℕ) → Rising a b (order_keys σ (order_below_lem σ n))
  unfolding order_below_lem order_if order_keys
  below_rises zero = rising_nil (rising_le rises)
  below_rises (suc n) = go (σ n).used refl (below_rises n)
    where
      go : (w : Bool) → (σ n).used ≡ w → Rising a b (order_keys σ (order_below_lem σ n)) → Rising a b (order_keys σ (order_if w σ n (order_below_lem σ n)))
      go true e deep =
          let q = rising_above rises (key_in σ n R (whole n e)) in
          rising_in σ n (order_below_lem σ n) deep q.0 q.1 (λ j i h. let d = below_only n j i in let u = d.0 in let v : j ≡ n =
          one_place σ R rises j n (whole j d.1) (whole n e) h in omega (arith, u, v))
      go false e deep = deep

  -- the order list made by insertion is R
  pub order_made : walking_order σ ≡ R
  unfolding walking_order
  order_made = same_order σ (order_below_lem σ 64) R (below_rises 64) rises (λ s i. whole s (below_only 64 s i).1)
      (λ s i. below_in 64 s (small s i) (sits s i))
