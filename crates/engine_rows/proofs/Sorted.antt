-- A sorted list of keys, each once: insertion, and two such lists with the same members are equal.
-- Letters: k and j keys, l and m lists of keys, a and b the least and the bound of a rising list.
use mathlib.Core.Path.{◌≡◌, refl, sym, ap, ap₂, ◌∙◌}
use mathlib.Core.Bool.{Bool, true, false}
use mathlib.Core.List.{List, [], ◌∷◌, ◌++◌}
use Prim.Native.Nat.{ℕ, suc, ◌/◌, ◌%◌, ◌≤◌, ◌<◌}
use native.Mathlib.Omega.{arith}
use lib.Dec.{ltb, eqb}
use borrow.Author.Tests.{ltb-true, ltb-false, eqb-true, eqb-false}
use Rattle.engine_rows.proofs.Priority.{Spread, spread_nil, spread_put, Rising, rising_nil, rising_put, rising_le}
pub use Rattle.engine_rows.specs.Tree.{In, here, there}
unfoldable pub use Rattle.engine_rows.specs.Reached.{slots_in}

pub in_left : {k : ℕ} (l m : List ℕ) → In k l → In k (l ++ m)
in_left _ m (here e) = here e
in_left _ m (there {l = l} h) = there (in_left l m h)

pub in_right : {k : ℕ} (l m : List ℕ) → In k m → In k (l ++ m)
in_right [] m h = h
in_right (x ∷ l) m h = there (in_right l m h)

pub data Either (A B : Type 0) : Type 0 where
  this : A → Either A B
  that : B → Either A B

pub in_cases : {k : ℕ} (l m : List ℕ) → In k (l ++ m) → Either (In k l) (In k m)
in_cases [] m h = that h
in_cases (x ∷ l) m (here e) = this (here e)
in_cases {k} (x ∷ l) m (there h) = go (in_cases l m h)
  where
    go : Either (In k l) (In k m) → Either (In k (x ∷ l)) (In k m)
    go (this i) = this (there i)
    go (that i) = that i

unfoldable pub put_key : Bool → Bool → ℕ → ℕ → List ℕ → List ℕ → List ℕ
put_key true e k x xs r = k ∷ (x ∷ xs)
put_key false true k x xs r = x ∷ xs
put_key false false k x xs r = x ∷ r

unfoldable pub insert_key : ℕ → List ℕ → List ℕ
insert_key k [] = k ∷ []
insert_key k (x ∷ xs) = put_key (ltb k x) (eqb k x) k x xs (insert_key k xs)

unfoldable pub insert_keys : List ℕ → List ℕ → List ℕ
insert_keys [] l = l
insert_keys (k ∷ ks) l = insert_keys ks (insert_key k l)

pub rising_above : {a b k : ℕ} {l : List ℕ} → Rising a b l → In k l → (a ≤ k) × (k < b)
rising_above (rising_put {a = a} {b = b} {k = x} e r) (here {x = _} h) = let q : suc x ≤ b = rising_le r in (omega arith, omega arith)
rising_above (rising_put {a = a} {k = x} e r) (there h) = let q = rising_above r h in (omega (arith, q.0), q.1)
rising_above {k = k} (rising_nil {a = a} {b = b} _) x6 = elim x6 [ ]

pub insert_rising : {a b : ℕ} {l : List ℕ} (k : ℕ) → Rising a b l → a ≤ k → k < b → Rising a b (insert_key k l)
unfolding insert_key put_key
insert_rising k (rising_nil e) p q = rising_put p (rising_nil q)
insert_rising {a} {b} k (rising_put {k = x} {l = l} e r) p q = go (ltb k x) (eqb k x) refl refl (insert_rising k r)
  where
    go : (u v : Bool) → ltb k x ≡ u → eqb k x ≡ v → (suc x ≤ k → k < b → Rising (suc x) b (insert_key k l)) →
        Rising a b (put_key u v k x l (insert_key k l))
    go true v s t deep = rising_put p (rising_put (ltb-true k x s) r)
    go false true s t deep = rising_put e r
    go false false s t deep = let g : x ≤ k = ltb-false k x s in let n : k ≡ x → ⊥ = eqb-false k x t in rising_put e (deep (omega arith) q)

pub insert_in : (k : ℕ) (l : List ℕ) → In k (insert_key k l)
unfolding insert_key put_key
insert_in k [] = here refl
insert_in k (x ∷ l) = go (ltb k x) (eqb k x) refl (insert_in k l)
  where
    go : (u v : Bool) → eqb k x ≡ v → In k (insert_key k l) → In k (put_key u v k x l (insert_key k l))
    go true v t deep = here refl
    go false true t deep = here (eqb-true k x t)
    go false false t deep = there deep

pub insert_keeps : {j : ℕ} (k : ℕ) (l : List ℕ) → In j l → In j (insert_key k l)
unfolding insert_key put_key
insert_keeps {j} k _ (here {x = x} {l = l} e) = go (ltb k x) (eqb k x)
  where
    go : (u v : Bool) → In j (put_key u v k x l (insert_key k l))
    go true v = there (here e)
    go false true = here e
    go false false = here e
insert_keeps {j} k _ (there {x = x} {l = l} h) = go (ltb k x) (eqb k x) (insert_keeps k l h)
  where
    go : (u v : Bool) → In j (insert_key k l) → In j (put_key u v k x l (insert_key k l))
    go true v deep = there (there h)
    go false true deep = there h
    go false false deep = there deep

pub insert_only : {j : ℕ} (k : ℕ) (l : List ℕ) → In j (insert_key k l) → Either (j ≡ k) (In j l)
unfolding insert_key put_key
insert_only k [] (here e) = this e
insert_only k [] (there h) = that h
insert_only {j} k (x ∷ l) i = go (ltb k x) (eqb k x) i (insert_only k l)
  where
    head : Either (j ≡ k) (In j l) → Either (j ≡ k) (In j (x ∷ l))
    head (this e) = this e
    head (that h) = that (there h)

    go : (u v : Bool) → In j (put_key u v k x l (insert_key k l)) → (In j (insert_key k l) → Either (j ≡ k) (In j l)) → Either (j ≡ k) (In j (x ∷ l))
    go true v (here e) deep = this e
    go true v (there h) deep = that h
    go false true h deep = that h
    go false false (here e) deep = that (here e)
    go false false (there h) deep = head (deep h)

pub all_rising : {a b : ℕ} (ks l : List ℕ) → Rising a b l → ((k : ℕ) → In k ks → (a ≤ k) × (k < b)) → Rising a b (insert_keys ks l)
unfolding insert_keys
all_rising [] l r h = r
all_rising (k ∷ ks) l r h = all_rising ks (insert_key k l) (insert_rising k r (h k (here refl)).0 (h k (here refl)).1) (λ j i. h j (there i))

pub all_in : {j : ℕ} (ks l : List ℕ) → Either (In j ks) (In j l) → In j (insert_keys ks l)
unfolding insert_keys
all_in [] l (this h) = elim h [ ]
all_in [] l (that h) = h
all_in (k ∷ ks) l (this (here e)) = all_in ks (insert_key k l) (that (rw e (insert_in k l)))
all_in (k ∷ ks) l (this (there h)) = all_in ks (insert_key k l) (this h)
all_in (k ∷ ks) l (that h) = all_in ks (insert_key k l) (that (insert_keeps k l h))

pub all_only : {j : ℕ} (ks l : List ℕ) → In j (insert_keys ks l) → Either (In j ks) (In j l)
unfolding insert_keys
all_only [] l h = that h
all_only {j} (k ∷ ks) l h = go (all_only ks (insert_key k l) h)
  where
    last : Either (j ≡ k) (In j l) → Either (In j (k ∷ ks)) (In j l)
    last (this e) = this (here e)
    last (that i) = that i

    go : Either (In j ks) (In j (insert_key k l)) → Either (In j (k ∷ ks)) (In j l)
    go (this i) = this (there i)
    go (that i) = last (insert_only k l i)

-- two rising lists with the same members
pub same_members : {a b a' b' : ℕ} {l m : List ℕ} → Rising a b l → Rising a' b' m → ((k : ℕ) → In k l → In k m) → ((k : ℕ) → In k m → In k l) → l ≡ m
same_members (rising_nil e) (rising_nil e') f g = refl
same_members (rising_nil e) (rising_put {k = y} e' s) f g = elim (g y (here refl)) [ ]
same_members (rising_put {k = x} e r) (rising_nil e') f g = elim (f x (here refl)) [ ]
same_members (rising_put {b = b} {k = x} {l = l} e r) (rising_put {b = b'} {k = y} {l = m} e' s) f g =
    ap₂ ◌∷◌ (heads (f x (here refl)) (g y (here refl))) (same_members r s (λ k i. tail_f k i (f k (there i))) (λ k i. tail_g k i (g k (there i))))
  where
    heads : In x (y ∷ m) → In y (x ∷ l) → x ≡ y
    heads (here p) h = p
    heads (there p) (here q) = sym q
    heads (there p) (there q) = let u = (rising_above s p).0 in let v = (rising_above r q).0 in absurd (omega arith)

    one : x ≡ y
    one = heads (f x (here refl)) (g y (here refl))

    tail_f : (k : ℕ) → In k l → In k (y ∷ m) → In k m
    tail_f k i (here p) = let u = (rising_above r i).0 in absurd (omega (arith, one))
    tail_f k i (there p) = p

    tail_g : (k : ℕ) → In k m → In k (x ∷ l) → In k l
    tail_g k i (here p) = let u = (rising_above s i).0 in absurd (omega (arith, one))
    tail_g k i (there p) = p

-- ── members by priority ─────────────────────────────────────────────────────────────────────────
spread_above : {a b k : ℕ} {l : List ℕ} → Spread a b l → In k l → a ≤ k / 64
spread_above {k = k} (spread_put {k = x} e r) (here h) = rw h e
spread_above {a} {k = k} (spread_put {k = x} e r) (there h) = let q : suc (x / 64) ≤ k / 64 = spread_above r h in omega arith
spread_above {k = k} (spread_nil {a = a} {b = b} _) x6 = elim x6 [ ]

-- at most one of each priority
pub spread_one : {a b j k : ℕ} {l : List ℕ} → Spread a b l → In j l → In k l → j / 64 ≡ k / 64 → j ≡ k
spread_one (spread_put e r) (here p) (here q) h = p ∙ sym q
spread_one {j = j} {k = k} (spread_put {k = x} e r) (here p) (there q) h = let u : suc (x / 64) ≤ k / 64 =
    spread_above r q in let v : j / 64 ≡ x / 64 = ap (λ z. z / 64) p in absurd (omega arith)
spread_one {j = j} {k = k} (spread_put {k = x} e r) (there p) (here q) h = let u : suc (x / 64) ≤ j / 64 =
    spread_above r p in let v : k / 64 ≡ x / 64 = ap (λ z. z / 64) q in absurd (omega arith)
spread_one (spread_put e r) (there p) (there q) h = spread_one r p q h
spread_one {j = j} {k = k} (spread_nil {a = a} {b = b} _) x14 _ h = elim x14 [ ]

pub slots_in-append : (ks l : List ℕ) → slots_in (ks ++ l) ≡ slots_in ks ++ slots_in l
unfolding slots_in
slots_in-append [] l = refl
slots_in-append (k ∷ ks) l = ap (λ z. k % 64 ∷ z) (slots_in-append ks l)
