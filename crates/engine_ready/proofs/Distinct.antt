-- An ordered ready list stays so through pushes, and has at most 64 slots.
use mathlib.Core.Bool.{Bool, true, false}
use mathlib.Core.List.{List, [], ◌∷◌}
use mathlib.Core.Path.{◌≡◌, refl, sym, ap, ◌∙◌}
use Prim.Native.Nat.{ℕ, zero, suc, ◌≤◌, ◌<◌}
use native.Mathlib.Omega.{arith}
use lib.Dec.{eqb, ltb}
use lib.ListN.{length}
use borrow.Author.Tests.{ltb-true, ltb-false, eqb-true, eqb-false}
use Rattle.engine_rows.specs.Ready.{insert_at, insert}
use Rattle.engine_rows.specs.Rows.{Rows}
use Rattle.engine_ready.specs.Ordered.{Later, later_none, later_one, Ordered, ordered_none, ordered_one}

-- ── a push keeps the order ────────────────────────────────────────────────────────────────────────
module _ (rows : Rows) where
  -- What comes later than x comes later than s, if x does.
  later_still : (s x : ℕ) (xs : List ℕ) → (rows s).low < (rows x).low → Later rows x xs → Later rows s xs
  later_still s x [] h later_none = later_none
  later_still s x (y ∷ ys) h (later_one le ne l) =
      later_one {x = y} (omega arith) (λ e. let z : (rows y).low ≡ (rows s).low = ap (λ (k : ℕ). (rows k).low) e in omega arith) (later_still s x ys h l)

  later_insert : (s x : ℕ) (xs : List ℕ) → (rows x).low ≤ (rows s).low → (s ≡ x → ⊥) → Later rows x xs → Later rows x (insert rows s xs)
  unfolding insert insert_at
  later_insert s x [] h ne l = later_one h ne later_none
  later_insert s x (y ∷ ys) h ne (later_one le other l) = go (ltb (rows s).low (rows y).low) (eqb s y) (later_insert s x ys h ne l)
    where
      go : (u w : Bool) → Later rows x (insert rows s ys) → Later rows x (insert_at u w s y ys (insert rows s ys))
      go true w d = later_one h ne (later_one le other l)
      go false true d = later_one le other l
      go false false d = later_one le other d

  pub ordered_insert : (s : ℕ) (l : List ℕ) → s < 64 → Ordered rows l → Ordered rows (insert rows s l)
  unfolding insert insert_at
  ordered_insert s [] h o = ordered_one h later_none ordered_none
  ordered_insert s (y ∷ ys) h (ordered_one b l o) =
      go (ltb (rows s).low (rows y).low) (eqb s y) refl refl (ordered_insert s ys h o)
    where
      go : (u w : Bool) → ltb (rows s).low (rows y).low ≡ u → eqb s y ≡ w → Ordered rows (insert rows s ys)
          → Ordered rows (insert_at u w s y ys (insert rows s ys))
      go true w p q d =
          let less : (rows s).low < (rows y).low = ltb-true _ _ p in
          let ne : y ≡ s → ⊥ = λ e. (let z : (rows y).low ≡ (rows s).low = ap (λ (k : ℕ). (rows k).low) e in omega arith) in
          ordered_one h (later_one {x = y} (omega arith) ne (later_still s y ys less l)) (ordered_one b l o)
      go false true p q d = ordered_one b l o
      go false false p q d = ordered_one b (later_insert s y ys (ltb-false _ _ p) (eqb-false s y q) l) d

-- ── at most 64 ────────────────────────────────────────────────────────────────────────────────────
data Others (s : ℕ) : List ℕ → Type 0 where
  others_none : Others s []
  others_one : {x : ℕ} {xs : List ℕ} → (x ≡ s → ⊥) → Others s xs → Others s (x ∷ xs)

-- Distinct numbers below n.
data Apart (n : ℕ) : List ℕ → Type 0 where
  apart_none : Apart n []
  apart_one : {x : ℕ} {xs : List ℕ} → x < n → Others x xs → Apart n xs → Apart n (x ∷ xs)

unfoldable keep_if : Bool → ℕ → List ℕ → List ℕ
keep_if true x xs = xs
keep_if false x xs = x ∷ xs

-- The list without n.
unfoldable without : ℕ → List ℕ → List ℕ
without n [] = []
without n (x ∷ xs) = keep_if (eqb x n) x (without n xs)

without_others : (n : ℕ) (l : List ℕ) → Others n l → without n l ≡ l
unfolding without keep_if
without_others n [] o = refl
without_others n (x ∷ xs) (others_one ne o) = go (eqb x n) refl (without_others n xs o)
  where
    go : (w : Bool) → eqb x n ≡ w → without n xs ≡ xs → keep_if w x (without n xs) ≡ x ∷ xs
    go true q d = absurd (ne (eqb-true x n q))
    go false q d = ap (λ (r : List ℕ). x ∷ r) d

others_without : (n s : ℕ) (l : List ℕ) → Others s l → Others s (without n l)
unfolding without keep_if
others_without n s [] o = others_none
others_without n s (x ∷ xs) (others_one ne o) = go (eqb x n) (others_without n s xs o)
  where
    go : (w : Bool) → Others s (without n xs) → Others s (keep_if w x (without n xs))
    go true d = d
    go false d = others_one ne d

same_others : (x n : ℕ) (l : List ℕ) → x ≡ n → Others x l → Others n l
same_others x n [] e o = others_none
same_others x n (y ∷ ys) e (others_one ne o) = others_one (λ z. ne (z ∙ sym e)) (same_others x n ys e o)

apart_without : (n : ℕ) (l : List ℕ) → Apart (suc n) l → Apart n (without n l)
unfolding without keep_if
apart_without n [] a = apart_none
apart_without n (x ∷ xs) (apart_one h o a) = go (eqb x n) refl (apart_without n xs a)
  where
    go : (w : Bool) → eqb x n ≡ w → Apart n (without n xs) → Apart n (keep_if w x (without n xs))
    go true q d = d
    go false q d = let ne : x ≡ n → ⊥ = eqb-false x n q in let l : x < n = omega arith in apart_one l (others_without n x xs o) d

one_less : (n : ℕ) (l : List ℕ) → Apart (suc n) l → length l ≤ suc (length (without n l))
unfolding without keep_if
one_less n [] a = omega arith
one_less n (x ∷ xs) (apart_one h o a) = go (eqb x n) refl (one_less n xs a)
  where
    go : (w : Bool) → eqb x n ≡ w → length xs ≤ suc (length (without n xs)) → suc (length xs) ≤ suc (length (keep_if w x (without n xs)))
    go true q d = let e = ap (λ (r : List ℕ). length r) (without_others n xs (same_others x n xs (eqb-true x n q) o)) in omega arith
    go false q d = omega arith

apart_few : (n : ℕ) (l : List ℕ) → Apart n l → length l ≤ n
apart_few zero [] a = omega arith
apart_few zero (x ∷ xs) (apart_one h o a) = absurd (let z : ⊥ = omega arith in z)
apart_few (suc n) l a = let z = apart_few n (without n l) (apart_without n l a) in let w = one_less n l a in omega arith

module _ (rows : Rows) where
  later_others : (s : ℕ) (l : List ℕ) → Later rows s l → Others s l
  later_others s [] later_none = others_none
  later_others s (x ∷ xs) (later_one le ne l) = others_one ne (later_others s xs l)

  ordered_apart : (l : List ℕ) → Ordered rows l → Apart 64 l
  ordered_apart [] ordered_none = apart_none
  ordered_apart (s ∷ xs) (ordered_one h l o) = apart_one h (later_others s xs l) (ordered_apart xs o)

  -- "so 64 places suffice"
  pub ordered_few : (l : List ℕ) → Ordered rows l → length l ≤ 64
  ordered_few l o = apart_few 64 l (ordered_apart l o)

-- ── the order depends on the priorities alone ─────────────────────────────────────────────────────
module _ (rows other : Rows) (same : (s : ℕ) → (rows s).low ≡ (other s).low) where
  later_same_lows : (s : ℕ) (l : List ℕ) → Later rows s l → Later other s l
  later_same_lows s [] later_none = later_none
  later_same_lows s (x ∷ xs) (later_one le ne l) =
      let a = same s in
      let b = same x in
      later_one {x = x} (omega arith) ne (later_same_lows s xs l)

  pub ordered_same_lows : (l : List ℕ) → Ordered rows l → Ordered other l
  ordered_same_lows [] ordered_none = ordered_none
  ordered_same_lows (s ∷ xs) (ordered_one h l o) = ordered_one h (later_same_lows s xs l) (ordered_same_lows xs o)
