-- What is lent of a memory, and a first word that is spoilt.
use mathlib.Core.Path.{◌≡◌, refl, sym, ap, ◌∙◌}
use mathlib.Core.Bool.{Bool, true, false, cond}
use mathlib.Core.List.{List, [], ◌∷◌}
use Prim.Native.Nat.{ℕ, ◌≤◌, min}
use native.Mathlib.Omega.{arith}
use lib.Dec.{eqb, leb}
use lib.ListN.{length, get_or, set, take, drop}
use lib.Seq.{length-take-le, take_all, take-append-le}
use borrow.Author.Tests.{leb-true, leb-false}
use Rattle.streams.specs.Counts.{IsPrefixLen}
use Rattle.test_cases.specs.Words.{copied}
use Rattle.test_lending.specs.Places.{lent_places, spoilt_first}

-- ── a part of a list that begins where the list does ──────────────────────────────────────────────
pub counts : (n : ℕ) (l : List ℕ) → n ≤ length l → IsPrefixLen n l
counts n l h = (h, sym (length-take-le n l h))

-- ── how much is lent ──────────────────────────────────────────────────────────────────────────────
pub lent_within : (spoil which places : ℕ) (m : List ℕ) → lent_places spoil which places m ≤ length m
unfolding lent_places
lent_within spoil which places m = go (eqb spoil which)
  where
    go : (b : Bool) → cond b (min places (length m)) (length m) ≤ length m
    go true = omega arith
    go false = omega arith

-- ── a first word ──────────────────────────────────────────────────────────────────────────────────
-- put and put back
put_back : (l : List ℕ) (v : ℕ) → set (set l 0 v) 0 (get_or l 0 0) ≡ l
put_back [] v = refl
put_back (x ∷ l) v = refl

unspoilt : (spoil which v : ℕ) (l : List ℕ) → spoilt_first spoil which (get_or l 0 0) (spoilt_first spoil which v l) ≡ l
unfolding spoilt_first
unspoilt spoil which v l = go (eqb spoil which)
  where
    go : (b : Bool) → cond b (set (cond b (set l 0 v) l) 0 (get_or l 0 0)) (cond b (set l 0 v) l) ≡ l
    go true = put_back l v
    go false = refl

pub spoilt_back : (spoil which v w : ℕ) (l l₁ l₂ : List ℕ) → l₁ ≡ spoilt_first spoil which v l → w ≡ get_or l 0 0 → l₂ ≡ spoilt_first spoil which w l₁ → l₂ ≡ l
spoilt_back spoil which v w l l₁ l₂ e h k =
    k
    ∙ (ap (λ (x : List ℕ). spoilt_first spoil which w x) e
    ∙ (ap (λ (x : ℕ). spoilt_first spoil which x (spoilt_first spoil which v l)) h ∙ unspoilt spoil which v l))

-- ── a machine copied ──────────────────────────────────────────────────────────────────────────────
-- so many words as there are, or 12,300
at_most : (m : List ℕ) (b : Bool) → leb (length m) 12300 ≡ b → take (min (length m) 12300) m ≡ take 12300 m
at_most m true e =
    let h = leb-true (length m) 12300 e in
    take_all (min (length m) 12300) m (omega arith) ∙ sym (take_all 12300 m h)
at_most m false e =
    let h = leb-false (length m) 12300 e in
    ap (λ (n : ℕ). take n m) (let z : min (length m) 12300 ≡ 12300 = omega arith in z)

pub copy_is : (m l l' : List ℕ) → 12300 ≡ length l → l' ≡ copied m l (min (length m) (length l)) → take (min (length m) 12300) l' ≡ take 12300 m
copy_is m l l' e h =
    let n : min (length m) (length l) ≡ min (length m) 12300 = omega arith in
    let front : length (take (min (length m) 12300) m) ≡ min (length m) 12300 = length-take-le (min (length m) 12300) m (omega arith) in
    ap (take (min (length m) 12300)) (h ∙ ap (λ (k : ℕ). copied m l k) n)
    ∙ (take-append-le (min (length m) 12300) (take (min (length m) 12300) m) (drop (min (length m) 12300) l) (omega arith)
    ∙ (take_all (min (length m) 12300) (take (min (length m) 12300) m) (omega arith) ∙ at_most m (leb (length m) 12300) refl))
