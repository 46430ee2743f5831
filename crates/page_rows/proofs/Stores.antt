-- Runs of stores. Letters: l what the lent bytes held before, i the place of the first store.
use mathlib.Core.Path.{◌≡◌, refl, sym, ap, ◌∙◌}
use mathlib.Core.List.{List, [], ◌∷◌, ◌++◌}
use Prim.Native.Nat.{ℕ, zero, suc, ◌+◌, ◌*◌, ◌<◌}
use native.Mathlib.Nat.{add-zero}
use native.Mathlib.Numerals.{add-one}
use native.Mathlib.Omega.{arith}
use lib.ListN.{length, set, get_or, take, replicate, length-append, length-replicate, replicate-append-replicate}
use lib.Seq.{sets, set_comm, take-suc, length-take-le}
use Rattle.listing.specs.Bytes.{Bytes}
use Rattle.page_rows.specs.Rows.{joined}

-- one run behind another
pub sets_append : (l : List ℕ) (i : ℕ) (xs ys : List ℕ) → sets l i (xs ++ ys) ≡ sets (sets l i xs) (i + length xs) ys
sets_append l i [] ys = ap (λ (k : ℕ). sets l k ys) (sym (add-zero i))
sets_append l i (x ∷ xs) ys =
    sets_append (set l i x) (suc i) xs ys
    ∙ ap (λ (k : ℕ). sets (sets (set l i x) (suc i) xs) k ys) (omega arith)

-- a run whose last store is made first
pub sets_last : (l : List ℕ) (i : ℕ) (xs : List ℕ) (y : ℕ) → sets l i (xs ++ (y ∷ [])) ≡ sets (set l (i + length xs) y) i xs
sets_last l i [] y = ap (λ (k : ℕ). set l k y) (sym (add-zero i))
sets_last l i (x ∷ xs) y =
    sets_last (set l i x) (suc i) xs y
    ∙ ap (λ (k : ℕ). sets (set (set l i x) k y) (suc i) xs) (omega arith)
    ∙ ap (λ (m : List ℕ). sets m (suc i) xs) (set_comm l i (i + length (x ∷ xs)) x y (λ e. omega arith))

-- one byte more, of bytes that are stored one by one
pub byte_stored : (l : List ℕ) (i : ℕ) (bytes : List ℕ) (k : ℕ) → k < length bytes → {out : List ℕ} → out ≡ sets l i (take k bytes) →
    set out (i + k) (get_or bytes k 0) ≡ sets l i (take (k + 1) bytes)
byte_stored l i bytes k h e =
    ap (λ (m : List ℕ). set m (i + k) (get_or bytes k 0)) e
    ∙ ap (λ (j : ℕ). set (sets l i (take k bytes)) (i + j) (get_or bytes k 0)) (sym (length-take-le k bytes (omega arith)))
    ∙ sym (sets_append l i (take k bytes) (get_or bytes k 0 ∷ []))
    ∙ ap (sets l i) (sym (take-suc bytes k 0 h) ∙ ap (λ (j : ℕ). take j bytes) (sym (add-one k)))

-- the same byte once more
pub again_stored : (l : List ℕ) (i b k : ℕ) {out : List ℕ} → out ≡ sets l i (replicate k b) → set out (i + k) b ≡ sets l i (replicate (k + 1) b)
again_stored l i b k e =
    ap (λ (m : List ℕ). set m (i + k) b) e
    ∙ ap (λ (j : ℕ). set (sets l i (replicate k b)) (i + j) b) (sym (length-replicate k b))
    ∙ sym (sets_append l i (replicate k b) (b ∷ []))
    ∙ ap (sets l i) (replicate-append-replicate k 1 b)

-- ── equal rows, one behind another ────────────────────────────────────────────────────────────────
pub joined_append : (xs ys : List Bytes) → joined (xs ++ ys) ≡ joined xs ++ joined ys
unfolding joined
joined_append [] ys = refl
joined_append (x ∷ xs) ys = rw (joined_append xs ys) (sym (simp mathlib.Core.List.append_assoc))

pub joined_length : (k n : ℕ) (r : Bytes) → length r ≡ n → length (joined (replicate k r)) ≡ k * n
unfolding joined
joined_length zero n r e = omega arith
joined_length (suc k) n r e = length-append r (joined (replicate k r)) ∙ omega (arith, joined_length k n r e)

pub row_stored : (l : List ℕ) (k n : ℕ) (r : Bytes) → length r ≡ n → {out after : List ℕ} → out ≡ sets l 0 (joined (replicate k r)) →
    after ≡ sets out (k * n) r → after ≡ sets l 0 (joined (replicate (k + 1) r))
unfolding joined
row_stored l k n r e {out} {after} before put =
    put
    ∙ ap (λ (m : List ℕ). sets m (k * n) r) before
    ∙ ap (λ (j : ℕ). sets (sets l 0 (joined (replicate k r))) j r) (sym (joined_length k n r e) ∙ omega arith)
    ∙ sym (sets_append l 0 (joined (replicate k r)) r)
    ∙ ap (sets l 0) (ap (λ (s : Bytes). joined (replicate k r) ++ s) (sym (mathlib.Core.List.append-nil r))
    ∙ sym (joined_append (replicate k r) (r ∷ [])) ∙ ap joined (replicate-append-replicate k 1 r))
