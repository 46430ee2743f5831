-- Columns, spaces and a line feed stored one behind another are a row. Letters: l what the lent bytes held before, i the place of the row.
use mathlib.Core.Path.{◌≡◌, refl, sym, ap, ◌∙◌}
use mathlib.Core.List.{List, [], ◌∷◌, ◌++◌}
use mathlib.Core.Option.{none}
use Prim.Native.Nat.{ℕ, ◌+◌, ◌-◌, ◌≤◌}
use native.Mathlib.Omega.{arith}
use lib.ListN.{length, set, replicate, length-append, length-replicate}
use lib.Seq.{sets}
use Rattle.listing.specs.Bytes.{Bytes, figure}
use Rattle.page_rows.specs.Rows.{right_aligned, row_of, hyphens, open_for, row, blank_row}
use Rattle.page_rows.proofs.Stores.{sets_append}

pub aligned_length : (columns : ℕ) (text : Bytes) → length text ≤ columns → length (right_aligned columns text) ≡ columns
unfolding right_aligned
aligned_length columns text h =
    length-append (replicate (columns - length text) 32) text ∙ omega (arith, length-replicate {A = ℕ} (columns - length text) 32)

-- ── bytes stored, and the place past them ─────────────────────────────────────────────────────────
-- "bytes stored from i on": after them comes place j
record Put (l : List ℕ) (i : ℕ) (bytes after : List ℕ) (j : ℕ) : Type 0 where
  pub past : i + length bytes ≡ j
  pub stored : after ≡ sets l i bytes

then : {l m after xs ys : List ℕ} {i j k : ℕ} → Put l i xs m j → Put m j ys after k → Put l i (xs ++ ys) after k
then {l} {m} {after} {xs} {ys} {i} {j} {k} p q = record {
  past = omega (arith, p.past, q.past, length-append xs ys);
  stored = q.stored ∙ ap (λ (n : ℕ). sets m n ys) (sym p.past) ∙ ap (λ (b : List ℕ). sets b (i + length xs) ys) p.stored ∙ sym (sets_append l i xs ys);
}

-- the six stores of the row of a valve that is still open
pub row_put : (l : List ℕ) (i output opened : ℕ) → length (figure output) ≤ 2 → length (figure opened) ≤ 20 → {a b c d e f : List ℕ} →
    a ≡ sets l i (right_aligned 2 (figure output)) → b ≡ set a (i + 2) 32 → c ≡ sets b (i + 3) (right_aligned 20 (figure opened)) →
    d ≡ set c (i + 23) 32 → e ≡ sets d (i + 24) (replicate 20 45) → f ≡ set e (i + 44) 10 →
    f ≡ sets l i (row (record { output = output; opened = opened; closed = none }))
unfolding row row_of open_for hyphens right_aligned
row_put l i output opened two twenty {a} {b} {c} {d} {e} {f} pa pb pc pd pe pf =
    let one : Put l i (right_aligned 2 (figure output)) a (i + 2) = record { past = ap (λ (n : ℕ). i + n) (aligned_length 2 (figure output) two); stored = pa } in
    let second : Put a (i + 2) (32 ∷ []) b (i + 3) = record { past = omega arith; stored = pb } in
    let third : Put b (i + 3) (right_aligned 20 (figure opened)) c (i + 23) = record { past = omega (arith, aligned_length 20 (figure opened) twenty); stored = pc } in
    let fourth : Put c (i + 23) (32 ∷ []) d (i + 24) = record { past = omega arith; stored = pd } in
    let fifth : Put d (i + 24) (replicate 20 45) e (i + 44) = record { past = omega arith; stored = pe } in
    let sixth : Put e (i + 44) (10 ∷ []) f (i + 45) = record { past = omega arith; stored = pf } in
    (then one (then second (then third (then fourth (then fifth sixth))))).stored

-- the two stores of a row of spaces
pub blank_put : (l : List ℕ) (i : ℕ) {a b : List ℕ} → a ≡ sets l i (replicate 44 32) → b ≡ set a (i + 44) 10 → b ≡ sets l i blank_row
unfolding blank_row
blank_put l i {a} {b} pa pb =
    let first : Put l i (replicate 44 32) a (i + 44) = record { past = omega (arith, length-replicate {A = ℕ} 44 32); stored = pa } in
    let second : Put a (i + 44) (10 ∷ []) b (i + 45) = record { past = omega arith; stored = pb } in
    (then first second).stored

pub blank_length : length blank_row ≡ 45
unfolding blank_row
blank_length = refl
