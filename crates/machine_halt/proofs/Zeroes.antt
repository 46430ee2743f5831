-- Words made 0 one after the other, and the whole forms that come of it.
use mathlib.Core.Path.{◌≡◌, refl, ap, ◌∙◌}
use mathlib.Core.List.{List, [], ◌∷◌, ◌++◌}
use Prim.Native.Nat.{ℕ, ◌+◌, ◌-◌, ◌≤◌, ◌<◌}
use native.Mathlib.Omega.{arith}
use borrow.Rule.Slice.PartMut.{put_mid}
use lib.ListN.{length, take, drop, set, replicate, length-append, length-take, length-drop, length-replicate}
use lib.Seq.{drop-set-lt}
use Rattle.std.proofs.lemmas.List.{drop-drop}
use Rattle.walk.specs.Calls.{halted_words}
use Rattle.machine_halt.specs.Zeroed.{zeroed, blank_words}

filled_from : (from : ℕ) (l ys : List ℕ) → from ≤ 12288 → 12288 ≤ length l → ys ≡ replicate (length (take (12288 - from) (drop from l))) 0
    → put_mid from (12288 - from) l ys ≡ zeroed from 12288 l
unfolding zeroed
filled_from from l ys h g e =
    let n : length (take (12288 - from) (drop from l)) ≡ 12288 - from = length-take (12288 - from) (drop from l) ∙ omega (arith, length-drop from l) in
    let p : from + (12288 - from) ≡ 12288 = omega arith in
    rw (e, n, drop-drop (12288 - from) from l, p)

-- The words from one place up to 12,288, filled with 0: as many words from `start` on.
pub filled : (from start count : ℕ) (l ys : List ℕ) → from ≤ 12288 → 12288 ≤ length l → start ≡ from → from + count ≡ 12288
    → ys ≡ replicate (length (take count (drop start l))) 0 → put_mid start count l ys ≡ zeroed from 12288 l
filled from start count l ys h g s k e =
    let n : count ≡ 12288 - from = omega arith in
    rw (s, n) (filled_from from l ys h g (rw (s, n) at e))

pub zeroed_length : (from to : ℕ) (l : List ℕ) → from ≤ to → to ≤ length l → length (zeroed from to l) ≡ length l
unfolding zeroed
zeroed_length from to l h g =
    length-append (take from l) (replicate (to - from) 0 ++ drop to l)
    ∙ omega (arith, length-append (replicate (to - from) 0) (drop to l), length-take from l, length-replicate {A = ℕ} (to - from) 0, length-drop to l)

-- The first word set, the next ones 0.
after_first : (n k to : ℕ) (l : List ℕ) → 0 < length l → 0 < to → take 1 (set l 0 k) ++ (replicate n 0 ++ drop to (set l 0 k)) ≡ (k ∷ replicate n 0) ++ drop to l
after_first n k to [] h p = absurd (let z : ⊥ = omega arith in z)
after_first n k to (x ∷ l) h p = ap (λ (z : List ℕ). k ∷ (replicate n 0 ++ z)) (drop-set-lt to (x ∷ l) 0 k p)

pub halted_form : (k : ℕ) (l : List ℕ) → 12288 ≤ length l → zeroed 1 12288 (set l 0 k) ≡ halted_words k ++ drop 12288 l
unfolding zeroed halted_words
halted_form k l h = after_first 12287 k 12288 l (omega arith) (omega arith)

pub blank_form : (l : List ℕ) → zeroed 0 12288 l ≡ blank_words ++ drop 12288 l
unfolding zeroed blank_words
blank_form l = refl
