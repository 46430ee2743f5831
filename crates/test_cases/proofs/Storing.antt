-- Words stored one after the other.
use mathlib.Core.Path.{◌≡◌, refl, sym, ap, ◌∙◌}
use mathlib.Core.List.{List, [], ◌∷◌, ◌++◌}
use Prim.Native.Nat.{ℕ, suc, ◌+◌, ◌≤◌, ◌<◌}
use native.Mathlib.Omega.{arith}
use lib.ListN.{length, get_or, take, drop, set}
use lib.Seq.{drop-cons, set_at, append_snoc, length-take-le, take_all, take-append-le, drop-append_seam}

-- the next value after those of p
pub put_next : {A : Type 0} (p d : List A) (k : ℕ) (v : A) → length p ≡ k → k < length d → set (p ++ drop k d) k v ≡ (p ++ (v ∷ [])) ++ drop (k + 1) d
put_next {A} p d k v e h =
    let f : k + 1 ≡ suc k = omega arith in
    ap (λ (l : List A). set (p ++ l) k v) (drop-cons d k v h)
    ∙ (set_at p (get_or d k v) (drop (suc k) d) v k e ∙ (sym (append_snoc p v (drop (suc k) d)) ∙ rw f refl))

-- the front part of a memory, lent and come back as p
pub front_is : (n : ℕ) (p l : List ℕ) → length p ≡ length (take n l) → n ≤ length l → take n (p ++ drop n l) ≡ p
front_is n p l e h =
    let k : length p ≡ n = e ∙ length-take-le n l h in
    take-append-le n p (drop n l) (omega arith) ∙ take_all n p (omega arith)

-- and the rest of it is as it was
pub rest_is_lem : (n : ℕ) (p l : List ℕ) → length p ≡ length (take n l) → n ≤ length l → drop n (p ++ drop n l) ≡ drop n l
rest_is_lem n p l e h =
    let k : length p ≡ n = e ∙ length-take-le n l h in
    ap (λ (m : ℕ). drop m (p ++ drop n l)) (sym k) ∙ drop-append_seam p (drop n l)
