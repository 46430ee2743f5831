-- Five stores in a row.
use mathlib.Core.Path.{◌≡◌, refl}
use mathlib.Core.List.{List, [], ◌∷◌}
use Prim.Native.Nat.{ℕ, suc, ◌+◌}
use native.Mathlib.Omega.{arith}
use lib.ListN.{length, get_or, set}
use lib.Seq.{sets}

pub five_stores : (t t₁ t₂ t₃ t₄ t₅ : List ℕ) (e a b c d f : ℕ) → t₁ ≡ set t e a → t₂ ≡ set t₁ (e + 1) b → t₃ ≡ set t₂ (e + 2) c
    → t₄ ≡ set t₃ (e + 3) d → t₅ ≡ set t₄ (e + 4) f → t₅ ≡ sets t e (a ∷ (b ∷ (c ∷ (d ∷ (f ∷ [])))))
five_stores t t₁ t₂ t₃ t₄ t₅ e a b c d f p q r s u =
    let i : e + 1 ≡ suc e = omega arith in
    let j : e + 2 ≡ suc (suc e) = omega arith in
    let k : e + 3 ≡ suc (suc (suc e)) = omega arith in
    let l : e + 4 ≡ suc (suc (suc (suc e))) = omega arith in
    rw (u, s, r, q, p, i, j, k, l)

-- the words of an entry, one by one
pub five_words : (ws : List ℕ) → length ws ≡ 5 → get_or ws 0 0 ∷ (get_or ws 1 0 ∷ (get_or ws 2 0 ∷ (get_or ws 3 0 ∷ (get_or ws 4 0 ∷ [])))) ≡ ws
five_words (a ∷ (b ∷ (c ∷ (d ∷ (f ∷ []))))) e = refl
five_words [] e = absurd (let z : ⊥ = omega arith in z)
five_words (a ∷ []) e = absurd (let z : ⊥ = omega arith in z)
five_words (a ∷ (b ∷ [])) e = absurd (let z : ⊥ = omega arith in z)
five_words (a ∷ (b ∷ (c ∷ []))) e = absurd (let z : ⊥ = omega arith in z)
five_words (a ∷ (b ∷ (c ∷ (d ∷ [])))) e = absurd (let z : ⊥ = omega arith in z)
five_words (a ∷ (b ∷ (c ∷ (d ∷ (f ∷ (g ∷ ws)))))) e = absurd (let z : ⊥ = omega arith in z)
