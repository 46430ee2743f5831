-- Words stored in rows.
use mathlib.Core.Path.{◌≡◌, refl, ap, ◌∙◌}
use mathlib.Core.List.{List, [], ◌∷◌, ◌++◌}
use Prim.Native.Nat.{ℕ, suc, ◌+◌, ◌*◌, ◌<◌}
use native.Mathlib.Omega.{arith}
use lib.ListN.{length, set, length-append}
use lib.Seq.{sets, set-set, set_comm}
use Rattle.table.specs.Areas.{words_of_each}

-- one row behind another is one row
pub sets_behind : (t : List ℕ) (i : ℕ) (vs ws : List ℕ) → sets (sets t i vs) (i + length vs) ws ≡ sets t i (vs ++ ws)
sets_behind t i [] ws = let z : i + 0 ≡ i = omega arith in ap (λ (j : ℕ). sets t j ws) z
sets_behind t i (v ∷ vs) ws =
    let z : i + suc (length vs) ≡ suc i + length vs = omega arith in
    ap (λ (j : ℕ). sets (sets (set t i v) (suc i) vs) j ws) z ∙ sets_behind (set t i v) (suc i) vs ws

-- a store before a row
pub set_before : (t : List ℕ) (i j v : ℕ) (ws : List ℕ) → i < j → set (sets t j ws) i v ≡ sets (set t i v) j ws
set_before t i j v [] h = refl
set_before t i j v (w ∷ ws) h =
    set_before (set t j w) i (suc j) v ws (omega arith) ∙ ap (λ (l : List ℕ). sets l (suc j) ws) (set_comm t j i w v (λ e. omega arith))

-- the first word of a row, stored anew
pub first_anew : (t : List ℕ) (i v w : ℕ) (ws : List ℕ) → set (sets t i (w ∷ ws)) i v ≡ sets t i (v ∷ ws)
first_anew t i v w ws = set_before (set t i w) i (suc i) v ws (omega arith) ∙ ap (λ (l : List ℕ). sets l (suc i) ws) (set-set t i w v)

-- cells of two words each
pub two_each : {A : Type 0} (words : A → List ℕ) → ((x : A) → length (words x) ≡ 2) → (xs : List A) → length (words_of_each words xs) ≡ 2 * length xs
unfolding words_of_each
two_each words h [] = omega arith
two_each words h (x ∷ xs) = omega (arith, length-append (words x) (words_of_each words xs), h x, two_each words h xs)
