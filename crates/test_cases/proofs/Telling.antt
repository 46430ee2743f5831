-- A comparison's answer, from what its loop found.
use mathlib.Core.Bool.{Bool, true, false}
use mathlib.Core.Path.{◌≡◌, refl, sym, ap, ◌∙◌}
use mathlib.Core.List.{List, [], ◌∷◌}
use Prim.Native.Nat.{ℕ}
use native.Mathlib.Omega.{arith}
use lib.ListN.{length, get_or, drop, replicate}
use lib.Dec.{eqb}
use borrow.Author.Tests.{eqb-true, eq-eqb}
use Rattle.std.specs.List.{list_all}
use Rattle.test_cases.specs.Words.{Tells}

pub never : false ≡ true → ⊥
never e = let z : ◌≡◌ {A = ℕ} 0 1 = cc in omega arith

pub tells_no : {A : Type 0} → (A → ⊥) → Tells false A
tells_no differs = record { means = λ e. absurd (never e); whenever = λ a. absurd (differs a) }

pub tells_yes : {A : Type 0} → A → Tells true A
tells_yes a = record { means = λ e. a; whenever = λ b. refl }

-- the same answer to another question, where the two hold together
pub tells_same : {A B : Type 0} {r : Bool} → (A → B) → (B → A) → Tells r A → Tells r B
tells_same f g t = record { means = λ e. f (t.means e); whenever = λ b. t.whenever (g b) }

-- no, where one question was answered no and the other is a part of it
pub tells_else : {A B : Type 0} {r : Bool} → Tells r A → r ≡ false → (B → A) → Tells false B
tells_else t e f = tells_no (λ b. never (sym e ∙ t.whenever (f b)))

-- r says whether every word of the list is w
abbrev pub TellsOne : Bool → ℕ → List ℕ → Type 0
TellsOne r w l = Tells r (l ≡ replicate (length l) w)

-- whether every word passes the test of being w
all_yes : (w : ℕ) (l : List ℕ) → TellsOne (list_all (λ x. eqb x w) l) w l
all_yes w [] = tells_yes refl
all_yes w (x ∷ l) = by (eqb x w) refl (all_yes w l)
  where
    by : (b : Bool) → eqb x w ≡ b → TellsOne (list_all (λ y. eqb y w) l) w l → TellsOne (list_all (λ y. eqb y w) (x ∷ l)) w (x ∷ l)
    by true e t =
        let first : x ≡ w = eqb-true x w e in
        rw e (tells_same (λ f. rw first (ap (λ (k : List ℕ). w ∷ k) f)) (λ f. ap (λ (k : List ℕ). drop 1 k) f) t)
    by false e t = rw e (tells_no (λ f. never (sym e ∙ eq-eqb x w (ap (λ (k : List ℕ). get_or k 0 0) f))))

pub all_words : {r : Bool} (w : ℕ) (l : List ℕ) → r ≡ list_all (λ x. eqb x w) l → TellsOne r w l
all_words w l e = rw e (all_yes w l)
