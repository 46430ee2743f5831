-- Comparing words with those of what they decode to.
use mathlib.Core.Path.{◌≡◌, refl, sym}
use mathlib.Core.Bool.{Bool, true, false, ◌&&◌}
use mathlib.Core.List.{List, [], ◌∷◌, ◌++◌}
use Prim.Native.Nat.{ℕ, suc, ◌+◌}
use native.Mathlib.Omega.{arith}
use lib.Dec.{eqb, leb}
use lib.ListN.{length}
use borrow.Author.Tests.{eq-eqb, le-leb, leb-true}
use Rattle.table.specs.Decode.{word}
use Rattle.table_check_cells.specs.Pass.{same_at}

pub and_assoc : (a b c : Bool) → ((a && b) && c) ≡ (a && (b && c))
and_assoc true b c = refl
and_assoc false b c = refl

pub same_split : (w : List ℕ) (a : ℕ) (xs ys : List ℕ) → same_at w a (xs ++ ys) ≡ (same_at w a xs && same_at w (a + length xs) ys)
unfolding same_at
same_split w a [] ys = let z : a + 0 ≡ a = omega arith in rw z
same_split w a (x ∷ xs) ys =
    let z : (a + 1) + length xs ≡ a + suc (length xs) = omega arith in
    rw (same_split w (a + 1) xs ys, z) (sym (and_assoc (eqb (word w a) x) (same_at w (a + 1) xs) _))

pub same_number : (v : ℕ) → eqb v v ≡ true
same_number v = eq-eqb v v refl

-- a bound that holds behind holds before
pub leb_before : (m n bound : ℕ) → leb (m + n) bound ≡ true → leb m bound ≡ true
leb_before m n bound h = let f = leb-true (m + n) bound h in le-leb m bound (omega arith)
