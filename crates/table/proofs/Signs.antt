-- The numbers that are signs', and those that are not.
use mathlib.Core.Path.{◌≡◌, refl}
use mathlib.Core.Bool.{Bool, true, false, cond, ◌||◌}
use Prim.Native.Nat.{ℕ, suc, ◌≤◌}
use native.Mathlib.Omega.{arith}
use lib.Dec.{eqb, leb}
use borrow.Author.Tests.{eqb-true, eqb-false, ne_eqb, leb-true}
use Rattle.listing.specs.Listing.{literal, value_of, written_mark}
use Rattle.table.specs.Decode.{no_piece, piece_of, is_sign}
use Rattle.table.proofs.Tests.{and_left, and_right}

-- a number from n on is n or one of those behind it
from : (P : ℕ → Type 0) (k n : ℕ) → P n → (suc n ≤ k → P k) → n ≤ k → P k
from P k n here behind l = go (eqb k n) refl
  where
    go : (t : Bool) → eqb k n ≡ t → P k
    go true e = rw (eqb-true k n e) here
    go false e = let no = eqb-false k n e in behind (omega (arith, no))

-- what holds of each of the six holds of a sign's number
pub sign_is : (P : ℕ → Type 0) (kind : ℕ) → is_sign kind ≡ true → P 3 → P 4 → P 5 → P 6 → P 7 → P 8 → P kind
sign_is P k h a b c d e f =
    let most : k ≤ 8 = leb-true k 8 (and_right (leb 3 k) (leb k 8) h) in
    from P k 3 a (from P k 4 b (from P k 5 c (from P k 6 d (from P k 7 e (from P k 8 f (λ (l : 9 ≤ k). absurd (omega arith)))))))
    (leb-true 3 k (and_left (leb 3 k) (leb k 8) h))

-- none of two
pub neither : (x y : Bool) → (x || y) ≡ false → (x ≡ false) × (y ≡ false)
neither false y h = (refl, h)
neither true y h = absurd (let z : ◌≡◌ {A = ℕ} 0 1 = cc in omega arith)

-- the piece of a number that is no sign's
pub no_sign : (kind value : ℕ) → is_sign kind ≡ false
    → piece_of kind value ≡ cond (eqb kind 0) (literal value) (cond (eqb kind 1) (value_of value) (cond (eqb kind 2) (written_mark value) no_piece))
unfolding piece_of
no_sign k v h = rw (other 3 refl, other 4 refl, other 5 refl, other 6 refl, other 7 refl, other 8 refl)
  where
    other : (n : ℕ) → is_sign n ≡ true → eqb k n ≡ false
    other n s = ne_eqb k n (λ (e : k ≡ n). let no : is_sign n ≡ false = rw e at h in let z : ◌≡◌ {A = ℕ} 0 1 = cc in omega arith)

-- a sign's number is one of 3 to 8
pub sign_within : (kind : ℕ) → is_sign kind ≡ true → (3 ≤ kind) × (kind ≤ 8)
sign_within k h = (leb-true 3 k (and_left (leb 3 k) (leb k 8) h), leb-true k 8 (and_right (leb 3 k) (leb k 8) h))
