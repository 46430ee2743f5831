-- Outputs as the bits of a number. Letters: n a number, o and p outputs.
use mathlib.Core.Path.{◌≡◌, refl, sym, ap, ◌∙◌}
use mathlib.Core.Bool.{Bool, true, false, cond, ◌||◌}
use Prim.Native.Nat.{ℕ, suc, ◌+◌, ◌-◌, ◌*◌, ◌/◌, ◌%◌, ◌^◌, ◌≤◌, ◌<◌, suc-le-suc, max}
use native.Mathlib.Decide.{dec_lt}
use native.Mathlib.Nat.{le_of_suc-le-suc, zero-lt-suc, max-le, max-zero, max-eq_right, mod-lt, mul_assoc, pow-suc, zero-div, div-eq_of_lt, div-lt_iff_lt-mul, le-div_iff_mul-le}
use native.Mathlib.Omega.{arith}
use lib.Arith.{digits_mod}
use lib.Bits.{bit_or, or_step, or_shr, or_add_and, or_shifted_r, and_le_l, and_le_r, shifted_even}
use lib.Dec.{eqb, leb}
use lib.Pow.{pow_pos, pow-lt, pow_mono, pow-add, shl-shr}
use borrow.Author.Tests.{ne_eqb, eqb-true, eqb-false, le-leb, lt-leb}

-- the bit of an output alone
abbrev pub bit_of : ℕ → ℕ
bit_of o = 1 * 2 ^ o

-- the bits from an output's on, moved down
abbrev pub from : ℕ → ℕ → ℕ
from n o = n / 2 ^ o

-- is the output's bit there?
abbrev pub has : ℕ → ℕ → Bool
has n o = eqb (from n o % 2) 1

-- ── bits of two numbers ───────────────────────────────────────────────────────────────────────────
pub or_odd : (a b : ℕ) → bit_or a b % 2 ≡ max (a % 2) (b % 2)
or_odd a b =
    ap (λ (x : ℕ). x % 2) (or_step a b)
    ∙ digits_mod (bit_or (a / 2) (b / 2)) (suc-le-suc (max-le (le_of_suc-le-suc (mod-lt a (zero-lt-suc 1))) (le_of_suc-le-suc (mod-lt b (zero-lt-suc 1)))))

pub or_none_lem : (a b : ℕ) → bit_or a b ≡ 0 → (a ≡ 0) × (b ≡ 0)
or_none_lem a b e =
    let sum = or_add_and a b in
    let l = and_le_l a b in
    let r = and_le_r a b in (omega arith, omega arith)

-- ── one output more ───────────────────────────────────────────────────────────────────────────────
own_bit : (o p : ℕ) (b : Bool) → eqb o p ≡ b → from (bit_of o) p % 2 ≡ cond b 1 0
own_bit o p true e = rw (eqb-true o p e, shl-shr 1 p)
own_bit o p false e = go (dec_lt p o)
  where
    above : (p < o → ⊥) → (o ≡ p → ⊥) → o < p
    above h n = omega arith

    go : Dec (p < o) → from (bit_of o) p % 2 ≡ 0
    go (yes h) =
        let d = o - p - 1 in
        let parts : 1 * 2 ^ o ≡ 1 * 2 ^ suc d * 2 ^ p =
        ap (λ (i : ℕ). 1 * 2 ^ i) sum ∙ ap (λ (x : ℕ). 1 * x) (pow-add 2 (suc d) p) ∙ sym (mul_assoc 1 (2 ^ suc d) (2 ^ p)) in
        ap (λ (n : ℕ). n / 2 ^ p % 2) parts ∙ ap (λ (n : ℕ). n % 2) (shl-shr (1 * 2 ^ suc d) p) ∙ shifted_even 1 d
      where
        sum : o ≡ suc (o - p - 1) + p
        sum = omega arith
    go (no h) =
        let less = pow-lt (above h (eqb-false o p e)) in
        ap (λ (n : ℕ). n % 2) (div-eq_of_lt (omega arith))

pub has_more : (n o p : ℕ) → has (bit_or n (bit_of o)) p ≡ (eqb o p || has n p)
has_more n o p = ap (λ (x : ℕ). eqb x 1) both ∙ go (eqb o p) refl
  where
    both : from (bit_or n (bit_of o)) p % 2 ≡ max (from n p % 2) (from (bit_of o) p % 2)
    both = ap (λ (x : ℕ). x % 2) (or_shr n (bit_of o) p) ∙ or_odd (from n p) (from (bit_of o) p)

    most : from n p % 2 ≤ 1
    most = le_of_suc-le-suc (mod-lt (from n p) (zero-lt-suc 1))

    go : (b : Bool) → eqb o p ≡ b → eqb (max (from n p % 2) (from (bit_of o) p % 2)) 1 ≡ (b || has n p)
    go true e = rw (own_bit o p true e, max-eq_right most)
    go false e = rw (own_bit o p false e, max-zero (from n p % 2))

-- ── the highest output ────────────────────────────────────────────────────────────────────────────
-- all outputs are below `least`, the highest right below it
abbrev pub Below : ℕ → ℕ → Type 0
Below n least = (o : ℕ) → eqb (from n o) 0 ≡ leb least o

pub none_below : Below 0 0
none_below o = rw (zero-div (2 ^ o), le-leb 0 o (omega arith))

pub none_has : (o : ℕ) → has 0 o ≡ false
none_has o = rw (zero-div (2 ^ o))

-- an output above all others
pub more_below : (n o : ℕ) → from n o ≡ 0 → Below (bit_or n (bit_of o)) (o + 1)
more_below n o e p = go (dec_lt o p)
  where
    small : n < 2 ^ o
    small = let h = (div-lt_iff_lt-mul {k = 2 ^ o} {x = n} {y = 1} (pow_pos o)).0 (omega arith) in omega arith

    sum : bit_or n (bit_of o) ≡ bit_of o + n
    sum = or_shifted_r 1 o n small

    go : Dec (o < p) → eqb (from (bit_or n (bit_of o)) p) 0 ≡ leb (o + 1) p
    go (yes h) =
        let l = small in
        let m = pow_mono {i = suc o} {j = p} h in
        let d = pow-suc 2 o in
        rw (sum, div-eq_of_lt {n = bit_of o + n} {m = 2 ^ p} (omega arith), le-leb (o + 1) p (omega arith))
    go (no h) =
        let m = pow_mono {i = p} {j = o} (omega arith) in
        let l = (le-div_iff_mul-le {k = 2 ^ p} {x = 1} {y = bit_of o + n} (pow_pos p)).1 (omega arith) in
        rw (sum, ne_eqb (from (bit_of o + n) p) 0 (λ z. omega arith), lt-leb (o + 1) p (omega arith))
