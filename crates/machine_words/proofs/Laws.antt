-- One more turn of each test over a row of words or variables.
use Prim.Native.Nat.{ℕ, zero, suc, ◌+◌, ◌*◌, ◌-◌, ◌<◌, ◌≤◌}
use mathlib.Core.Path.{◌≡◌, refl, ap}
use mathlib.Core.Bool.{Bool, true, false, ◌&&◌}
use mathlib.Core.List.{List}
use lib.Dec.{eqb}
use lib.ListN.{length, get_or, take, drop}
use lib.Seq.{drop-cons}
use native.Mathlib.Numerals.{add-one}
use native.Mathlib.Omega.{arith}
use borrow.Author.Tests.{le-leb}
use Rattle.words.specs.Words.{all_zero}
use Rattle.machine.specs.Words.{zero_from, variable_rests, variables_rest, block_rests}

pub rest_begins : (t : ℕ) (w : List ℕ) (a k : ℕ) → variables_rest t w (a + 0 * 6) (k - 0) ≡ variables_rest t w a k
rest_begins t w a k = let p : a + 0 * 6 ≡ a = omega arith in let q : k - 0 ≡ k = omega arith in rw (p, q)

pub one_variable : (t : ℕ) (w : List ℕ) (a k i : ℕ) (b : Bool) → i < k → variable_rests t w (a + i * 6) ≡ b →
    variables_rest t w (a + i * 6) (k - i) ≡ b && variables_rest t w (a + (i + 1) * 6) (k - (i + 1))
unfolding variables_rest
one_variable t w a k i b l e =
    let p : k - i ≡ suc (k - (i + 1)) = omega arith in
    let q : a + i * 6 + 6 ≡ a + (i + 1) * 6 = omega arith in
    rw (p, e, q)

module _ (t : ℕ) (w : List ℕ) (a k : ℕ) (few : k ≤ 16) where
  by_zeros : (b c : Bool) → variables_rest t w (a + 8) k ≡ b → zero_from w (a + 8 + k * 6) (176 - k * 6) ≡ c → block_rests t w a k ≡ b && c
  unfolding block_rests
  by_zeros b c e f = rw (le-leb _ _ few, e, f)

  pub block_by_variables : zero_from w (a + 8 + k * 6) (176 - k * 6) ≡ true → block_rests t w a k ≡ variables_rest t w (a + 8) k
  block_by_variables e = go (variables_rest t w (a + 8) k) refl
    where
      go : (b : Bool) → variables_rest t w (a + 8) k ≡ b → block_rests t w a k ≡ b
      go true f = by_zeros true true f e
      go false f = by_zeros false true f e

  pub block_with_junk : zero_from w (a + 8 + k * 6) (176 - k * 6) ≡ false → block_rests t w a k ≡ false
  block_with_junk e = go (variables_rest t w (a + 8) k) refl
    where
      go : (b : Bool) → variables_rest t w (a + 8) k ≡ b → block_rests t w a k ≡ false
      go true f = by_zeros true false f e
      go false f = by_zeros false false f e

-- The test of words in a row is that of the slice of them.
pub zero_by_slice : (w : List ℕ) (a k : ℕ) → a + k ≤ length w → all_zero (take k (drop a w)) ≡ zero_from w a k
unfolding zero_from
zero_by_slice w a zero h = refl
zero_by_slice w a (suc k) h =
    rw (drop-cons w a 0 (omega arith), add-one a) (ap (λ b. eqb (get_or w a 0) 0 && b) (zero_by_slice w (suc a) k (omega arith)))
