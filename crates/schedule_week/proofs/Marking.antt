-- One minute more is marked. Letters: w the week before, v the week so far, k an input, f the first minute, m the minute that comes next.
use mathlib.Core.Path.{◌≡◌, refl, ap, ◌∙◌}
use mathlib.Core.Bool.{Bool, cond, ◌&&◌}
use mathlib.Core.List.{List}
use Prim.Native.Nat.{ℕ, ◌+◌, ◌*◌, ◌%◌, ◌^◌, ◌≤◌, ◌<◌}
use native.Mathlib.Decide.{dec_lt}
use native.Mathlib.Nat.{mod-eq_of_lt}
use native.Mathlib.Omega.{arith}
use lib.Bits.{bit_or}
use lib.Dec.{leb, ltb}
use lib.ListN.{length, get_or, set, length-set}
use lib.Pow.{pow-lt}
use lib.Seq.{get_or-set_same, get_or-set_other}
use borrow.Author.Tests.{le-leb, lt-leb, lt-ltb, le-ltb}
use Rattle.schedule_week.specs.Week.{Marked}

-- the bit of an input has 16 bits
pub bit_fits : (k : ℕ) → k < 16 → 1 * 2 ^ k % 65536 ≡ 1 * 2 ^ k
bit_fits k h = mod-eq_of_lt (omega (arith, pow-lt {i = k} {j = 16} h))

-- is a minute marked?
abbrev test : ℕ → ℕ → ℕ → Bool
test f m n = leb f n && ltb n m

pub none_marked : (k f : ℕ) (w : List ℕ) → Marked k f f w w
none_marked k f w = record { size = refl; each = λ n. go n (dec_lt n f) }
  where
    go : (n : ℕ) → Dec (n < f) → get_or w n 0 ≡ cond (test f f n) (bit_or (get_or w n 0) (1 * 2 ^ k)) (get_or w n 0)
    go n (yes h) = rw (lt-leb f n h)
    go n (no h) = rw (le-ltb n f (omega arith), le-leb f n (omega arith))

module _ (k f m : ℕ) (w v : List ℕ) (h : f ≤ m) (l : m < length w) (so_far : Marked k f m w v) where
  -- what stands at the next minute is what stood there before
  next_unmarked : get_or v m 0 ≡ get_or w m 0
  next_unmarked = so_far.each m ∙ rw (le-leb f m h, le-ltb m m (omega arith))

  pub one_marked : k < 16 → Marked k f (m + 1) w (set v m (bit_or (get_or v m 0) (1 * 2 ^ k % 65536)))
  one_marked small = rw (bit_fits k small) (record { size = length-set v m _ ∙ so_far.size; each = λ n. go n (dec_lt n m) (dec_lt m n) })
    where
      after : List ℕ
      after = set v m (bit_or (get_or v m 0) (1 * 2 ^ k))

      other : (n : ℕ) → (n ≡ m → ⊥) → test f m n ≡ test f (m + 1) n → get_or after n 0 ≡ cond (test f (m + 1) n) (bit_or (get_or w n 0) (1 * 2 ^ k)) (get_or w n 0)
      other n d t = get_or-set_other v m n _ 0 d ∙ so_far.each n ∙ ap (λ (x : Bool). cond x (bit_or (get_or w n 0) (1 * 2 ^ k)) (get_or w n 0)) t

      go : (n : ℕ) → Dec (n < m) → Dec (m < n) → get_or after n 0 ≡ cond (test f (m + 1) n) (bit_or (get_or w n 0) (1 * 2 ^ k)) (get_or w n 0)
      go n (yes a) c = other n (λ z. omega arith) (rw (lt-ltb n m a, lt-ltb n (m + 1) (omega arith)))
      go n (no a) (yes c) = other n (λ z. omega arith) (rw (le-ltb n m (omega arith), le-ltb n (m + 1) (omega arith)))
      go n (no a) (no c) =
          let z : n ≡ m = omega arith in
          rw (z, le-leb f m h, lt-ltb m (m + 1) (omega arith), ← next_unmarked) (get_or-set_same v m _ 0 (rw so_far.size l))
