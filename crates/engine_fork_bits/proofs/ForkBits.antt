-- The rule of a fork's bits: a test that antt computes over the whole table, and one lemma from the test to the rule at each entry.
-- n is a number of children, b and c are numbers of bits, bs a table's entries from that for n children on.
use mathlib.Core.Path.{◌≡◌, subst}
use mathlib.Core.Bool.{Bool, true, false, ◌&&◌}
use mathlib.Core.List.{List, [], ◌∷◌}
use Prim.Native.Nat.{ℕ, zero, suc, ◌+◌, ◌-◌, ◌^◌, ◌≤◌, ◌<◌}
use native.Mathlib.Nat.{add-zero, le_of_suc-le-suc, lt_of_le_of_lt, not-suc-le-zero}
use native.Mathlib.Decide.{dec_lt}
use native.Mathlib.Omega.{arith}
use lib.Dec.{T, leb, ltb, leb→le, ltb→lt}
use lib.ListN.{length, get_or, get_or-eq_default}
use lib.Pow.{pow_mono}
use Rattle.engine_fork_bits.specs.ForkBits.{fork_bits_table, fork_bits, NumbersFewest}

-- ── the test ──────────────────────────────────────────────────────────────────────────────────────
-- one bit fewer than b does not number n children, or there is none to take away
one_fewer_fails : ℕ → ℕ → Bool
one_fewer_fails n zero = true
one_fewer_fails n (suc c) = ltb (2 ^ c) n

-- at each entry: its bits number its children, and one bit fewer does not
passes : ℕ → List ℕ → Bool
passes n [] = true
passes n (b ∷ bs) = leb n (2 ^ b) && one_fewer_fails n b && passes (suc n) bs

-- ── from the test to the rule ─────────────────────────────────────────────────────────────────────
left : (x y : Bool) → T (x && y) → T x
left true y t = tt
left false y t = t

right : (x y : Bool) → T (x && y) → T y
right true y t = t
right false y t = absurd t

fewer_fail : (n b : ℕ) → T (one_fewer_fails n b) → (c : ℕ) → c < b → 2 ^ c < n
unfolding one_fewer_fails
fewer_fail n zero t c h = absurd (not-suc-le-zero h)
fewer_fail n (suc b) t c h = lt_of_le_of_lt (pow_mono (le_of_suc-le-suc h)) (ltb→lt (2 ^ b) n t)

-- the lemma: where the test passes, the rule holds at each entry
at_each_entry : (bs : List ℕ) (n : ℕ) → T (passes n bs) → (i : ℕ) → i < length bs → NumbersFewest (n + i) (get_or bs i 0)
unfolding passes
at_each_entry [] n t i h = absurd (not-suc-le-zero h)
at_each_entry (b ∷ bs) n t zero h =
    let here = left (leb n (2 ^ b) && one_fewer_fails n b) (passes (suc n) bs) t in
    rw (add-zero n) (record {
      enough = leb→le n (2 ^ b) (left (leb n (2 ^ b)) (one_fewer_fails n b) here);
      fewest = fewer_fail n b (right (leb n (2 ^ b)) (one_fewer_fails n b) here);
    })
at_each_entry (b ∷ bs) n t (suc i) h =
    let later = right (leb n (2 ^ b) && one_fewer_fails n b) (passes (suc n) bs) t in
    subst (λ (k : ℕ). NumbersFewest k (get_or bs i 0)) (omega arith) (at_each_entry bs (suc n) later i (le_of_suc-le-suc h))

-- ── the table ─────────────────────────────────────────────────────────────────────────────────────
-- "Proved of every entry: that many bits number n children and no fewer do." `tt`: the test, computed over the whole table, passes.
pub every_entry : (i : ℕ) → i < length fork_bits_table → NumbersFewest (suc i) (get_or fork_bits_table i 0)
unfolding passes one_fewer_fails
every_entry i h = subst (λ (k : ℕ). NumbersFewest k (get_or fork_bits_table i 0)) (omega arith) (at_each_entry fork_bits_table 1 tt i h)

-- of 1 to 8 children
pub fork_bits_are_fewest : (n : ℕ) → 1 ≤ n → n ≤ 8 → NumbersFewest n (fork_bits n)
unfolding fork_bits
fork_bits_are_fewest n low high = subst (λ (k : ℕ). NumbersFewest k (fork_bits n)) (omega arith) (every_entry (n - 1) (omega arith))

-- no other number of bits keeps the rule
pub fewest_bits_are_one_number : {n b c : ℕ} → NumbersFewest n b → NumbersFewest n c → b ≡ c
fewest_bits_are_one_number {n} {b} {c} p q = go (dec_lt b c) (dec_lt c b)
  where
    go : Dec (b < c) → Dec (c < b) → b ≡ c
    go (yes less) other = absurd (omega (arith, q.fewest b less, p.enough))
    go (no up) (yes less) = absurd (omega (arith, p.fewest c less, q.enough))
    go (no up) (no down) = omega arith

-- ten levels take at most 30 of 32 bits
pub fork_bits_are_at_most_three : (n : ℕ) → fork_bits n ≤ 3
unfolding fork_bits
fork_bits_are_at_most_three n = go (dec_lt (n - 1) 8)
  where
    few : (i : ℕ) → i < 8 → (b : ℕ) → NumbersFewest (suc i) b → Dec (3 < b) → b ≤ 3
    few i h b rule (yes more) = absurd (omega (arith, rule.fewest 3 more))
    few i h b rule (no up) = omega arith

    go : Dec (n - 1 < 8) → fork_bits n ≤ 3
    go (yes less) = few (n - 1) less (fork_bits n) (every_entry (n - 1) less) (dec_lt 3 (fork_bits n))
    go (no more) = rw (get_or-eq_default fork_bits_table 0 {n = n - 1} (omega arith)) (omega arith)
