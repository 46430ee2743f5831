-- The ends of a table: the last instruction by its kind, words of 0, operands.
use mathlib.Core.Path.{◌≡◌, refl, ap}
use mathlib.Core.Bool.{Bool, true, false, not, ◌&&◌}
use mathlib.Core.List.{List}
use Prim.Native.Nat.{ℕ, zero, suc, ◌+◌, ◌*◌, ◌-◌, ◌≤◌, ◌<◌}
use native.Mathlib.Decide.{ℕ_discrete}
use native.Mathlib.Numerals.{add-one}
use native.Mathlib.Omega.{arith}
use lib.Dec.{eqb}
use lib.ListN.{length, take, drop}
use lib.Seq.{drop-cons}
use borrow.Author.Tests.{ne_eqb}
use Rattle.words.specs.Words.{all_zero}
use Rattle.listing.specs.Listing.{Instruction, assign, schedule, branch, jump, wait, fork, end}
use Rattle.listing.specs.Questions.{may_be_last}
use Rattle.table.specs.Areas.{operands}
use Rattle.table.specs.Decode.{word, instruction_of, instruction_at_entry}
use Rattle.table_check_ends.specs.Ends.{zeros_at, operand_count}

-- ── the last instruction of a routine ────────────────────────────────────────────
-- An instruction may be the last if its kind is none of those that go on to another line.
pub ends_by_kind : (w : List ℕ) (e : ℕ) (goes_on : Bool)
    → (word w (e + 0) ≡ 1 → goes_on ≡ true) → (word w (e + 0) ≡ 2 → goes_on ≡ true) → (word w (e + 0) ≡ 3 → goes_on ≡ true)
    → (word w (e + 0) ≡ 5 → goes_on ≡ true) → (word w (e + 0) ≡ 6 → goes_on ≡ true)
    → ((word w (e + 0) ≡ 1 → ⊥) → (word w (e + 0) ≡ 2 → ⊥) → (word w (e + 0) ≡ 3 → ⊥) → (word w (e + 0) ≡ 5 → ⊥) → (word w (e + 0) ≡ 6 → ⊥) → goes_on ≡ false)
    → not goes_on ≡ may_be_last (instruction_at_entry w e)
unfolding instruction_at_entry instruction_of may_be_last
ends_by_kind w e b y1 y2 y3 y5 y6 other = go (ℕ_discrete k 1) (ℕ_discrete k 2) (ℕ_discrete k 3) (ℕ_discrete k 5) (ℕ_discrete k 6) (ℕ_discrete k 4) (ℕ_discrete k 7)
  where
    k : ℕ
    k = word w (e + 0)

    go : Dec (k ≡ 1) → Dec (k ≡ 2) → Dec (k ≡ 3) → Dec (k ≡ 5) → Dec (k ≡ 6) → Dec (k ≡ 4) → Dec (k ≡ 7) → not b ≡ may_be_last (instruction_at_entry w e)
    go (yes h) _ _ _ _ _ _ = rw (y1 h, h)
    go (no _) (yes h) _ _ _ _ _ = rw (y2 h, h)
    go (no _) (no _) (yes h) _ _ _ _ = rw (y3 h, h)
    go (no _) (no _) (no _) (yes h) _ _ _ = rw (y5 h, h)
    go (no _) (no _) (no _) (no _) (yes h) _ _ = rw (y6 h, h)
    go (no f) (no g) (no h) (no i) (no j) (yes l) _ = rw (other f g h i j, l)
    go (no f) (no g) (no h) (no i) (no j) (no _) (yes l) = rw (other f g h i j, l)
    go (no f) (no g) (no h) (no i) (no j) (no l) (no m) =
        rw (other f g h i j, ne_eqb k 1 f, ne_eqb k 2 g, ne_eqb k 3 h, ne_eqb k 4 l, ne_eqb k 5 i, ne_eqb k 6 j, ne_eqb k 7 m)

-- ── the checks of a row of words or instructions ─────────────────────────────────
-- The test of words in a row is that of the slice of them.
pub zeros_by_slice : (w : List ℕ) (a k : ℕ) → a + k ≤ length w → all_zero (take k (drop a w)) ≡ zeros_at w a k
unfolding zeros_at
zeros_by_slice w a zero h = refl
zeros_by_slice w a (suc k) h =
    rw (drop-cons w a 0 (omega arith), add-one a) (ap (λ b. eqb (word w a) 0 && b) (zeros_by_slice w (suc a) k (omega arith)))

pub operands_turn : (w : List ℕ) (n i : ℕ) → i < n
    → operand_count w (328 + 5 * i) (n - i) ≡ operands (instruction_at_entry w (328 + 5 * i)) + operand_count w (328 + 5 * (i + 1)) (n - (i + 1))
unfolding operand_count
operands_turn w n i l =
    let p : n - i ≡ suc (n - (i + 1)) = omega arith in
    let q : 328 + 5 * i + 5 ≡ 328 + 5 * (i + 1) = omega arith in
    rw (p, q)

pub operands_end : (w : List ℕ) (n i : ℕ) → n ≤ i → operand_count w (328 + 5 * i) (n - i) ≡ 0
unfolding operand_count
operands_end w n i l = let z : n - i ≡ 0 = omega arith in rw z

pub operands_most : (i : Instruction) → operands i ≤ 1
unfolding operands
operands_most (assign n e) = omega arith
operands_most (schedule n d e) = omega arith
operands_most (branch e k) = omega arith
operands_most (jump k) = omega arith
operands_most (wait ns) = omega arith
operands_most (fork cs) = omega arith
operands_most end = omega arith

pub operand_count_most : (w : List ℕ) (n e : ℕ) → operand_count w e n ≤ n
unfolding operand_count
operand_count_most w zero e = omega arith
operand_count_most w (suc n) e =
    let h = operand_count_most w n (e + 5) in let k = operands_most (instruction_at_entry w e) in omega arith
