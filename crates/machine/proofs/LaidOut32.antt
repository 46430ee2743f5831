-- The layout of a state on a listing within the limits consists of 32-bit words.
use mathlib.Core.Path.{◌≡◌}
use mathlib.Core.Bool.{Bool, true, false, cond, ◌&&◌, not}
use mathlib.Core.List.{List, [], ◌∷◌, ◌++◌}
use Prim.Native.Nat.{ℕ, zero, suc, ◌+◌, ◌<◌, ◌≤◌, ◌/◌}
use lib.Dec.{ltb, eqb}
use lib.ListN.{length, get_or}
use borrow.Author.Tests.{ltb-true}
use native.Mathlib.Omega.{arith}
use native.Mathlib.Nat.{mod-lt, div-lt_iff_lt-mul}
use Rattle.walk.specs.State.{Waiting, idle, due, Variable}
use Rattle.walk.specs.Question7.{due_after, at_rest, all_at_rest}
use Rattle.machine.specs.Records.{Record}
use Rattle.machine.specs.Layout.{zeros, padded, waiting_value, waiting_moment, variables_words, header_words, record_words, environment_words, slot_words, blocks_from, laid_out, SlotsFor}
use Rattle.machine.proofs.Basics.{and_left, and_right}
use Rattle.machine.proofs.PassingWordsHold.{Words32}
use Rattle.machine.proofs.StateRecords.{PlainRecord, Plain, plain_record}

pub data All32 : List ℕ → Type 0 where
  none32 : All32 []
  next32 : {x : ℕ} {xs : List ℕ} → x < 4294967296 → All32 xs → All32 (x ∷ xs)

pub all_words_32 : (xs : List ℕ) → All32 xs → Words32 xs
all_words_32 _ none32 i = omega arith
all_words_32 _ (next32 a r) zero = a
all_words_32 _ (next32 {xs = xs} a r) (suc i) = all_words_32 xs r i

append_32 : (xs ys : List ℕ) → All32 xs → All32 ys → All32 (xs ++ ys)
append_32 _ ys none32 b = b
append_32 _ ys (next32 a r) b = next32 a (append_32 _ ys r b)

zeros_32 : (n : ℕ) → All32 (zeros n)
unfolding zeros
zeros_32 zero = none32
zeros_32 (suc n) = next32 {x = 0} (omega arith) (zeros_32 n)

padded_32 : (n : ℕ) (xs : List ℕ) → All32 xs → All32 (padded n xs)
unfolding padded
padded_32 n xs a = append_32 xs _ a (zeros_32 _)

high_half : (m : ℕ) → m < 18446744073709551616 → m / 4294967296 < 4294967296
high_half m h = (div-lt_iff_lt-mul {k = 4294967296} {x = m} {y = 4294967296} (omega arith)).1 h

record Waiting32 (w : Waiting) : Type 0 where
  value : waiting_value w < 4294967296
  high : waiting_moment w / 4294967296 < 4294967296

waiting_32 : (now : ℕ) (w : Waiting) → due_after now w ≡ true → Waiting32 w
unfolding due_after waiting_value waiting_moment
waiting_32 now idle q = record { value = omega arith; high = high_half 0 (omega arith) }
waiting_32 now (due d v) q =
    let a = and_right (ltb now d) _ q in
    record { value = ltb-true _ _ (and_right (ltb d 18446744073709551616) _ a); high = high_half d (ltb-true _ _ (and_left (ltb d 18446744073709551616) _ a)) }

variables_32 : (now : ℕ) (xs : List Variable) → all_at_rest now xs ≡ true → All32 (variables_words xs)
unfolding variables_words all_at_rest at_rest
variables_32 now [] q = none32
variables_32 now (x ∷ xs) q =
    let one = ltb x.value 4294967296 && (not x.written && due_after now x.waiting) in
    let a = and_left one _ q in
    let w = waiting_32 now x.waiting (and_right (not x.written) _ (and_right (ltb x.value 4294967296) _ a)) in
    next32 (ltb-true _ _ (and_left (ltb x.value 4294967296) _ a)) (next32 w.value (next32 (mod-lt (waiting_moment x.waiting) (omega arith))
    (next32 w.high (next32 {x = 0} (omega arith) (next32 {x = 0} (omega arith) (variables_32 now xs (and_right one _ q)))))))

record_32 : (now p : ℕ) (x : Record) → p < 4294967296 → PlainRecord now x → All32 (record_words p x)
unfolding record_words
record_32 now p x h P =
    next32 h (next32 {x = x.level} (omega (arith, P.level)) (next32 {x = x.child} (omega (arith, P.child)) (next32 {x = x.place} (omega (arith, P.place))
    (next32 {x = length x.own} (omega (arith, P.few)) (next32 {x = 0} (omega arith) (next32 {x = 0} (omega arith) (next32 {x = 0} (omega arith)
    (variables_32 now x.own P.resting))))))))

cond_32 : (b : Bool) (xs ys : List ℕ) → All32 xs → All32 ys → All32 (cond b xs ys)
cond_32 true xs ys p q = p
cond_32 false xs ys p q = q

slot_32 : (now s p : ℕ) (slots : List ℕ) (xs : List Record) → p + length xs < 4294967296 → Plain now xs → All32 (slot_words s p slots xs)
unfolding slot_words
slot_32 now s p [] xs h P = none32
slot_32 now s p (q ∷ slots) [] h P = none32
slot_32 now s p (q ∷ slots) (x ∷ xs) h (plain_record P Ps) =
    cond_32 (eqb q s) (record_words p x) (slot_words s (suc p) slots xs) (record_32 now p x (omega arith) P) (slot_32 now s (suc p) slots xs (omega arith) Ps)

blocks_32 : (now : ℕ) (slots : List ℕ) (xs : List Record) (s m : ℕ) → length xs ≤ 64 → Plain now xs → All32 (blocks_from slots xs s m)
unfolding blocks_from
blocks_32 now slots xs s zero h P = none32
blocks_32 now slots xs s (suc m) h P =
    append_32 _ _ (padded_32 184 _ (slot_32 now s 1 slots xs (omega arith) P)) (blocks_32 now slots xs (suc s) m h P)

slots_32 : (slots : List ℕ) → ((k : ℕ) → k < length slots → get_or slots k 0 < 64) → All32 slots
slots_32 [] f = none32
slots_32 (q ∷ slots) f = let l : q < 64 = f 0 (omega arith) in next32 {x = q} (omega arith) (slots_32 slots (λ k h. f (suc k) (omega arith)))

pub laid_out_32 : (slots : List ℕ) (now : ℕ) (environment : List Variable) (xs : List Record) → SlotsFor slots xs → now < 18446744073709551616 →
    all_at_rest now environment ≡ true → Plain now xs → length xs ≤ 64 → Words32 (laid_out slots now environment xs)
unfolding laid_out header_words environment_words
laid_out_32 slots now environment xs S t q P few =
    all_words_32 _
    (append_32 _ _ (padded_32 64 _ (next32 {x = 0} (omega arith) (next32 (mod-lt now (omega arith)) (next32 (high_half now t) (next32 {x = length xs} (omega arith) none32)))))
    (append_32 _ _ (padded_32 264 _ (slots_32 slots (λ k h. S.below k (omega (arith, S.size)))))
    (append_32 _ _ (blocks_32 now slots xs 0 64 few P)
    (padded_32 184 _ (next32 {x = 0} (omega arith) (next32 {x = 0} (omega arith) (next32 {x = 0} (omega arith) (next32 {x = 0} (omega arith)
    (next32 {x = 0} (omega arith) (next32 {x = 0} (omega arith) (next32 {x = 0} (omega arith) (next32 {x = 0} (omega arith) (variables_32 now environment q)))))))))))))
