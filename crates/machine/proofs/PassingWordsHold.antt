-- Words that are in place hold what they stand for; no other word of them is free.
use mathlib.Core.Path.{◌≡◌, refl, sym, ap, ◌∙◌}
use mathlib.Core.Bool.{Bool, true, false, cond, ◌&&◌}
use mathlib.Core.List.{List, [], ◌∷◌}
use Prim.Native.Nat.{ℕ, zero, suc, ◌+◌, ◌*◌, ◌-◌, ◌<◌, ◌≤◌, ◌%◌, ◌/◌}
use lib.Dec.{ltb, leb, eqb}
use lib.ListN.{length, get_or, get_or-eq_default}
use borrow.Author.Tests.{lt-ltb, ltb-true, ltb-false, eqb-true, eqb-false, ne_eqb}
use native.Mathlib.Omega.{arith}
use native.Mathlib.Nat.{mod-eq_of_lt, div-eq_of_lt, add-mul-mod_self_right, add-mul-div_right}
use Rattle.walk.specs.State.{Variable}
use Rattle.walk.specs.Question7.{due_after, at_rest, all_at_rest}
use Rattle.machine.specs.Records.{Record}
use Rattle.machine.specs.Words.{block_at, environment_block, moment_at, waiting_of, variable_in, variables_in, record_in, slot_of, records_in, zero_from, variable_rests, variables_rest, block_rests, slot_holds, words_in_place}
use Rattle.machine.specs.Layout.{waiting_value, waiting_moment, variables_words, header_words, record_words, environment_words, Reads, no_record, SlotsFor, Holds}
use Rattle.machine.proofs.Basics.{and_left, and_right}
use Rattle.machine.proofs.InPlace.{zeros_read, block_few, knows_place_lem, slot_holds_lem, UsedSlot, used_slot, free_slot_lem, InPlace, in_place}
use Rattle.machine.proofs.HeldWordsPass.{get_or-nil, length-variables_words, RecordsRest}

-- every word has 32 bits
abbrev pub Words32 : List ℕ → Type 0
Words32 w = (i : ℕ) → get_or w i 0 < 4294967296

-- the slots of the first n in order
pub slots_in : List ℕ → ℕ → ℕ → List ℕ
slots_in w k zero = []
slots_in w k (suc n) = slot_of w k ∷ slots_in w (suc k) n

pub length-slots_in : (w : List ℕ) (k n : ℕ) → length (slots_in w k n) ≡ n
unfolding slots_in
length-slots_in w k zero = refl
length-slots_in w k (suc n) = ap suc (length-slots_in w (suc k) n)

slots_in-at : (w : List ℕ) (k n i : ℕ) → i < n → get_or (slots_in w k n) i 0 ≡ slot_of w (k + i)
unfolding slots_in
slots_in-at w k zero i h = absurd (let z : ⊥ = omega arith in z)
slots_in-at w k (suc n) zero h = let p : k + 0 ≡ k = omega arith in rw p
slots_in-at w k (suc n) (suc i) h = let p : k + suc i ≡ suc k + i = omega arith in rw p (slots_in-at w (suc k) n i (omega arith))

pub length-variables_in : (w : List ℕ) (a k : ℕ) → length (variables_in w a k) ≡ k
unfolding variables_in
length-variables_in w a zero = refl
length-variables_in w a (suc k) = ap suc (length-variables_in w (a + 6) k)

pub length-records_in : (w : List ℕ) (k n : ℕ) → length (records_in w k n) ≡ n
unfolding records_in
length-records_in w k zero = refl
length-records_in w k (suc n) = ap suc (length-records_in w (suc k) n)

pub records_in-at : (w : List ℕ) (k n i : ℕ) → i < n → get_or (records_in w k n) i no_record ≡ record_in w (block_at (slot_of w (k + i)))
unfolding records_in
records_in-at w k zero i h = absurd (let z : ⊥ = omega arith in z)
records_in-at w k (suc n) zero h = let p : k + 0 ≡ k = omega arith in rw p
records_in-at w k (suc n) (suc i) h = let p : k + suc i ≡ suc k + i = omega arith in rw p (records_in-at w (suc k) n i (omega arith))

-- the two words of a moment
low_word : (l h : ℕ) → l < 4294967296 → (l + h * 4294967296) % 4294967296 ≡ l
low_word l h s = add-mul-mod_self_right l h 4294967296 ∙ mod-eq_of_lt s

high_word : (l h : ℕ) → l < 4294967296 → (l + h * 4294967296) / 4294967296 ≡ h
high_word l h s = add-mul-div_right l h {z = 4294967296} (omega arith) ∙ rw (div-eq_of_lt {n = l} {m = 4294967296} s) (let p : 0 + h ≡ h = omega arith in p)

moment_of_waiting : (m v : ℕ) → waiting_moment (waiting_of m v) ≡ m
unfolding waiting_moment waiting_of
moment_of_waiting zero v = refl
moment_of_waiting (suc m) v = refl

value_of_waiting : (now m v : ℕ) → cond (eqb m 0) (eqb v 0) (ltb now m) ≡ true → waiting_value (waiting_of m v) ≡ v
unfolding waiting_value waiting_of
value_of_waiting now zero v e = sym (eqb-true _ _ e)
value_of_waiting now (suc m) v e = refl

waiting_rests : (now m v : ℕ) → m < 18446744073709551616 → v < 4294967296 → cond (eqb m 0) (eqb v 0) (ltb now m) ≡ true → due_after now (waiting_of m v) ≡ true
unfolding waiting_of due_after
waiting_rests now zero v h l e = refl
waiting_rests now (suc m) v h l e = rw (lt-ltb _ _ h, lt-ltb _ _ l, rw (ne_eqb (suc m) 0 (λ z. omega arith)) at e)

module _ (w : List ℕ) (small : Words32 w) where
  variables_rest_lem : (now a k : ℕ) → variables_rest now w a k ≡ true → all_at_rest now (variables_in w a k) ≡ true
  unfolding variables_rest variable_rests variables_in variable_in all_at_rest at_rest
  variables_rest_lem now a zero e = refl
  variables_rest_lem now a (suc k) e =
      let test = cond (eqb (moment_at w (a + 2)) 0) (eqb (get_or w (a + 1) 0) 0) (ltb now (moment_at w (a + 2))) in
      let one = test && zero_from w (a + 4) 2 in
      let p : moment_at w (a + 2) < 18446744073709551616 = omega (arith, small (a + 2), small (a + 2 + 1)) in
      rw (
        lt-ltb _ _ (small a),
        waiting_rests now (moment_at w (a + 2)) (get_or w (a + 1) 0) p (small (a + 1)) (and_left test _ (and_left one _ e)),
        variables_rest_lem now (a + 6) k (and_right one _ e),
      )

  kept : (now a k : ℕ) → variables_rest now w a (suc k) ≡ true → (j : ℕ) → j < 2 → get_or w (a + (4 + j)) 0 ≡ 0
  unfolding variables_rest variable_rests
  kept now a k e j h =
      let test = cond (eqb (moment_at w (a + 2)) 0) (eqb (get_or w (a + 1) 0) 0) (ltb now (moment_at w (a + 2))) in
      let p : a + 4 + j ≡ a + (4 + j) = omega arith in
      rw p at (zeros_read w (a + 4) 2 j h (and_right test _ (and_left (test && zero_from w (a + 4) 2) _ e)))

  variables_held : (now a k : ℕ) → variables_rest now w a k ≡ true → Reads w a (k * 6) (variables_words (variables_in w a k))
  unfolding variables_rest variable_rests variables_in variable_in variables_words zero_from
  variables_held now a zero e j h = absurd (let z : ⊥ = omega arith in z)
  variables_held now a (suc k) e zero h = let p : a + 0 ≡ a = omega arith in rw p
  variables_held now a (suc k) e (suc zero) h =
      let test = cond (eqb (moment_at w (a + 2)) 0) (eqb (get_or w (a + 1) 0) 0) (ltb now (moment_at w (a + 2))) in
      sym (value_of_waiting now (moment_at w (a + 2)) (get_or w (a + 1) 0) (and_left test _ (and_left (test && zero_from w (a + 4) 2) _ e)))
  variables_held now a (suc k) e (suc (suc zero)) h =
      rw (moment_of_waiting (moment_at w (a + 2)) (get_or w (a + 1) 0)) (sym (low_word (get_or w (a + 2) 0) (get_or w (a + 2 + 1) 0) (small (a + 2))))
  variables_held now a (suc k) e (suc (suc (suc zero))) h =
      let p : a + 3 ≡ a + 2 + 1 = omega arith in
      rw (moment_of_waiting (moment_at w (a + 2)) (get_or w (a + 1) 0), p) (sym (high_word (get_or w (a + 2) 0) (get_or w (a + 2 + 1) 0) (small (a + 2))))
  variables_held now a (suc k) e (suc (suc (suc (suc zero)))) h = kept now a k e 0 (omega arith)
  variables_held now a (suc k) e (suc (suc (suc (suc (suc zero))))) h = kept now a k e 1 (omega arith)
  variables_held now a (suc k) e (suc (suc (suc (suc (suc (suc j)))))) h =
      let p : a + suc (suc (suc (suc (suc (suc j))))) ≡ a + 6 + j = omega arith in
      rw p (variables_held now (a + 6) k (and_right (variable_rests now w a) _ e) j (omega arith))

  pub block_held : (now a k : ℕ) → block_rests now w a k ≡ true → Reads w (a + 8) 176 (variables_words (variables_in w (a + 8) k))
  unfolding block_rests
  block_held now a k e j h = by (ltb j (k * 6)) refl
    where
      e1 : variables_rest now w (a + 8) k && zero_from w (a + 8 + k * 6) (176 - k * 6) ≡ true
      e1 = and_right (leb k 16) _ e

      by : (b : Bool) → ltb j (k * 6) ≡ b → get_or w (a + 8 + j) 0 ≡ get_or (variables_words (variables_in w (a + 8) k)) j 0
      by true l = variables_held now (a + 8) k (and_left (variables_rest now w (a + 8) k) _ e1) j (ltb-true _ _ l)
      by false l =
          let m : k * 6 ≤ j = ltb-false _ _ l in
          let p : a + 8 + k * 6 + (j - k * 6) ≡ a + 8 + j = omega arith in
          rw p at (zeros_read w (a + 8 + k * 6) (176 - k * 6) (j - k * 6) (omega arith) (and_right (variables_rest now w (a + 8) k) _ e1)) ∙
          sym (get_or-eq_default (variables_words (variables_in w (a + 8) k)) 0 {n = j}
          (omega (arith, length-variables_words (variables_in w (a + 8) k), length-variables_in w (a + 8) k)))

  block_rests_lem : (now a k : ℕ) → block_rests now w a k ≡ true → all_at_rest now (variables_in w (a + 8) k) ≡ true
  unfolding block_rests
  block_rests_lem now a k e = variables_rest_lem now (a + 8) k (and_left (variables_rest now w (a + 8) k) _ (and_right (leb k 16) _ e))

  record_held : (n now s p : ℕ) → UsedSlot w n now s → get_or w (block_at s) 0 ≡ p → Reads w (block_at s) 184 (record_words p (record_in w (block_at s)))
  unfolding record_words record_in
  record_held n now s p U e zero h = let q : block_at s + 0 ≡ block_at s = omega arith in rw q e
  record_held n now s p U e (suc zero) h = refl
  record_held n now s p U e (suc (suc zero)) h = refl
  record_held n now s p U e (suc (suc (suc zero))) h = refl
  record_held n now s p U e (suc (suc (suc (suc zero)))) h = sym (length-variables_in w (block_at s + 8) (get_or w (block_at s + 4) 0))
  record_held n now s p U e (suc (suc (suc (suc (suc zero))))) h = let q : block_at s + 5 + 0 ≡ block_at s + 5 = omega arith in rw q at (zeros_read w (block_at s + 5) 3 0 (omega arith) U.kept)
  record_held n now s p U e (suc (suc (suc (suc (suc (suc zero)))))) h = let q : block_at s + 5 + 1 ≡ block_at s + 6 = omega arith in rw q at (zeros_read w (block_at s + 5) 3 1 (omega arith) U.kept)
  record_held n now s p U e (suc (suc (suc (suc (suc (suc (suc zero))))))) h = let q : block_at s + 5 + 2 ≡ block_at s + 7 = omega arith in rw q at (zeros_read w (block_at s + 5) 3 2 (omega arith) U.kept)
  record_held n now s p U e (suc (suc (suc (suc (suc (suc (suc (suc j)))))))) h =
      let q : block_at s + 8 + j ≡ block_at s + suc (suc (suc (suc (suc (suc (suc (suc j))))))) = omega arith in
      rw q at (block_held now (block_at s) (get_or w (block_at s + 4) 0) U.rests j (omega arith))

-- ── the whole memory ──────────────────────────────────────────────────────────────────────────────
module _ (w : List ℕ) (small : Words32 w) (size : ℕ) (pass : words_in_place size w ≡ true) where
  in_place_lem : InPlace w size
  in_place_lem = in_place w size pass

  -- the slots, environment and records that the words stand for
  unfoldable pub slots_here : List ℕ
  slots_here = slots_in w 0 (get_or w 3 0)

  unfoldable pub environment_here : List Variable
  environment_here = variables_in w (environment_block + 8) size

  unfoldable pub records_here : List Record
  records_here = records_in w 0 (get_or w 3 0)

  few_records : length records_here ≡ get_or w 3 0
  unfolding records_here
  few_records = length-records_in w 0 (get_or w 3 0)

  length_slots : length slots_here ≡ get_or w 3 0
  unfolding slots_here
  length_slots = length-slots_in w 0 (get_or w 3 0)

  slot_here : (k : ℕ) → k < get_or w 3 0 → get_or slots_here k 0 ≡ slot_of w k
  unfolding slots_here
  slot_here k h = let p : 0 + k ≡ k = omega arith in rw p at (slots_in-at w 0 (get_or w 3 0) k h)

  record_here : (k : ℕ) → k < get_or w 3 0 → get_or records_here k no_record ≡ record_in w (block_at (slot_of w k))
  unfolding records_here
  record_here k h = let p : 0 + k ≡ k = omega arith in rw p at (records_in-at w 0 (get_or w 3 0) k h)

  place_here : (k : ℕ) → k < get_or w 3 0 → (slot_of w k < 64) × (get_or w (block_at (slot_of w k)) 0 ≡ k + 1)
  place_here k h = knows_place_lem w (get_or w 3 0) k h in_place_lem.places

  used_here : (k : ℕ) → k < get_or w 3 0 → UsedSlot w (get_or w 3 0) (moment_at w 1) (slot_of w k)
  used_here k h =
      let (l, e) = place_here k h in
      used_slot w (get_or w 3 0) (moment_at w 1) (slot_of w k) (slot_holds_lem w (get_or w 3 0) (moment_at w 1) 64 (slot_of w k) l in_place_lem.slots)
      (λ z. let y : ⊥ = omega arith in y)

  pub slots_here_lem : SlotsFor slots_here records_here
  slots_here_lem = record {
    size = (length_slots ∙ sym few_records);
    below = λ k h. let l : k < get_or w 3 0 = omega (arith, few_records) in rw (slot_here k l) (place_here k l).0;
    distinct = λ i k h g e.
        let l : i < get_or w 3 0 = omega (arith, few_records) in
        let m : k < get_or w 3 0 = omega (arith, few_records) in
        let same : slot_of w i ≡ slot_of w k = sym (slot_here i l) ∙ e ∙ slot_here k m in
        let a : get_or w (block_at (slot_of w i)) 0 ≡ i + 1 = (place_here i l).1 in
        let b : get_or w (block_at (slot_of w i)) 0 ≡ k + 1 = rw same (place_here k m).1 in
        omega (arith, a, b);
  }

  own_size : (k : ℕ) → k < get_or w 3 0 → length (record_in w (block_at (slot_of w k))).own ≤ 16
  unfolding record_in
  own_size k h =
      let a = block_at (slot_of w k) in
      rw (length-variables_in w (a + 8) (get_or w (a + 4) 0)) (block_few w (moment_at w 1) a (get_or w (a + 4) 0) (used_here k h).rests)

  pub own_rests : (k : ℕ) → k < get_or w 3 0 → all_at_rest (moment_at w 1) (record_in w (block_at (slot_of w k))).own ≡ true
  unfolding record_in
  own_rests k h = let a = block_at (slot_of w k) in block_rests_lem w small (moment_at w 1) a (get_or w (a + 4) 0) (used_here k h).rests

  pub records_rest_here : RecordsRest (moment_at w 1) records_here
  records_rest_here = record {
    resting = λ k h. let l : k < get_or w 3 0 = omega (arith, few_records) in rw (record_here k l) (own_rests k l);
    few = λ k h. let l : k < get_or w 3 0 = omega (arith, few_records) in rw (record_here k l) (own_size k l);
  }

  header_here : Reads w 0 64 (header_words (moment_at w 1) (get_or w 3 0))
  unfolding header_words
  header_here zero h = in_place_lem.first
  header_here (suc zero) h = sym (low_word (get_or w 1 0) (get_or w 2 0) (small 1))
  header_here (suc (suc zero)) h = sym (high_word (get_or w 1 0) (get_or w 2 0) (small 1))
  header_here (suc (suc (suc zero))) h = refl
  header_here (suc (suc (suc (suc j)))) h =
      let p : 4 + j ≡ 0 + suc (suc (suc (suc j))) = omega arith in
      rw p at (zeros_read w 4 60 j (omega arith) in_place_lem.header) ∙ sym (get_or-nil j)

  order_here : Reads w 64 264 slots_here
  order_here j h = by (ltb j (get_or w 3 0)) refl
    where
      by : (b : Bool) → ltb j (get_or w 3 0) ≡ b → get_or w (64 + j) 0 ≡ get_or slots_here j 0
      by true e = sym (slot_here j (ltb-true _ _ e))
      by false e =
          let l : get_or w 3 0 ≤ j = ltb-false _ _ e in
          let p : 64 + get_or w 3 0 + (j - get_or w 3 0) ≡ 64 + j = omega arith in
          rw p at (zeros_read w (64 + get_or w 3 0) (264 - get_or w 3 0) (j - get_or w 3 0) (omega arith) in_place_lem.order) ∙
          sym (get_or-eq_default slots_here 0 {n = j} (omega (arith, length_slots)))

  free_here : (s : ℕ) → s < 64 → ((k : ℕ) → k < length records_here → get_or slots_here k 0 ≡ s → ⊥) → Reads w (block_at s) 184 []
  free_here s h f j l = by (eqb (get_or w (block_at s) 0) 0) refl
    where
      holds : slot_holds (get_or w 3 0) (moment_at w 1) w s ≡ true
      holds = slot_holds_lem w (get_or w 3 0) (moment_at w 1) 64 s h in_place_lem.slots

      by : (b : Bool) → eqb (get_or w (block_at s) 0) 0 ≡ b → get_or w (block_at s + j) 0 ≡ get_or [] j 0
      by true e = zeros_read w (block_at s) 184 j l (free_slot_lem w (get_or w 3 0) (moment_at w 1) s holds (eqb-true _ _ e)) ∙ sym (get_or-nil j)
      by false e =
          let ne : get_or w (block_at s) 0 ≡ 0 → ⊥ = eqb-false _ _ e in
          let U = used_slot w (get_or w 3 0) (moment_at w 1) s holds ne in
          let p = get_or w (block_at s) 0 in
          let b : p - 1 < get_or w 3 0 = omega (arith, U.low, ne) in
          let q : 63 + p ≡ 64 + (p - 1) = omega (arith, ne) in
          absurd (f (p - 1) (omega (arith, few_records)) (slot_here (p - 1) b ∙ rw q at U.led))

  eight_here : (j : ℕ) → j < 8 → get_or w (environment_block + j) 0 ≡ 0
  eight_here j h = zeros_read w environment_block 8 j h in_place_lem.outer

  outer_here : Reads w environment_block 184 (environment_words environment_here)
  unfolding environment_words environment_here
  outer_here zero h = eight_here 0 (omega arith)
  outer_here (suc zero) h = eight_here 1 (omega arith)
  outer_here (suc (suc zero)) h = eight_here 2 (omega arith)
  outer_here (suc (suc (suc zero))) h = eight_here 3 (omega arith)
  outer_here (suc (suc (suc (suc zero)))) h = eight_here 4 (omega arith)
  outer_here (suc (suc (suc (suc (suc zero))))) h = eight_here 5 (omega arith)
  outer_here (suc (suc (suc (suc (suc (suc zero)))))) h = eight_here 6 (omega arith)
  outer_here (suc (suc (suc (suc (suc (suc (suc zero))))))) h = eight_here 7 (omega arith)
  outer_here (suc (suc (suc (suc (suc (suc (suc (suc j)))))))) h =
      let p : environment_block + 8 + j ≡ environment_block + suc (suc (suc (suc (suc (suc (suc (suc j))))))) = omega arith in
      rw p at (block_held w small (moment_at w 1) environment_block size in_place_lem.environment j (omega arith))

  pub words_hold : Holds w slots_here (moment_at w 1) environment_here records_here
  words_hold = record {
    header = rw few_records header_here;
    order = order_here;
    used = λ k h j l.
        let b : k < get_or w 3 0 = omega (arith, few_records) in
        let p : k + 1 ≡ suc k = omega arith in
        rw (slot_here k b, record_here k b)
        (record_held w small (get_or w 3 0) (moment_at w 1) (slot_of w k) (suc k) (used_here k b) (rw p at (place_here k b).1) j l);
    free = free_here;
    outer = outer_here;
  }

  pub environment_rests : all_at_rest (moment_at w 1) environment_here ≡ true
  unfolding environment_here
  environment_rests = block_rests_lem w small (moment_at w 1) environment_block size in_place_lem.environment

  pub environment_size_lem : (length environment_here ≡ size) × (size ≤ 16)
  unfolding environment_here
  environment_size_lem = (length-variables_in w (environment_block + 8) size, block_few w (moment_at w 1) environment_block size in_place_lem.environment)

  pub few_here : length records_here ≤ 64
  few_here = rw few_records in_place_lem.few
