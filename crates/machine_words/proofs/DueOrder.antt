-- The soonest moment due over the slots is that over the records in walking order: a slot in use is in the order list, and a slot in the list is one.
-- Letters: w the words, x, y and z moments due or none.
use mathlib.Core.Path.{◌≡◌, refl, sym, ap, ◌∙◌}
use mathlib.Core.Bool.{Bool, true, false}
use mathlib.Core.List.{List}
use Prim.Native.Nat.{ℕ, zero, suc, ◌+◌, ◌<◌, ◌≤◌}
use native.Mathlib.Omega.{arith}
use native.Mathlib.Decide.{dec_lt}
use lib.Dec.{leb}
use lib.ListN.{get_or}
use borrow.Author.Tests.{leb-true, leb-false}
use Rattle.walk.specs.Instant.{NextDue, never, moment, earlier_of, earlier, due_of_variables}
use Rattle.machine.specs.Words.{block_at, moment_at, slot_of, variables_in, record_in, records_in, zero_from, slot_holds, words_in_place}
use Rattle.machine.specs.Due.{records_due, words_due}
use Rattle.machine.proofs.NextDue.{earlier_never, earlier_associative}
use Rattle.machine.proofs.InPlace.{zeros_read, knows_place_lem, slot_holds_lem, used_slot, free_slot_lem, in_place}
use Rattle.machine_words.specs.Tests.{slot_due_lem, slots_due, blocks_due}

-- ── the earlier of two ────────────────────────────────────────────────────────────────────────────
earlier_itself : (x : NextDue) → earlier x x ≡ x
unfolding earlier earlier_of
earlier_itself never = refl
earlier_itself (moment a) = either (leb a a)
  where
    either : (b : Bool) → earlier_of b a a ≡ moment a
    either true = refl
    either false = refl

pub earlier_swaps : (x y : NextDue) → earlier x y ≡ earlier y x
unfolding earlier earlier_of
earlier_swaps never never = refl
earlier_swaps never (moment b) = refl
earlier_swaps (moment a) never = refl
earlier_swaps (moment a) (moment b) = either (leb a b) (leb b a) refl refl
  where
    either : (p q : Bool) → leb a b ≡ p → leb b a ≡ q → earlier_of p a b ≡ earlier_of q b a
    either true true e f = let g : a ≤ b = leb-true _ _ e in let h : b ≤ a = leb-true _ _ f in let z : a ≡ b = omega arith in ap moment z
    either true false e f = refl
    either false true e f = refl
    either false false e f = let g : b < a = leb-false _ _ e in let h : a < b = leb-false _ _ f in absurd (let z : ⊥ = omega arith in z)

-- x is not later than y.
abbrev NotLater : NextDue → NextDue → Type 0
NotLater x y = earlier x y ≡ x

not_later_than_both : (x y z : NextDue) → NotLater x y → NotLater x z → NotLater x (earlier y z)
not_later_than_both x y z e f = sym (earlier_associative x y z) ∙ (ap (λ v. earlier v z) e ∙ f)

first_not_later : (x y : NextDue) → NotLater (earlier x y) x
first_not_later x y = earlier_swaps (earlier x y) x ∙ (sym (earlier_associative x x y) ∙ ap (λ v. earlier v y) (earlier_itself x))

second_not_later : (x y : NextDue) → NotLater (earlier x y) y
second_not_later x y = earlier_associative x y y ∙ ap (earlier x) (earlier_itself y)

not_later_on : (x y z : NextDue) → NotLater x y → NotLater y z → NotLater x z
not_later_on x y z e f = ap (λ v. earlier v z) (sym e) ∙ (earlier_associative x y z ∙ (ap (earlier x) f ∙ e))

neither_later : (x y : NextDue) → NotLater x y → NotLater y x → x ≡ y
neither_later x y e f = sym e ∙ (earlier_swaps x y ∙ f)

module _ (w : List ℕ) where
  -- ── over the slots, over the records ────────────────────────────────────────────────────────────
  slots_not_later : (m s : ℕ) → s < m → NotLater (slots_due w m) (slot_due_lem w s)
  unfolding slots_due
  slots_not_later zero s h = absurd (let z : ⊥ = omega arith in z)
  slots_not_later (suc m) s h = go (dec_lt s m) (slots_not_later m s)
    where
      go : Dec (s < m) → (s < m → NotLater (slots_due w m) (slot_due_lem w s)) → NotLater (earlier (slot_due_lem w m) (slots_due w m)) (slot_due_lem w s)
      go (yes l) r = not_later_on _ (slots_due w m) _ (second_not_later (slot_due_lem w m) (slots_due w m)) (r l)
      go (no l) r = let p : s ≡ m = omega (arith, l) in rw p (first_not_later (slot_due_lem w m) (slots_due w m))

  not_later_than_slots : (x : NextDue) (m : ℕ) → ((s : ℕ) → s < m → NotLater x (slot_due_lem w s)) → NotLater x (slots_due w m)
  unfolding slots_due
  not_later_than_slots x zero each = earlier_never x
  not_later_than_slots x (suc m) each =
      not_later_than_both x (slot_due_lem w m) (slots_due w m) (each m (omega arith)) (not_later_than_slots x m (λ s h. each s (omega arith)))

  records_not_later : (k m j : ℕ) → j < m → NotLater (records_due (records_in w k m)) (slot_due_lem w (slot_of w (k + j)))
  unfolding records_due records_in record_in slot_due_lem
  records_not_later k zero j h = absurd (let z : ⊥ = omega arith in z)
  records_not_later k (suc m) zero h = let p : k + 0 ≡ k = omega arith in rw p (first_not_later (slot_due_lem w (slot_of w k)) (records_due (records_in w (suc k) m)))
  records_not_later k (suc m) (suc j) h =
      let p : k + suc j ≡ suc k + j = omega arith in
      rw p (not_later_on _ (records_due (records_in w (suc k) m)) _ (second_not_later (slot_due_lem w (slot_of w k)) (records_due (records_in w (suc k) m))) (records_not_later (suc k) m j (omega arith)))

  not_later_than_records : (x : NextDue) (k m : ℕ) → ((j : ℕ) → j < m → NotLater x (slot_due_lem w (slot_of w (k + j)))) → NotLater x (records_due (records_in w k m))
  unfolding records_due records_in record_in slot_due_lem
  not_later_than_records x k zero each = earlier_never x
  not_later_than_records x k (suc m) each =
      let p : k + 0 ≡ k = omega arith in
      not_later_than_both x (slot_due_lem w (slot_of w k)) (records_due (records_in w (suc k) m)) (rw p at (each 0 (omega arith)))
      (not_later_than_records x (suc k) m (λ j h. let q : k + suc j ≡ suc k + j = omega arith in rw q at (each (suc j) (omega arith))))

  -- ── words in place ──────────────────────────────────────────────────────────────────────────────
  free_never : (s : ℕ) → get_or w (block_at s + 4) 0 ≡ 0 → slot_due_lem w s ≡ never
  unfolding slot_due_lem variables_in due_of_variables
  free_never s e = rw e

  pub none_in_free : (s : ℕ) → zero_from w (block_at s) 184 ≡ true → never ≡ slot_due_lem w s
  none_in_free s e = sym (free_never s (zeros_read w (block_at s) 184 4 (omega arith) e))

  free_adds_nothing : (s : ℕ) (x : NextDue) → zero_from w (block_at s) 184 ≡ true → x ≡ earlier x (slot_due_lem w s)
  free_adds_nothing s x e = sym (ap (earlier x) (sym (none_in_free s e)) ∙ earlier_never x)

  module _ (size : ℕ) (e : words_in_place size w ≡ true) where
    records_before_slot : (s : ℕ) → s < 64 → NotLater (records_due (records_in w 0 (get_or w 3 0))) (slot_due_lem w s)
    records_before_slot s h = go (get_or w (block_at s) 0) refl
      where
        H : slot_holds (get_or w 3 0) (moment_at w 1) w s ≡ true
        H = slot_holds_lem w (get_or w 3 0) (moment_at w 1) 64 s h (in_place w size e).slots

        go : (p : ℕ) → get_or w (block_at s) 0 ≡ p → NotLater (records_due (records_in w 0 (get_or w 3 0))) (slot_due_lem w s)
        go zero z = sym (free_adds_nothing s _ (free_slot_lem w (get_or w 3 0) (moment_at w 1) s H z))
        go (suc p) z =
            let U = used_slot w (get_or w 3 0) (moment_at w 1) s H (λ y. let v : ⊥ = omega arith in v) in
            let l : p < get_or w 3 0 = omega (arith, U.low) in
            let q : 63 + suc p ≡ 64 + (0 + p) = omega arith in
            let led : slot_of w (0 + p) ≡ s = rw (z, q) at U.led in
            rw led at (records_not_later 0 (get_or w 3 0) p l)

    slots_before_record : (j : ℕ) → j < get_or w 3 0 → NotLater (slots_due w 64) (slot_due_lem w (slot_of w (0 + j)))
    slots_before_record j h =
        let p : 0 + j ≡ j = omega arith in
        rw p (slots_not_later 64 (slot_of w j) (knows_place_lem w (get_or w 3 0) j h (in_place w size e).places).0)

    pub slots_due_is_records_due : slots_due w 64 ≡ records_due (records_in w 0 (get_or w 3 0))
    slots_due_is_records_due = neither_later _ _ (not_later_than_records (slots_due w 64) 0 (get_or w 3 0) slots_before_record) (not_later_than_slots (records_due (records_in w 0 (get_or w 3 0))) 64 records_before_slot)

    pub blocks_due_is_words_due : blocks_due size w ≡ words_due size w
    unfolding blocks_due words_due
    blocks_due_is_words_due = rw slots_due_is_records_due
