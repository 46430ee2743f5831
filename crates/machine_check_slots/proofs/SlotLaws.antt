-- The tests of all slots and of all blocks that look for the next moment due on the way.
use mathlib.Core.Path.{◌≡◌, refl, sym, ap, ◌∙◌}
use mathlib.Core.Bool.{Bool, true, false, ◌&&◌}
use mathlib.Core.List.{List}
use Prim.Native.Nat.{ℕ, zero, suc, ◌+◌, ◌-◌, ◌<◌, ◌≤◌}
use native.Mathlib.Decide.{ℕ_discrete}
use native.Mathlib.Omega.{arith}
use lib.ListN.{length, get_or, set}
use lib.Seq.{get_or-set_same, get_or-set_other}
use Rattle.walk.specs.Instant.{earlier, due_of_variables}
use Rattle.machine.specs.Words.{environment_block, variables_in, slots_hold, header_in_place, blocks_in_place, words_in_place}
use Rattle.machine.specs.Due.{due_at, words_due}
use Rattle.machine.proofs.Basics.{and_right}
use Rattle.machine.proofs.NextDue.{earlier_never, earlier_associative}
use Rattle.std.proofs.Common.{Some}
use Rattle.machine_words.specs.Tests.{test_of, tested, slot_due_lem, slots_due, blocks_due, SlotDues, Dues}
use Rattle.machine_words.proofs.DueOrder.{blocks_due_is_words_due}
use Rattle.machine_words.proofs.TestLaws.{passes}

-- ── the blocks ────────────────────────────────────────────────────────────────────────────────────
pub words_by_blocks : (m : List ℕ) (size : ℕ) → header_in_place m ≡ true → tested (blocks_in_place size m) (blocks_due size m) ≡ tested (words_in_place size m) (words_due size m)
unfolding words_in_place tested
words_by_blocks m size h = go (blocks_in_place size m) refl
  where
    go : (b : Bool) → blocks_in_place size m ≡ b → tested b (blocks_due size m) ≡ tested (header_in_place m && b) (words_due size m)
    go true e = rw (h, blocks_due_is_words_due m size (rw (h, e)))
    go false e = rw h

pub blocks_of_words : (m : List ℕ) (size : ℕ) → words_in_place size m ≡ true → blocks_in_place size m ≡ true
unfolding words_in_place
blocks_of_words m size e = and_right (header_in_place m) (blocks_in_place size m) e

-- ── the slots below s are left ────────────────────────────────────────────────────────────────────
pub record SlotsLeft (n present : ℕ) (m : List ℕ) (due found s : ℕ) : Type 0 where
  pub within : s ≤ 64
  pub holds : slots_hold n present m s ≡ slots_hold n present m 64
  pub law : earlier (due_at found) (slots_due m s) ≡ earlier (due_at due) (slots_due m 64)

module _ (n present : ℕ) (m : List ℕ) (due : ℕ) where
  pub slots_begin : SlotsLeft n present m due due 64
  slots_begin = record { within = omega arith; holds = refl; law = refl }

  one_less : (s : ℕ) → 0 < s → slots_due m s ≡ earlier (slot_due_lem m (s - 1)) (slots_due m (s - 1))
  unfolding slots_due
  one_less zero h = absurd (let z : ⊥ = omega arith in z)
  one_less (suc s) h = let p : suc s - 1 ≡ s = omega arith in rw p

  pub slots_go_on : (found here next s : ℕ) → 0 < s → SlotsLeft n present m due found s → slots_hold n present m s ≡ slots_hold n present m (s - 1) →
      due_at here ≡ slot_due_lem m (s - 1) → due_at next ≡ earlier (due_at found) (due_at here) → SlotsLeft n present m due next (s - 1)
  slots_go_on found here next s h L same d e =
      let l = L.within in
      record {
        within = omega arith;
        holds = sym same ∙ L.holds;
        law = rw (e, d, earlier_associative (due_at found) (slot_due_lem m (s - 1)) (slots_due m (s - 1)), ← one_less s h) L.law;
      }

  pub slots_end : (found s : ℕ) → s ≤ 0 → SlotsLeft n present m due found s →
      test_of (Some found) ≡ tested (slots_hold n present m 64) (earlier (due_at due) (slots_due m 64))
  unfolding slots_hold slots_due
  slots_end found s h L =
      let z : s ≡ 0 = omega arith in
      passes _ _ found (sym (rw z at L.holds)) (sym (earlier_never (due_at found)) ∙ rw z at L.law)

-- ── the soonest of each block, kept ───────────────────────────────────────────────────────────────
pub no_slot_kept : (w dues : List ℕ) → SlotDues 64 w dues dues
no_slot_kept w dues = record { slots = λ q g h. absurd (let z : ⊥ = omega arith in z); outer = refl }

pub one_more_kept : (w before dues : List ℕ) (s here : ℕ) → 0 < s → s ≤ 64 → length dues ≡ 65 → SlotDues s w before dues → due_at here ≡ slot_due_lem w (s - 1) →
    SlotDues (s - 1) w before (set dues (s - 1) here)
one_more_kept w before dues s here pos low size kept e = record {
  slots = λ q g h. go q g h (ℕ_discrete q (s - 1));
  outer = get_or-set_other dues (s - 1) 64 here 0 (λ z. omega arith) ∙ kept.outer;
}
  where
    go : (q : ℕ) → s - 1 ≤ q → q < 64 → Dec (q ≡ s - 1) → due_at (get_or (set dues (s - 1) here) q 0) ≡ slot_due_lem w q
    go q g h (yes z) = rw (z, get_or-set_same dues (s - 1) here 0 (omega arith)) e
    go q g h (no z) = rw (get_or-set_other dues (s - 1) q here 0 (λ y. z y)) (kept.slots q (omega (arith, z)) h)

pub all_kept : (size : ℕ) (w dues after : List ℕ) (outer : ℕ) → length dues ≡ 65 → due_at outer ≡ due_of_variables (variables_in w (environment_block + 8) size) →
    SlotDues 0 w (set dues 64 outer) after → Dues size w after
all_kept size w dues after outer long e kept = record {
  slots = λ s h. kept.slots s (omega arith) h;
  environment = ap due_at (kept.outer ∙ get_or-set_same dues 64 outer 0 (omega arith)) ∙ e;
}
