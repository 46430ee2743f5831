-- One step of the pass, by the numbers that the code reads: the slot s, its level l, and the slot p seen last one level up.
use mathlib.Core.Path.{◌≡◌, sym, ap, subst, ◌∙◌}
use mathlib.Core.List.{List}
use Prim.Native.Nat.{ℕ, ◌+◌, ◌≤◌, ◌<◌}
use native.Mathlib.Omega.{arith}
use lib.ListN.{get_or, set}
use Rattle.machine.specs.Words.{slot_of}
use Rattle.engine_blocks.specs.Blocks.{rows_of}
use Rattle.engine_fill_row.specs.Filling.{MayFillAll}
use Rattle.engine_fill.specs.Pass.{MayFillSlot, SlotFilled, above_in}
use Rattle.engine_main_row.proofs.MainNames.{ports_length}
use Rattle.engine_fill.proofs.Passes.{Passing, slot_read, may_now, pass_next, other_default}

module _ {t before m above : List ℕ} {k : ℕ} (M : MayFillAll t before) (P : Passing t before m above k) (more : k < get_or before 3 0) where
  module _ (s : ℕ) (read : s ≡ get_or m (64 + k) 0) where
    slot_is : s ≡ slot_of before k
    slot_is = read ∙ slot_read M P more

    pub slot_small : s < 64
    slot_small = subst (λ (x : ℕ). x < 64) (sym slot_is) (may_now M P more).0

    module _ (l : ℕ) (at : l ≡ (rows_of m s).level) where
      level_is : l ≡ (rows_of m (slot_of before k)).level
      level_is = at ∙ ap (λ (x : ℕ). (rows_of m x).level) slot_is

      pub level_small : l ≤ 10
      level_small = subst (λ (x : ℕ). x ≤ 10) (sym level_is) (may_now M P more).1

      module _ (p : ℕ) (last : p ≡ get_or above l 0) where
        above_is : p ≡ above_in above (rows_of m (slot_of before k)).level
        above_is =
            last ∙ (other_default above l 0 64 (omega (arith, P.size, level_small)) ∙ ap (λ (x : ℕ). get_or above x 64) level_is)

        pub may_fill_now : MayFillSlot t (rows_of m) l p s
        may_fill_now =
            subst (λ (x : ℕ). MayFillSlot t (rows_of m) l p x) (sym slot_is)
            (subst (λ (x : ℕ). MayFillSlot t (rows_of m) x p (slot_of before k)) (sym level_is)
            (subst (λ (x : ℕ). MayFillSlot t (rows_of m) (rows_of m (slot_of before k)).level x (slot_of before k)) (sym above_is) (may_now M P more).2))

        pub pass_turn : {after : List ℕ} → SlotFilled t m l p s after → Passing t before after (set above (l + 1) s) (k + 1)
        pass_turn {after} S =
            let S₁ : SlotFilled t m l p (slot_of before k) after = subst (λ (x : ℕ). SlotFilled t m l p x after) slot_is S in
            let S₂ : SlotFilled t m (rows_of m (slot_of before k)).level p (slot_of before k) after =
            subst (λ (x : ℕ). SlotFilled t m x p (slot_of before k) after) level_is S₁ in
            let S₃ : SlotFilled t m (rows_of m (slot_of before k)).level (above_in above (rows_of m (slot_of before k)).level) (slot_of before k) after =
            subst (λ (x : ℕ). SlotFilled t m (rows_of m (slot_of before k)).level x (slot_of before k) after) above_is S₂ in
            subst (λ (x : ℕ). Passing t before after (set above (l + 1) x) (k + 1)) (sym slot_is)
            (subst (λ (x : ℕ). Passing t before after (set above (x + 1) (slot_of before k)) (k + 1)) (sym level_is)
            (pass_next M P more (ports_length t M.table before) S₃))
