-- Working words stored leave a slot in use clean.
use mathlib.Core.Path.{◌≡◌, sym, ap, ◌∙◌}
use mathlib.Core.Bool.{true}
use mathlib.Core.List.{List}
use Prim.Native.Nat.{ℕ, ◌+◌, ◌*◌, ◌<◌}
use native.Mathlib.Omega.{arith}
use Rattle.engine_rows.specs.Rows.{Row}
use Rattle.engine_blocks.specs.Blocks.{Block, block, nonzero, row_at, rows_of}
use Rattle.engine_blocks.proofs.RowChanges.{row_of}
use Rattle.engine_clean.specs.Clean.{CleanBlock, CleanSlot}

-- the first word of a slot in use
pub in_use : (words : List ℕ) (s : ℕ) → s < 64 → (rows_of words s).used ≡ true → block words s 0 ≡ 0 → ⊥
unfolding row_at nonzero
in_use words s h u e =
    let z : nonzero (block words s 0) ≡ true = sym (ap (λ (r : Row). r.used) (row_of words s h)) ∙ u in
    let y : nonzero 0 ≡ true = sym (ap nonzero e) ∙ z in
    let q : ◌≡◌ {A = ℕ} 0 1 = cc in omega arith

module _ (b b' : Block) (same : (k : ℕ) → k < 104 → b' k ≡ b k) where
  same_clean : (c : ℕ) → CleanBlock c b → CleanBlock c b'
  same_clean c t =
      record {
        few = t.few;
        kept = λ k h g. same k (omega arith) ∙ t.kept k h g;
        spare_low = λ i h. same (12 + i * 6) (omega arith) ∙ t.spare_low i h;
        spare_high = λ i h. same (13 + i * 6) (omega arith) ∙ t.spare_high i h;
        past = λ i h g. record {
          value = same (8 + i * 6) (omega arith) ∙ (t.past i h g).value;
          waiting = same (9 + i * 6) (omega arith) ∙ (t.past i h g).waiting;
          low = same (10 + i * 6) (omega arith) ∙ (t.past i h g).low;
          high = same (11 + i * 6) (omega arith) ∙ (t.past i h g).high;
        };
        idle = λ i h e. same (9 + i * 6) (omega arith) ∙ t.idle i h (omega (arith, same (10 + i * 6) (omega arith), same (11 + i * 6) (omega arith), e));
        quiet = λ e i h.
            let none = t.quiet (sym (same 7 (omega arith)) ∙ e) i h in
            omega (arith, same (10 + i * 6) (omega arith), same (11 + i * 6) (omega arith), none);
      }

  pub filled_slot : (b 0 ≡ 0 → ⊥) → CleanSlot b → CleanSlot b'
  filled_slot u t =
      record {
        clean = rw (same 4 (omega arith)) (same_clean (b 4) t.clean);
        free = λ e. absurd (u (sym (same 0 (omega arith)) ∙ e));
      }
