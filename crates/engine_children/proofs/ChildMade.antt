-- A child's row as a change of rows and environment, clean; the end of `new_child`.
use mathlib.Core.Path.{◌≡◌, ap, ap₂, ◌∙◌}
use mathlib.Core.Bool.{true}
use mathlib.Core.List.{List}
use Prim.Native.Nat.{ℕ, ◌+◌, ◌*◌, ◌≤◌, ◌<◌}
use native.Mathlib.Omega.{arith}
use Rattle.walk.specs.State.{Variable}
use Rattle.engine_rows.specs.Rows.{Row, Rows, with_row}
use Rattle.engine_blocks.specs.Blocks.{block, nonzero, row_at, rows_of}
use Rattle.engine_blocks.specs.Store.{store_of, with_slot}
use Rattle.engine_blocks.specs.Changes.{put_in}
use Rattle.engine_blocks.proofs.InBlocks.{same_outside, same_triggers}
use Rattle.engine_blocks.proofs.RowChanges.{row_of, with_row_other, rows_in_block, environment_stays}
use Rattle.engine_clean.specs.Clean.{Blank, CleanSlot}
use Rattle.engine_clean.proofs.Whole.{slot_keeps_clean}
use Rattle.engine_new_rows.specs.declared.rows.Parent.{Parent}
use Rattle.engine_new_rows.specs.NewRow.{kept_block, working_block}
use Rattle.engine_children.specs.NewChild.{MakesChild}
use Rattle.engine_children.proofs.NewChild.{Stored, to₄, word_stored, value_word, zero_word, few, whole_row}

module _ {t m₀ m₁ m₂ m₃ m₄ : List ℕ} {me head i s n callee count bits locals size own : ℕ} {p : Parent}
    (S : Stored t m₀ m₁ m₂ m₃ m₄ me head i s n callee count bits locals size own p)
  where
    first_word : block m₄ s 0 ≡ 1
    unfolding kept_block working_block put_in
    first_word = word_stored S 0 (λ e. omega arith) (λ x y. omega arith)

    in_use : (row_at (block m₄ s)).used ≡ true
    unfolding row_at nonzero
    in_use = rw first_word

    number_word : block m₄ s 4 ≡ own + locals
    unfolding kept_block working_block put_in
    number_word = word_stored S 4 (λ e. omega arith) (λ x y. omega arith)

    -- the words of a variable that is not there
    blank_past : (j : ℕ) → own + locals ≤ j → j < 16 → Blank (block m₄ s) j
    blank_past j h l =
        record {
          value = zero_word S (8 + j * 6) (omega arith) (omega arith) (λ x y. omega arith) (λ k a e. omega arith);
          waiting = zero_word S (9 + j * 6) (omega arith) (omega arith) (λ x y. omega arith) (λ k a e. omega arith);
          low = zero_word S (10 + j * 6) (omega arith) (omega arith) (λ x y. omega arith) (λ k a e. omega arith);
          high = zero_word S (11 + j * 6) (omega arith) (omega arith) (λ x y. omega arith) (λ k a e. omega arith);
        }

    slot_clean : CleanSlot (block m₄ s)
    slot_clean =
        record {
          clean = rw number_word (record {
            few = few S;
            kept = λ k h g. zero_word S k h (omega arith) (λ x y. omega arith) (λ j a e. omega arith);
            spare_low = λ j h. zero_word S (12 + j * 6) (omega arith) (omega arith) (λ x y. omega arith) (λ k a e. omega arith);
            spare_high = λ j h. zero_word S (13 + j * 6) (omega arith) (omega arith) (λ x y. omega arith) (λ k a e. omega arith);
            past = blank_past;
            idle = λ j h e. zero_word S (9 + j * 6) (omega arith) (omega arith) (λ x y. omega arith) (λ k a q. omega arith);
            quiet = λ e j h.
                let low = zero_word S (10 + j * 6) (omega arith) (omega arith) (λ x y. omega arith) (λ k a q. omega arith) in
                let high = zero_word S (11 + j * 6) (omega arith) (omega arith) (λ x y. omega arith) (λ k a q. omega arith) in
                omega arith;
          });
          free = λ e. absurd (let z = first_word in let q : ⊥ = omega arith in q);
        }

    trigger_word : (k : ℕ) → 144 ≤ k → block m₄ s k ≡ block m₀ s k
    trigger_word k h =
        value_word S k (omega arith) (λ x y. omega arith)
        ∙ S.values.others k (λ j l e. omega (arith, few S))

    pub child_made : MakesChild t m₀ me head i s n m₄
    unfolding store_of with_slot
    child_made =
        record {
          store = λ moment k B.
              ap₂ (λ (rows : Rows) (environment : List Variable). record { rows = rows; environment = environment })
              (rows_in_block (to₄ S) S.may.slot ∙ ap (with_row (rows_of m₀) s) (whole_row S moment k B)) (environment_stays (to₄ S) S.may.slot k);
          taken = ap (λ (r : Row). r.used) (row_of m₄ s S.may.slot) ∙ in_use;
          others = λ r h. ap (λ (rows : Rows). rows r) (rows_in_block (to₄ S) S.may.slot) ∙ with_row_other (rows_of m₀) s (row_at (block m₄ s)) r h;
          environment = environment_stays (to₄ S) S.may.slot;
          outside = same_outside (to₄ S) (omega (arith, S.may.slot));
          triggers = same_triggers (to₄ S) trigger_word;
          clean = λ k T. slot_keeps_clean (to₄ S) S.may.slot slot_clean T;
        }
