-- A change of one block keeps all blocks clean, if that block is clean afterwards; and it is, for each change that the code makes to a slot's or the
-- environment's block. Letters: b a block, s its number, i a variable's index, v a word, m a moment, n the number of environment variables.
use mathlib.Core.Path.{◌≡◌, refl, sym, ◌∙◌, subst, fun_ext}
use mathlib.Core.Bool.{Bool, true, false, cond}
use mathlib.Core.List.{List}
use Prim.Native.Nat.{ℕ, ◌+◌, ◌*◌, ◌≤◌, ◌<◌}
use native.Mathlib.Decide.{ℕ_discrete, dec_lt}
use native.Mathlib.Omega.{arith}
use lib.Dec.{eqb, ltb}
use lib.ListN.{get_or}
use borrow.Author.Tests.{lt-ltb, le-leb, ltb-true}
use Rattle.machine.specs.Words.{block_at}
use Rattle.engine_blocks.specs.Blocks.{Block, block}
use Rattle.engine_blocks.specs.Changes.{InBlock, put_in, cleared, placed_block, assigned_block, scheduled_block, queued_block, overwritten_block, made_block, unmarked_block, due_block}
use Rattle.engine_clean.specs.Clean.{CleanBlock, CleanSlot, CleanEnvironment, Clean}
use Rattle.engine_clean.proofs.Changes.{put_other, loose_low, loose_high, store_loose, assigned_clean, scheduled_clean, unmarked_clean, overwritten_clean, made_clean}

-- ── the other blocks stay ─────────────────────────────────────────────────────────────────────────
module _ {s : ℕ} {before after : List ℕ} {b : Block} (change : InBlock s before after b) where
  other_word : (r : ℕ) → (r ≡ s → ⊥) → (offset : ℕ) → offset < 184 → get_or after (block_at r + offset) 0 ≡ get_or before (block_at r + offset) 0
  other_word r n offset l = go (dec_lt r s)
    where
      go : Dec (r < s) → get_or after (block_at r + offset) 0 ≡ get_or before (block_at r + offset) 0
      go (yes h) = change.below (block_at r + offset) (omega arith)
      go (no h) = change.above (block_at r + offset) (omega (arith, n, h))

  pub other_block : (r : ℕ) → (r ≡ s → ⊥) → block after r ≡ block before r
  unfolding block
  other_block r n = fun_ext λ offset. at offset (ltb offset 184) refl
    where
      at : (offset : ℕ) (x : Bool) → ltb offset 184 ≡ x → cond x (get_or after (block_at r + offset) 0) 0 ≡ cond x (get_or before (block_at r + offset) 0) 0
      at offset true e = other_word r n offset (ltb-true offset 184 e)
      at offset false e = refl

  pub slot_keeps_clean : {n : ℕ} → s < 64 → CleanSlot b → Clean n before → Clean n after
  slot_keeps_clean {n} l t whole =
      record {
        slots = λ r h. slot r h (ℕ_discrete r s);
        environment = subst (λ (x : Block). CleanEnvironment n x) (sym (other_block 64 (λ e. omega arith))) whole.environment;
      }
    where
      slot : (r : ℕ) → r < 64 → Dec (r ≡ s) → CleanSlot (block after r)
      slot r h (yes e) = subst (λ (x : ℕ). CleanSlot (block after x)) (sym e) (subst (λ (x : Block). CleanSlot x) (sym change.words) t)
      slot r h (no d) = subst (λ (x : Block). CleanSlot x) (sym (other_block r d)) (whole.slots r h)

pub environment_keeps_clean : {before after : List ℕ} {b : Block} {n : ℕ} → InBlock 64 before after b → CleanEnvironment n b → Clean n before → Clean n after
environment_keeps_clean {n = n} change t whole =
    record {
      slots = λ r h. subst (λ (x : Block). CleanSlot x) (sym (other_block change r (λ e. omega arith))) (whole.slots r h);
      environment = subst (λ (x : Block). CleanEnvironment n x) (sym change.words) t;
    }

-- ── a slot's block ────────────────────────────────────────────────────────────────────────────────
-- A block that stays in use, with as many variables.
in_use : (b b' : Block) → (b 0 ≡ 0 → ⊥) → b' 0 ≡ b 0 → b' 4 ≡ b 4 → CleanBlock (b 4) b' → CleanSlot b'
in_use b b' u first size t = record { clean = rw size t; free = λ e. absurd (u (sym first ∙ e)) }

pub placed_slot : (b : Block) (place : ℕ) → (b 0 ≡ 0 → ⊥) → CleanSlot b → CleanSlot (placed_block b place)
unfolding placed_block
placed_slot b place u t =
    in_use b _ u
    (put_other (put_in b 104 0) 3 place 0 (λ e. omega arith) ∙ put_other b 104 0 0 (λ e. omega arith))
    (put_other (put_in b 104 0) 3 place 4 (λ e. omega arith) ∙ put_other b 104 0 4 (λ e. omega arith))
    (store_loose (b 4) (put_in b 104 0) 3 place (loose_low 3 (omega arith)) (store_loose (b 4) b 104 0 (loose_high 104 (omega arith)) t.clean))

-- A working word stored.
pub working_slot : (b : Block) (f v : ℕ) → 104 ≤ f → (b 0 ≡ 0 → ⊥) → CleanSlot b → CleanSlot (put_in b f v)
working_slot b f v h u t =
    in_use b _ u (put_other b f v 0 (λ e. omega arith)) (put_other b f v 4 (λ e. omega arith)) (store_loose (b 4) b f v (loose_high f h) t.clean)

module _ (b : Block) (i : ℕ) (t : CleanSlot b) (within : i < b 4) where
  -- a slot with variables is in use
  with_variables : b 0 ≡ 0 → ⊥
  with_variables e = let z : b 4 ≡ 0 = t.free e 4 (omega arith) in omega arith

  pub assigned_slot : (v : ℕ) → CleanSlot (assigned_block i v b)
  unfolding assigned_block
  assigned_slot v =
      in_use b _ with_variables
      (put_other (put_in b (8 + i * 6) v) (128 + i) 1 0 (λ e. omega arith) ∙ put_other b (8 + i * 6) v 0 (λ e. omega arith))
      (put_other (put_in b (8 + i * 6) v) (128 + i) 1 4 (λ e. omega arith) ∙ put_other b (8 + i * 6) v 4 (λ e. omega arith))
      (unfold assigned_block in assigned_clean (b 4) b i within t.clean v)

  pub scheduled_slot : (m v : ℕ) → 0 < m → CleanSlot (queued_block (scheduled_block i m v b))
  unfolding queued_block scheduled_block
  scheduled_slot m v pos =
      in_use b _ with_variables (first 0 (omega arith)) (first 4 (omega arith)) (unfold queued_block scheduled_block in scheduled_clean (b 4) b i within t.clean m v pos)
    where
      first : (k : ℕ) → k < 7 → queued_block (scheduled_block i m v b) k ≡ b k
      first k h = put_other _ 7 1 k (λ e. omega arith) ∙ (put_other _ (11 + i * 6) _ k (λ e. omega arith) ∙
          (put_other _ (10 + i * 6) _ k (λ e. omega arith) ∙ put_other b (9 + i * 6) v k (λ e. omega arith)))

  pub unmarked_slot : CleanSlot (unmarked_block i b)
  unfolding unmarked_block
  unmarked_slot = working_slot b (128 + i) 0 (omega arith) with_variables t

  pub made_slot : CleanSlot (made_block i b)
  unfolding made_block overwritten_block
  made_slot = in_use b _ with_variables (first 0 (omega arith)) (first 4 (omega arith)) (unfold made_block in made_clean (b 4) b i within t.clean)
    where
      first : (k : ℕ) → k < 8 → made_block i b k ≡ b k
      first k h =
          put_other _ (128 + i) 1 k (λ e. omega arith) ∙ (put_other _ (11 + i * 6) 0 k (λ e. omega arith) ∙ (put_other _ (10 + i * 6) 0 k (λ e. omega arith) ∙
          (put_other _ (9 + i * 6) 0 k (λ e. omega arith) ∙ put_other b (8 + i * 6) _ k (λ e. omega arith))))

  pub due_slot_lem : (m : ℕ) → CleanSlot (due_block i m b)
  unfolding due_block
  due_slot_lem m = go (eqb (b (10 + i * 6) + b (11 + i * 6) * 4294967296) m)
    where
      go : (x : Bool) → CleanSlot (cond x (made_block i b) (unmarked_block i b))
      go true = made_slot
      go false = unmarked_slot

-- A slot whose words up to the trigger words are 0.
pub blank_slot : (b : Block) → ((k : ℕ) → k < 144 → b k ≡ 0) → CleanSlot b
blank_slot b z =
    record {
      clean = rw (z 4 (omega arith)) (record {
        few = omega arith;
        kept = λ k h g. z k (omega arith);
        spare_low = λ i h. z (12 + i * 6) (omega arith);
        spare_high = λ i h. z (13 + i * 6) (omega arith);
        past = λ i h g. record { value = z (8 + i * 6) (omega arith); waiting = z (9 + i * 6) (omega arith); low = z (10 + i * 6) (omega arith); high = z (11 + i * 6) (omega arith) };
        idle = λ i h e. z (9 + i * 6) (omega arith);
        quiet = λ e i h. let low = z (10 + i * 6) (omega arith) in let high = z (11 + i * 6) (omega arith) in omega arith;
      });
      free = λ e. z;
    }

pub freed_slot : (b : Block) → CleanSlot (cleared 0 144 b)
unfolding cleared
freed_slot b = blank_slot (cleared 0 144 b) (λ k h. rw (le-leb 0 k (omega arith), lt-ltb k 144 h))

-- ── the environment's block ───────────────────────────────────────────────────────────────────────
module _ (n : ℕ) (b : Block) (i : ℕ) (t : CleanEnvironment n b) (within : i < n) where
  pub assigned_environment : (v : ℕ) → CleanEnvironment n (assigned_block i v b)
  unfolding assigned_block
  assigned_environment v =
      record {
        clean = unfold assigned_block in assigned_clean n b i within t.clean v;
        before = λ k h. put_other (put_in b (8 + i * 6) v) (128 + i) 1 k (λ e. omega arith) ∙ (put_other b (8 + i * 6) v k (λ e. omega arith) ∙ t.before k h);
      }

  pub scheduled_environment : (m v : ℕ) → 0 < m → CleanEnvironment n (queued_block (scheduled_block i m v b))
  unfolding queued_block scheduled_block
  scheduled_environment m v pos =
      record {
        clean = unfold queued_block scheduled_block in scheduled_clean n b i within t.clean m v pos;
        before = λ k h. put_other _ 7 1 k (λ e. omega arith) ∙ (put_other _ (11 + i * 6) _ k (λ e. omega arith) ∙ (put_other _ (10 + i * 6) _ k (λ e. omega arith) ∙ (put_other b (9 + i * 6) v k (λ e. omega arith) ∙ t.before k h)));
      }

  pub unmarked_environment : CleanEnvironment n (unmarked_block i b)
  unfolding unmarked_block
  unmarked_environment =
      record { clean = unfold unmarked_block in unmarked_clean n b i within t.clean; before = λ k h. put_other b (128 + i) 0 k (λ e. omega arith) ∙ t.before k h }

  pub overwritten_environment : (v : ℕ) → CleanEnvironment n (overwritten_block i v b)
  unfolding overwritten_block
  overwritten_environment v =
      record {
        clean = unfold overwritten_block in overwritten_clean n b i within t.clean v;
        before = λ k h.
            put_other _ (128 + i) 1 k (λ e. omega arith) ∙ (put_other _ (11 + i * 6) 0 k (λ e. omega arith) ∙ (put_other _ (10 + i * 6) 0 k (λ e. omega arith) ∙
            (put_other _ (9 + i * 6) 0 k (λ e. omega arith) ∙ (put_other b (8 + i * 6) v k (λ e. omega arith) ∙ t.before k h))));
      }

  pub made_environment : CleanEnvironment n (made_block i b)
  unfolding made_block
  made_environment = overwritten_environment (b (9 + i * 6))

  pub due_environment : (m : ℕ) → CleanEnvironment n (due_block i m b)
  unfolding due_block
  due_environment m = go (eqb (b (10 + i * 6) + b (11 + i * 6) * 4294967296) m)
    where
      go : (x : Bool) → CleanEnvironment n (cond x (made_block i b) (unmarked_block i b))
      go true = made_environment
      go false = unmarked_environment
