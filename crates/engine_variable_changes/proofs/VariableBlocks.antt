-- The words of one variable changed: a write, a waiting write, a mark taken away.
use mathlib.Core.List.{List}
use mathlib.Core.Path.{◌≡◌, refl, ◌∙◌}
use Prim.Native.Nat.{ℕ, zero, suc, ◌+◌, ◌*◌, ◌/◌, ◌%◌, ◌≤◌, ◌<◌}
use native.Mathlib.Omega.{arith}
use Rattle.walk.specs.State.{Variable, due, written_to, scheduled_on, unmarked_of}
use Rattle.machine.specs.Words.{waiting_of}
use Rattle.engine_blocks.proofs.Puts.{put_same, put_other}
use Rattle.engine_variables.proofs.VariableChanges.{InVariable, changes_variable}
use Rattle.engine_blocks.specs.Blocks.{Block, block, nonzero, variable_in, owner_at}
use Rattle.engine_blocks.specs.Changes.{InBlock, Changes, put_in, assigned_block, scheduled_block, unmarked_block}
use Rattle.engine_blocks.specs.Store.{with_variable}

-- A word put outside of the words looked at.
module _ (b : Block) (i : ℕ) where
  pub in_variable_start : InVariable b b i
  in_variable_start = record { below = λ k h. refl; above = λ k h ne. refl }

  -- A store to one of the six words.
  pub in_variable_word : (c : Block) → InVariable b c i → (f v : ℕ) → 8 + i * 6 ≤ f → f < 14 + i * 6 → InVariable b (put_in c f v) i
  in_variable_word c p f v h l =
      record { below = λ k q. put_other c f v k (λ e. omega arith) ∙ p.below k q; above = λ k q ne. put_other c f v k (λ e. omega arith) ∙ p.above k q ne }

  -- A store to the mark.
  pub in_variable_mark : (c : Block) → InVariable b c i → (v : ℕ) → i < 16 → InVariable b (put_in c (128 + i) v) i
  in_variable_mark c p v h =
      record { below = λ k q. put_other c (128 + i) v k (λ e. omega arith) ∙ p.below k q; above = λ k q ne. put_other c (128 + i) v k ne ∙ p.above k q ne }

  module _ (few : i < 16) where
    -- ── a write ───────────────────────────────────────────────────────────────────────────────────
    pub assigned_within : (v : ℕ) → InVariable b (assigned_block i v b) i
    unfolding assigned_block
    assigned_within v = in_variable_mark _ (in_variable_word b in_variable_start (8 + i * 6) v (omega arith) (omega arith)) 1 few

    pub assigned_variable : (moment v : ℕ) → variable_in (assigned_block i v b) i ≡ written_to moment (variable_in b i) v
    unfolding assigned_block variable_in written_to nonzero
    assigned_variable moment v =
        let c = put_in b (8 + i * 6) v in
        rw (
          put_other c (128 + i) 1 (8 + i * 6) (λ e. omega arith),
          put_same b (8 + i * 6) v,
          put_same c (128 + i) 1,
          put_other c (128 + i) 1 (9 + i * 6) (λ e. omega arith),
          put_other b (8 + i * 6) v (9 + i * 6) (λ e. omega arith),
          put_other c (128 + i) 1 (10 + i * 6) (λ e. omega arith),
          put_other b (8 + i * 6) v (10 + i * 6) (λ e. omega arith),
          put_other c (128 + i) 1 (11 + i * 6) (λ e. omega arith),
          put_other b (8 + i * 6) v (11 + i * 6) (λ e. omega arith),
        )

    -- ── a waiting write ───────────────────────────────────────────────────────────────────────────
    pub scheduled_within : (t v : ℕ) → InVariable b (scheduled_block i t v b) i
    unfolding scheduled_block
    scheduled_within t v =
        in_variable_word _ (in_variable_word _ (in_variable_word b in_variable_start (9 + i * 6) v (omega arith) (omega arith)) (10 + i * 6) _ (omega arith) (omega arith))
        (11 + i * 6) _ (omega arith) (omega arith)

    waiting_some : (t v : ℕ) → 0 < t → waiting_of (t % 4294967296 + t / 4294967296 * 4294967296) v ≡ due t v
    unfolding waiting_of
    waiting_some zero v h = absurd (let z : ⊥ = omega arith in z)
    waiting_some (suc t) v h = let e : suc t % 4294967296 + suc t / 4294967296 * 4294967296 ≡ suc t = omega arith in rw e

    pub scheduled_variable : (t v : ℕ) → 0 < t → variable_in (scheduled_block i t v b) i ≡ scheduled_on (variable_in b i) t v
    unfolding scheduled_block variable_in scheduled_on
    scheduled_variable t v h =
        let c = put_in b (9 + i * 6) v in
        let d = put_in c (10 + i * 6) (t % 4294967296) in
        let off : (k : ℕ) → (k ≡ 9 + i * 6 → ⊥) → (k ≡ 10 + i * 6 → ⊥) → (k ≡ 11 + i * 6 → ⊥) → put_in d (11 + i * 6) (t / 4294967296) k ≡ b k =
        λ k p q r. put_other d (11 + i * 6) _ k r ∙ put_other c (10 + i * 6) _ k q ∙ put_other b (9 + i * 6) v k p in
        rw (
          off (8 + i * 6) (λ e. omega arith) (λ e. omega arith) (λ e. omega arith),
          off (128 + i) (λ e. omega arith) (λ e. omega arith) (λ e. omega arith),
          put_other d (11 + i * 6) (t / 4294967296) (10 + i * 6) (λ e. omega arith),
          put_same c (10 + i * 6) (t % 4294967296),
          put_same d (11 + i * 6) (t / 4294967296),
          put_other d (11 + i * 6) (t / 4294967296) (9 + i * 6) (λ e. omega arith),
          put_other c (10 + i * 6) (t % 4294967296) (9 + i * 6) (λ e. omega arith),
          put_same b (9 + i * 6) v,
          waiting_some t v h,
        )

    -- ── no mark ───────────────────────────────────────────────────────────────────────────────────
    pub unmarked_within : InVariable b (unmarked_block i b) i
    unfolding unmarked_block
    unmarked_within = in_variable_mark b in_variable_start 0 few

    pub unmarked_variable : variable_in (unmarked_block i b) i ≡ unmarked_of (variable_in b i)
    unfolding unmarked_block variable_in unmarked_of nonzero
    unmarked_variable =
        rw (
          put_other b (128 + i) 0 (8 + i * 6) (λ e. omega arith),
          put_same b (128 + i) 0,
          put_other b (128 + i) 0 (9 + i * 6) (λ e. omega arith),
          put_other b (128 + i) 0 (10 + i * 6) (λ e. omega arith),
          put_other b (128 + i) 0 (11 + i * 6) (λ e. omega arith),
        )

-- ── the changes that the code makes ───────────────────────────────────────────────────────────────
module _ {a m : List ℕ} (s i : ℕ) where
  pub assign_changes : (moment v : ℕ) → s ≤ 64 → i < 16 → InBlock s a m (assigned_block i v (block a s))
      → Changes s a m (assigned_block i v (block a s)) (with_variable (owner_at s i) (λ x. written_to moment x v))
  assign_changes moment v h few p =
      changes_variable p i few (assigned_within (block a s) i few v) (λ (x : Variable). written_to moment x v) (assigned_variable (block a s) i few moment v) h

  pub schedule_changes : (t v : ℕ) → s ≤ 64 → i < 16 → 0 < t → InBlock s a m (scheduled_block i t v (block a s))
      → Changes s a m (scheduled_block i t v (block a s)) (with_variable (owner_at s i) (λ x. scheduled_on x t v))
  schedule_changes t v h few some p =
      changes_variable p i few (scheduled_within (block a s) i few t v) (λ (x : Variable). scheduled_on x t v) (scheduled_variable (block a s) i few t v some) h

  pub unmark_changes : s ≤ 64 → i < 16 → InBlock s a m (unmarked_block i (block a s))
      → Changes s a m (unmarked_block i (block a s)) (with_variable (owner_at s i) (λ x. unmarked_of x))
  unmark_changes h few p =
      changes_variable p i few (unmarked_within (block a s) i few) (λ (x : Variable). unmarked_of x) (unmarked_variable (block a s) i few) h
