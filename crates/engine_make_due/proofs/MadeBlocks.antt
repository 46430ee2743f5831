-- The words of one variable changed: by a write after which no waiting write is there; as a waiting write of it is made, if it is due, or else its mark
-- is taken away.
use mathlib.Core.List.{List}
use mathlib.Core.Path.{◌≡◌, refl, sym, ◌∙◌}
use Prim.Native.Nat.{ℕ, zero, suc, ◌+◌, ◌*◌, ◌≤◌, ◌<◌}
use native.Mathlib.Decide.{ℕ_discrete}
use native.Mathlib.Omega.{arith}
use borrow.Author.Tests.{eq-eqb, ne_eqb}
use Rattle.walk.specs.State.{Variable, input_to, unmarked_of, made_due, due_write, made_if_due}
use Rattle.machine.specs.Words.{waiting_of}
use Rattle.engine_blocks.specs.Blocks.{Block, block, nonzero, variable_in, owner_at}
use Rattle.engine_blocks.specs.Changes.{InBlock, Changes, put_in, overwritten_block, made_block, unmarked_block, due_block}
use Rattle.engine_blocks.specs.Store.{with_variable}
use Rattle.engine_blocks.proofs.Puts.{put_same, put_other}
use Rattle.engine_variables.proofs.VariableChanges.{InVariable, changes_variable}
use Rattle.engine_variable_changes.proofs.VariableBlocks.{in_variable_start, in_variable_word, in_variable_mark, unmarked_within, unmarked_variable}

module _ (b : Block) (i : ℕ) (few : i < 16) where
  -- ── a write after which no waiting write is there ─────────────────────────────────────────────
  pub overwritten_within : (v : ℕ) → InVariable b (overwritten_block i v b) i
  unfolding overwritten_block
  overwritten_within v =
      in_variable_mark b i _ (in_variable_word b i _ (in_variable_word b i _ (in_variable_word b i _ (in_variable_word b i b (in_variable_start b i)
      (8 + i * 6) _ (omega arith) (omega arith)) (9 + i * 6) 0 (omega arith) (omega arith)) (10 + i * 6) 0 (omega arith) (omega arith)) (11 + i * 6) 0 (omega arith) (omega arith)) 1 few

  pub overwritten_variable : (moment v : ℕ) → variable_in (overwritten_block i v b) i ≡ input_to moment (variable_in b i) v
  unfolding overwritten_block variable_in input_to nonzero waiting_of
  overwritten_variable moment v =
      let c₁ = put_in b (8 + i * 6) v in
      let c₂ = put_in c₁ (9 + i * 6) 0 in
      let c₃ = put_in c₂ (10 + i * 6) 0 in
      let c₄ = put_in c₃ (11 + i * 6) 0 in
      rw (
        put_other c₄ (128 + i) 1 (8 + i * 6) (λ e. omega arith),
        put_other c₃ (11 + i * 6) 0 (8 + i * 6) (λ e. omega arith),
        put_other c₂ (10 + i * 6) 0 (8 + i * 6) (λ e. omega arith),
        put_other c₁ (9 + i * 6) 0 (8 + i * 6) (λ e. omega arith),
        put_same b (8 + i * 6) v,
        put_same c₄ (128 + i) 1,
        put_other c₄ (128 + i) 1 (10 + i * 6) (λ e. omega arith),
        put_other c₃ (11 + i * 6) 0 (10 + i * 6) (λ e. omega arith),
        put_same c₂ (10 + i * 6) 0,
        put_other c₄ (128 + i) 1 (11 + i * 6) (λ e. omega arith),
        put_same c₃ (11 + i * 6) 0,
      )

  -- ── a waiting write made ──────────────────────────────────────────────────────────────────────
  due_now : (t d v : ℕ) (x : Variable) → 0 < t → d ≡ t → due_write t x (waiting_of d v) ≡ input_to t x v
  unfolding due_write waiting_of made_if_due input_to
  due_now t zero v x h e = absurd (let z : ⊥ = omega arith in z)
  due_now t (suc d) v x h e = rw (eq-eqb (suc d) t e)

  due_later : (t d v : ℕ) (x : Variable) → (d ≡ t → ⊥) → due_write t x (waiting_of d v) ≡ unmarked_of x
  unfolding due_write waiting_of made_if_due
  due_later t zero v x e = refl
  due_later t (suc d) v x e = rw (ne_eqb (suc d) t e)

  abbrev moment : ℕ
  moment = b (10 + i * 6) + b (11 + i * 6) * 4294967296

  pub due_block_made : (t : ℕ) → moment ≡ t → due_block i t b ≡ made_block i b
  unfolding due_block
  due_block_made t e = rw (eq-eqb moment t e)

  pub due_block_later : (t : ℕ) → (moment ≡ t → ⊥) → due_block i t b ≡ unmarked_block i b
  unfolding due_block
  due_block_later t e = rw (ne_eqb moment t e)

  pub due_within : (t : ℕ) → InVariable b (due_block i t b) i
  due_within t = go (ℕ_discrete moment t)
    where
      go : Dec (moment ≡ t) → InVariable b (due_block i t b) i
      go (yes e) = rw (due_block_made t e) (unfold made_block in overwritten_within (b (9 + i * 6)))
      go (no e) = rw (due_block_later t e) (unmarked_within b i few)

  made_is_due : (t : ℕ) → 0 < t → moment ≡ t → variable_in (made_block i b) i ≡ made_due t (variable_in b i)
  unfolding made_due made_block variable_in
  made_is_due t h e = overwritten_variable t (b (9 + i * 6)) ∙ sym (due_now t moment (b (9 + i * 6)) (variable_in b i) h e)

  unmarked_is_due : (t : ℕ) → (moment ≡ t → ⊥) → variable_in (unmarked_block i b) i ≡ made_due t (variable_in b i)
  unfolding made_due variable_in unmarked_of
  unmarked_is_due t e = unmarked_variable b i few ∙ sym (due_later t moment (b (9 + i * 6)) (variable_in b i) e)

  pub due_variable : (t : ℕ) → 0 < t → variable_in (due_block i t b) i ≡ made_due t (variable_in b i)
  due_variable t h = go (ℕ_discrete moment t)
    where
      go : Dec (moment ≡ t) → variable_in (due_block i t b) i ≡ made_due t (variable_in b i)
      go (yes e) = rw (due_block_made t e) (made_is_due t h e)
      go (no e) = rw (due_block_later t e) (unmarked_is_due t e)

-- ── the changes that the code makes ───────────────────────────────────────────────────────────────
module _ {a m : List ℕ} (s i : ℕ) where
  pub overwrite_changes : (moment v : ℕ) → s ≤ 64 → i < 16 → InBlock s a m (overwritten_block i v (block a s))
      → Changes s a m (overwritten_block i v (block a s)) (with_variable (owner_at s i) (λ x. input_to moment x v))
  overwrite_changes moment v h few p =
      changes_variable p i few (overwritten_within (block a s) i few v) (λ (x : Variable). input_to moment x v) (overwritten_variable (block a s) i few moment v) h

  pub due_changes : (t : ℕ) → s ≤ 64 → i < 16 → 0 < t → InBlock s a m (due_block i t (block a s))
      → Changes s a m (due_block i t (block a s)) (with_variable (owner_at s i) (λ x. made_due t x))
  due_changes t h few some p =
      changes_variable p i few (due_within (block a s) i few t) (λ (x : Variable). made_due t x) (due_variable (block a s) i few t some) h
