-- What stays, through several changes; trigger words are no part of a row.
use mathlib.Core.List.{List}
use mathlib.Core.Path.{◌≡◌, refl, sym, ap, ◌∙◌, fun_ext}
use Prim.Native.Nat.{ℕ, ◌≤◌, ◌<◌}
use native.Mathlib.Decide.{ℕ_discrete, dec_lt}
use native.Mathlib.Omega.{arith}
use Rattle.engine_blocks.proofs.InBlocks.{other_block}
use Rattle.engine_blocks.proofs.Puts.{put_other}
use Rattle.engine_blocks.proofs.RowChanges.{row_of, row_past, variables_same, bindings_same}
use Rattle.engine_blocks.specs.Blocks.{Block, block, row_at, rows_of, environment_of}
use Rattle.engine_blocks.specs.Changes.{SameOutside, SameTriggers, SameRows, InBlock, put_in}
use Rattle.engine_blocks.specs.Store.{store_of}

module _ {a b c : List ℕ} where
  pub outside_then : SameOutside a b → SameOutside b c → SameOutside a c
  outside_then p q = record { size = q.size ∙ p.size; header = q.header ∙ p.header; past = q.past ∙ p.past }

  pub triggers_then : SameTriggers a b → SameTriggers b c → SameTriggers a c
  triggers_then p q = record { same = λ s k h l. q.same s k h l ∙ p.same s k h l }

  pub rows_then : SameRows a b → SameRows b c → SameRows a c
  rows_then p q = record { same = λ s k h l. q.same s k h l ∙ p.same s k h l }

module _ (a : List ℕ) where
  pub outside_start : SameOutside a a
  outside_start = record { size = refl; header = refl; past = refl }

  pub triggers_start : SameTriggers a a
  triggers_start = record { same = λ s k h l. refl }

  pub rows_start : SameRows a a
  rows_start = record { same = λ s k h l. refl }

-- ── the words below 144 make the rows ─────────────────────────────────────────────────────────────
-- Two blocks with the same words there.
row_same : (a b : Block) → ((k : ℕ) → k < 144 → b k ≡ a k) → row_at b ≡ row_at a
unfolding row_at
row_same a b h =
    rw (
      h 0 (omega arith),
      h 1 (omega arith),
      h 2 (omega arith),
      h 3 (omega arith),
      h 4 (omega arith),
      h 104 (omega arith),
      h 105 (omega arith),
      h 106 (omega arith),
      h 107 (omega arith),
      h 108 (omega arith),
      h 109 (omega arith),
      h 111 (omega arith),
      bindings_same a b (λ k l m. h k (omega arith)),
      variables_same a b (a 4) (λ k l m. h k (omega arith)) (λ k l m. h k (omega arith)),
    )

module _ {a m : List ℕ} (same : SameRows a m) where
  pub rows_of_same : rows_of m ≡ rows_of a
  rows_of_same = fun_ext λ s. go s (dec_lt s 64)
    where
      go : (s : ℕ) → Dec (s < 64) → rows_of m s ≡ rows_of a s
      go s (yes l) = row_of m s l ∙ row_same (block a s) (block m s) (λ k h. same.same s k (omega arith) h) ∙ sym (row_of a s l)
      go s (no l) = row_past m s (omega arith) ∙ sym (row_past a s (omega arith))

  pub environment_of_same : (n : ℕ) → environment_of n m ≡ environment_of n a
  unfolding environment_of
  environment_of_same n =
      variables_same (block a 64) (block m 64) n (λ k l h. same.same 64 k (omega arith) (omega arith)) (λ k l h. same.same 64 k (omega arith) (omega arith))

  pub store_of_same : (n : ℕ) → store_of n m ≡ store_of n a
  unfolding store_of
  store_of_same n = rw (rows_of_same, environment_of_same n)

-- A trigger word stored leaves the rows and the environment.
pub trigger_word_stored : {s : ℕ} {a m : List ℕ} (offset v : ℕ) → 144 ≤ offset → InBlock s a m (put_in (block a s) offset v) → SameRows a m
trigger_word_stored {s} {a} {m} offset v h p = record { same = λ t k l low. go t k low (ℕ_discrete t s) }
  where
    go : (t k : ℕ) → k < 144 → Dec (t ≡ s) → block m t k ≡ block a t k
    go t k low (yes e) =
        ap (λ (z : ℕ). block m z k) e ∙ ap (λ (c : Block). c k) p.words ∙ put_other (block a s) offset v k (λ q. omega arith)
        ∙ sym (ap (λ (z : ℕ). block a z k) e)
    go t k low (no e) = ap (λ (c : Block). c k) (other_block p t e)
