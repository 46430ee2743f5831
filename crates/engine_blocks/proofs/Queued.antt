-- Word 7 of a block, the note that a waiting write may stand there: rows and environment do not speak of it.
-- Letters: a the words before, m after, s the block's number, b a block, v a word.
use mathlib.Core.List.{List}
use mathlib.Core.Path.{◌≡◌, sym, ap, ap₂, ◌∙◌, fun_ext}
use Prim.Native.Nat.{ℕ, ◌≤◌, ◌<◌}
use native.Mathlib.Decide.{ℕ_discrete, dec_lt}
use native.Mathlib.Omega.{arith}
use Rattle.walk.specs.State.{Variable}
use Rattle.engine_rows.specs.Rows.{Rows}
use Rattle.engine_blocks.specs.Blocks.{Block, block, variables_in, row_at, rows_of, environment_of}
use Rattle.engine_blocks.specs.Changes.{InBlock, Changes, SameTriggers, put_in, queued_block}
use Rattle.engine_blocks.specs.Store.{Store, store_of}
use Rattle.engine_blocks.proofs.Puts.{put_other}
use Rattle.engine_blocks.proofs.InBlocks.{in_block_put_then, other_block, same_outside, same_triggers}
use Rattle.engine_blocks.proofs.RowChanges.{row_of, row_past, variables_same, bindings_same}
use Rattle.engine_blocks.proofs.Staying.{outside_then, triggers_then}

pub seven_variables : (b : Block) (v n : ℕ) → variables_in (put_in b 7 v) n ≡ variables_in b n
seven_variables b v n = variables_same b (put_in b 7 v) n (λ k l h. put_other b 7 v k (λ e. omega arith)) (λ k l h. put_other b 7 v k (λ e. omega arith))

pub seven_row : (b : Block) (v : ℕ) → row_at (put_in b 7 v) ≡ row_at b
unfolding row_at put_in
seven_row b v = rw (
  variables_same b (put_in b 7 v) (b 4) (λ k l h. put_other b 7 v k (λ e. omega arith)) (λ k l h. put_other b 7 v k (λ e. omega arith)),
  bindings_same b (put_in b 7 v) (λ k l h. put_other b 7 v k (λ e. omega arith)),
)

module _ {s : ℕ} {a m : List ℕ} (v : ℕ) (p : InBlock s a m (put_in (block a s) 7 v)) where
  pub seven_rows : rows_of m ≡ rows_of a
  seven_rows = fun_ext λ t. go t (ℕ_discrete t s) (dec_lt t 64)
    where
      go : (t : ℕ) → Dec (t ≡ s) → Dec (t < 64) → rows_of m t ≡ rows_of a t
      go t (yes e) (yes l) = row_of m t l ∙ ap (λ z. row_at (block m z)) e ∙ ap row_at p.words ∙ seven_row (block a s) v ∙ sym (row_of a t l ∙ ap (λ z. row_at (block a z)) e)
      go t (no e) (yes l) = row_of m t l ∙ ap row_at (other_block p t e) ∙ sym (row_of a t l)
      go t d (no l) = row_past m t (omega arith) ∙ sym (row_past a t (omega arith))

  pub seven_environment : (n : ℕ) → environment_of n m ≡ environment_of n a
  unfolding environment_of
  seven_environment n = go (ℕ_discrete 64 s)
    where
      go : Dec (64 ≡ s) → variables_in (block m 64) n ≡ variables_in (block a 64) n
      go (yes e) = ap (λ z. variables_in (block m z) n) e ∙ ap (λ c. variables_in c n) p.words ∙ seven_variables (block a s) v n ∙ sym (ap (λ z. variables_in (block a z) n) e)
      go (no e) = ap (λ c. variables_in c n) (other_block p 64 e)

  pub seven_triggers : SameTriggers a m
  seven_triggers = same_triggers p (λ k h. put_other (block a s) 7 v k (λ e. omega arith))

-- A change, and word 7 stored after it.
pub then_queued : {s : ℕ} {a b m : List ℕ} {c : Block} {change : Store → Store} → s ≤ 64 → Changes s a b c change → InBlock s b m (put_in (block b s) 7 1) →
    Changes s a m (queued_block c) change
unfolding queued_block store_of
then_queued {change = change} h p q = record {
  in_block = in_block_put_then 7 1 p.in_block q;
  store = λ n. ap₂ (λ (rows : Rows) (environment : List Variable). record { rows = rows; environment = environment }) (seven_rows 1 q) (seven_environment 1 q n) ∙ p.store n;
  outside = outside_then p.outside (same_outside q h);
  triggers = triggers_then p.triggers (seven_triggers 1 q);
}
