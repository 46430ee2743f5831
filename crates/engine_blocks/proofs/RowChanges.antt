-- A block changed, as a row changed; then the fields.
use mathlib.Core.List.{List}
use mathlib.Core.Path.{◌≡◌, refl, sym, ap, ◌∙◌, fun_ext}
use Prim.Native.Nat.{ℕ, ◌+◌, ◌*◌, ◌≤◌, ◌<◌, min}
use native.Mathlib.Decide.{ℕ_discrete, dec_lt}
use native.Mathlib.Omega.{arith}
use borrow.Author.Tests.{lt-ltb, le-ltb, eq-eqb, ne_eqb}
use Rattle.engine_rows.specs.Rows.{Row, Rows, choose_row, with_row, at_place, with_children, free_row}
use Rattle.engine_blocks.proofs.InBlocks.{other_block, same_outside, same_triggers}
use Rattle.engine_blocks.proofs.Puts.{put_other, cleared_above}
use Rattle.engine_blocks.proofs.Tabulated.{tabulate_same}
use Rattle.engine_blocks.specs.Blocks.{Block, block, nonzero, variable_in, variables_in, owner_in, bindings_in, row_at, rows_of, environment_of}
use Rattle.engine_blocks.specs.Changes.{InBlock, Changes, put_in, cleared, placed_block}
use Rattle.engine_blocks.specs.Store.{store_of, with_slot}
use Rattle.engine_blocks.specs.Tabulate.{tabulate_from}

-- ── rows by slot ──────────────────────────────────────────────────────────────────────────────────
pub with_row_same : (rows : Rows) (s : ℕ) (r : Row) → with_row rows s r s ≡ r
unfolding with_row choose_row
with_row_same rows s r = rw (eq-eqb s s refl)

pub with_row_other : (rows : Rows) (s : ℕ) (r : Row) (n : ℕ) → (n ≡ s → ⊥) → with_row rows s r n ≡ rows n
unfolding with_row choose_row
with_row_other rows s r n h = rw (ne_eqb n s h)

pub row_of : (words : List ℕ) (s : ℕ) → s < 64 → rows_of words s ≡ row_at (block words s)
unfolding rows_of choose_row
row_of words s h = rw (lt-ltb s 64 h)

pub row_past : (words : List ℕ) (s : ℕ) → 64 ≤ s → rows_of words s ≡ free_row
unfolding rows_of choose_row
row_past words s h = rw (le-ltb s 64 h)

-- ── a block changed ───────────────────────────────────────────────────────────────────────────────
module _ {s : ℕ} {a m : List ℕ} {b : Block} (p : InBlock s a m b) where
  pub rows_in_block : s < 64 → rows_of m ≡ with_row (rows_of a) s (row_at b)
  rows_in_block h = fun_ext λ t. go t (ℕ_discrete t s) (dec_lt t 64)
    where
      go : (t : ℕ) → Dec (t ≡ s) → Dec (t < 64) → rows_of m t ≡ with_row (rows_of a) s (row_at b) t
      go t (yes e) l =
          ap (rows_of m) e ∙ row_of m s h ∙ ap row_at p.words ∙ sym (ap (with_row (rows_of a) s (row_at b)) e ∙ with_row_same (rows_of a) s (row_at b))
      go t (no e) (yes l) =
          row_of m t l ∙ ap row_at (other_block p t e) ∙ sym (with_row_other (rows_of a) s (row_at b) t e ∙ row_of a t l)
      go t (no e) (no l) = row_past m t (omega arith) ∙ sym (with_row_other (rows_of a) s (row_at b) t e ∙ row_past a t (omega arith))

  pub environment_stays : s < 64 → (n : ℕ) → environment_of n m ≡ environment_of n a
  unfolding environment_of
  environment_stays h n = ap (λ (c : Block). variables_in c n) (other_block p 64 (λ e. omega arith))

  pub rows_stay : s ≡ 64 → rows_of m ≡ rows_of a
  rows_stay h = fun_ext λ t. go t (dec_lt t 64)
    where
      go : (t : ℕ) → Dec (t < 64) → rows_of m t ≡ rows_of a t
      go t (yes l) = row_of m t l ∙ ap row_at (other_block p t (λ e. omega arith)) ∙ sym (row_of a t l)
      go t (no l) = row_past m t (omega arith) ∙ sym (row_past a t (omega arith))

  pub environment_in_block : s ≡ 64 → (n : ℕ) → environment_of n m ≡ variables_in b n
  unfolding environment_of
  environment_in_block h n = ap (λ (c : Block). variables_in c n) (ap (block m) (sym h) ∙ p.words)

  -- The row is changed as the block is.
  pub changes_row : (change : Row → Row) → s < 64 → row_at b ≡ change (row_at (block a s)) → ((k : ℕ) → 144 ≤ k → b k ≡ block a s k)
      → Changes s a m b (with_slot s change)
  unfolding store_of with_slot
  changes_row change h e t =
      record {
        in_block = p;
        store = λ n. rw (rows_in_block h, environment_stays h n, e, row_of a s h);
        outside = same_outside p (omega arith);
        triggers = same_triggers p t;
      }

-- ── fields of a block changed ─────────────────────────────────────────────────────────────────────
module _ (a b : Block) where
  pub variable_same : (i : ℕ) → b (8 + i * 6) ≡ a (8 + i * 6) → b (9 + i * 6) ≡ a (9 + i * 6) → b (10 + i * 6) ≡ a (10 + i * 6) → b (11 + i * 6) ≡ a (11 + i * 6)
      → b (128 + i) ≡ a (128 + i) → variable_in b i ≡ variable_in a i
  unfolding variable_in
  variable_same i e f g h k = rw (e, f, g, h, k)

  pub variables_same : (n : ℕ) → ((k : ℕ) → 8 ≤ k → k < 104 → b k ≡ a k) → ((k : ℕ) → 128 ≤ k → k < 144 → b k ≡ a k) → variables_in b n ≡ variables_in a n
  unfolding variables_in
  variables_same n h k =
      tabulate_same 0 (min n 16) (variable_in b) (variable_in a) (λ i p q.
      variable_same i (h _ (omega arith) (omega arith)) (h _ (omega arith) (omega arith)) (h _ (omega arith) (omega arith)) (h _ (omega arith) (omega arith))
      (k _ (omega arith) (omega arith)))

  pub bindings_same : ((k : ℕ) → 110 ≤ k → k < 128 → b k ≡ a k) → bindings_in b ≡ bindings_in a
  unfolding bindings_in owner_in
  bindings_same h =
      rw (h 110 (omega arith) (omega arith))
      (tabulate_same 0 (min (a 110) 16) (owner_in b) (owner_in a) (λ j p q. rw (h (112 + j) (omega arith) (omega arith))))

-- "It is at this instruction": the place, and no longer asleep.
pub placed_row : (b : Block) (place : ℕ) → row_at (placed_block b place) ≡ at_place (row_at b) place
unfolding placed_block row_at at_place put_in nonzero
placed_row b place =
    rw (
      variables_same b (put_in (put_in b 104 0) 3 place) (b 4) (λ k l h. off k (λ e. omega arith) (λ e. omega arith)) (λ k l h. off k (λ e. omega arith) (λ e. omega arith)),
      bindings_same b (put_in (put_in b 104 0) 3 place) (λ k l h. off k (λ e. omega arith) (λ e. omega arith)),
    )
  where
    off : (k : ℕ) → (k ≡ 3 → ⊥) → (k ≡ 104 → ⊥) → put_in (put_in b 104 0) 3 place k ≡ b k
    off k p q = put_other (put_in b 104 0) 3 place k p ∙ put_other b 104 0 k q

placed_triggers : (b : Block) (place k : ℕ) → 144 ≤ k → placed_block b place k ≡ b k
unfolding placed_block
placed_triggers b place k l = put_other (put_in b 104 0) 3 place k (λ e. omega arith) ∙ put_other b 104 0 k (λ e. omega arith)

pub children_row : (b : Block) (n : ℕ) → row_at (put_in b 106 n) ≡ with_children (row_at b) n
unfolding row_at with_children put_in
children_row b n =
    rw (
      variables_same b (put_in b 106 n) (b 4) (λ k l h. put_other b 106 n k (λ e. omega arith)) (λ k l h. put_other b 106 n k (λ e. omega arith)),
      bindings_same b (put_in b 106 n) (λ k l h. put_other b 106 n k (λ e. omega arith)),
    )

-- All words up to the triggers 0: a free row.
pub cleared_row : (b : Block) → row_at (cleared 0 144 b) ≡ free_row
unfolding row_at free_row nonzero variables_in bindings_in tabulate_from cleared
cleared_row b = refl

-- ── the changes that the code makes ───────────────────────────────────────────────────────────────
module _ {a m : List ℕ} (s : ℕ) where
  pub place_changes : (place : ℕ) → s < 64 → InBlock s a m (placed_block (block a s) place)
      → Changes s a m (placed_block (block a s) place) (with_slot s (λ r. at_place r place))
  place_changes place h p =
      changes_row p (λ (r : Row). at_place r place) h (placed_row (block a s) place) (placed_triggers (block a s) place)

  pub children_changes : (n : ℕ) → s < 64 → InBlock s a m (put_in (block a s) 106 n) → Changes s a m (put_in (block a s) 106 n) (with_slot s (λ r. with_children r n))
  children_changes n h p =
      changes_row p (λ (r : Row). with_children r n) h (children_row (block a s) n) (λ k l. put_other (block a s) 106 n k (λ e. omega arith))

  pub free_changes : s < 64 → InBlock s a m (cleared 0 144 (block a s)) → Changes s a m (cleared 0 144 (block a s)) (with_slot s (λ r. free_row))
  free_changes h p = changes_row p (λ (r : Row). free_row) h (cleared_row (block a s)) (λ k l. cleared_above 0 144 (block a s) k l)
