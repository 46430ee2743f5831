-- Working words stored, then the names: the row they leave. The letters are those of specs/Row.
use mathlib.Core.Path.{◌≡◌, sym, ap, subst, ◌∙◌}
use mathlib.Core.List.{List}
use Prim.Native.Nat.{ℕ, ◌+◌, ◌*◌, ◌^◌, ◌≤◌, ◌<◌}
use native.Mathlib.Omega.{arith}
use lib.ListN.{length}
use Rattle.walk.specs.Walk.{instruction_at}
use Rattle.table.specs.Decode.{word, names_at, kinds_of_bits, table_listing}
use Rattle.table.specs.Entry.{NamesStand}
use Rattle.table_read.specs.Opened.{Opened}
use Rattle.engine_rows.specs.Rows.{Owner, Row}
use Rattle.engine_rows.specs.Engine.{child_bindings}
use Rattle.engine_rows.specs.Records.{is_wait}
use Rattle.engine_blocks.specs.Blocks.{Block, block, nonzero, variables_in, row_at, rows_of}
use Rattle.engine_blocks.specs.Changes.{InBlock, put_in}
use Rattle.engine_blocks.proofs.Puts.{put_other}
use Rattle.engine_blocks.proofs.RowChanges.{row_of, variables_same}
use Rattle.engine_evaluate.specs.Bound.{bindings_of}
use Rattle.engine_new_rows.specs.declared.rows.Parent.{Parent}
use Rattle.engine_new_names.specs.Naming.{MayBind, NamesBound}
use Rattle.engine_new_rows.specs.NewRow.{working_block}
use Rattle.engine_new_names.proofs.OwnNames.{changed_then}
use Rattle.engine_new_names.proofs.CallerNames.{caller_row_stays}
use Rattle.engine_children.proofs.ChildSteps.{table_size_lem, argument_count_lem}
use Rattle.engine_fill_row.specs.Row.{MayFillRow, working_row, RowFilled, child_working}

module _ {before m after : List ℕ} {s : ℕ} (i asleep routine : ℕ) (q : Parent) {owners : List Owner}
    (w : InBlock s before m (working_block (block before s) q i asleep routine)) (N : NamesBound m s owners after)
  where
    changed : InBlock s before after (block after s)
    changed = changed_then (subst (λ (b : Block). InBlock s before m b) (sym w.words) w) N.in_block

    -- but for the names
    word_stored : (k : ℕ) → (k ≡ 110 → ⊥) → (112 ≤ k → k < 128 → ⊥) → block after s k ≡ working_block (block before s) q i asleep routine k
    word_stored k h l = N.others k h l ∙ ap (λ (b : Block). b k) w.words

    untouched : (k : ℕ) → (104 ≤ k → k < 128 → ⊥) → working_block (block before s) q i asleep routine k ≡ block before s k
    unfolding working_block
    untouched k l =
        put_other _ 111 q.base k (λ e. l (omega arith) (omega arith)) ∙ (put_other _ 109 routine k (λ e. l (omega arith) (omega arith))
        ∙ (put_other _ 108 q.bits k (λ e. l (omega arith) (omega arith)) ∙ (put_other _ 107 (q.low + i * 2 ^ q.bits) k (λ e. l (omega arith) (omega arith))
        ∙ (put_other _ 106 0 k (λ e. l (omega arith) (omega arith)) ∙ (put_other _ 105 q.slot k (λ e. l (omega arith) (omega arith))
        ∙ put_other (block before s) 104 asleep k (λ e. l (omega arith) (omega arith)))))))

    kept_word : (k : ℕ) → (104 ≤ k → k < 128 → ⊥) → block after s k ≡ block before s k
    kept_word k l = word_stored k (λ e. l (omega arith) (omega arith)) (λ x y. l (omega arith) y) ∙ untouched k l

    same_own : variables_in (block after s) (block before s 4) ≡ variables_in (block before s) (block before s 4)
    same_own =
        variables_same (block before s) (block after s) (block before s 4) (λ k h l. kept_word k (λ x y. omega arith)) (λ k h l. kept_word k (λ x y. omega arith))

    stored_row : row_at (block after s) ≡ working_row (row_at (block before s)) q i (nonzero asleep) routine owners
    unfolding row_at working_row working_block put_in
    stored_row =
        let low : (k : ℕ) → k < 104 → block after s k ≡ block before s k = λ k h. kept_word k (λ x y. omega arith) in
        let work : (k : ℕ) → k < 110 → block after s k ≡ working_block (block before s) q i asleep routine k = λ k h. word_stored k (λ e. omega arith) (λ x y. omega arith) in
        rw (
          low 0 (omega arith),
          low 1 (omega arith),
          low 2 (omega arith),
          low 3 (omega arith),
          low 4 (omega arith),
          work 104 (omega arith),
          work 105 (omega arith),
          work 106 (omega arith),
          work 107 (omega arith),
          work 108 (omega arith),
          work 109 (omega arith),
          word_stored 111 (λ e. omega arith) (λ x y. omega arith),
          N.bindings,
          same_own,
        )

    pub row_filled : (row : Row) → s < 64 → working_row (rows_of before s) q i (nonzero asleep) routine owners ≡ row → RowFilled before s row after
    row_filled row h e =
        record {
          in_block = changed;
          row = row_of after s h ∙ stored_row ∙ ap (λ (x : Row). working_row x q i (nonzero asleep) routine owners) (sym (row_of before s h)) ∙ e;
          kept = kept_word;
        }

-- ── by the child field ────────────────────────────────────────────────────────────────────────────
module _ {t m₀ : List ℕ} {p s head callee count bits locals size : ℕ} {q : Parent} (M : MayFillRow t m₀ p s head callee q) (O : Opened t callee count bits locals size) where
  pub names_may_bind : {m : List ℕ} {b : Block} → InBlock s m₀ m b → MayBind t m p s (head + 2) count locals
  names_may_bind {m} w =
      record {
        size = omega (arith, M.size, w.size);
        table = table_size_lem t M.table;
        caller = M.parent;
        slot = M.slot;
        apart = M.apart;
        few = O.names;
        names =
            subst (λ (k : ℕ). NamesStand t (length (bindings_of m p)) (head + 2) k) (argument_count_lem M.field M.called O)
            (subst (λ (r : Row). NamesStand t (length r.bindings) (head + 2) (word t (head + 0))) (sym (caller_row_stays w M.slot M.apart)) M.field.arguments);
      }

  pub child_row_filled : {m after : List ℕ} (asleep : ℕ) → nonzero asleep ≡ is_wait (instruction_at (table_listing t) callee (rows_of m₀ s).place)
      → InBlock s m₀ m (working_block (block m₀ s) q (rows_of m₀ s).child asleep callee)
      → NamesBound m s (child_bindings (kinds_of_bits count bits) (names_at t (head + 2) count) locals (bindings_of m p) s 0) after
      → RowFilled m₀ s (child_working t m₀ p s head callee q) after
  child_row_filled {m} {after} asleep e w N =
      row_filled (rows_of m₀ s).child asleep callee q w N (child_working t m₀ p s head callee q) M.slot
      (rw (e, ap (λ (r : Row). r.bindings) (caller_row_stays w M.slot M.apart), O.kinds, O.own, argument_count_lem M.field M.called O))
