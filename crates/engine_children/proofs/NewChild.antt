-- A child's whole row: the stores of `new_child`, one after the other, leave the row that its child field makes, and a clean block.
use mathlib.Core.Path.{◌≡◌, ap, ◌∙◌}
use mathlib.Core.List.{List}
use Prim.Native.Nat.{ℕ, suc, ◌+◌, ◌*◌, ◌-◌, ◌^◌, ◌≤◌, ◌<◌, min}
use native.Mathlib.Omega.{arith}
use lib.ListN.{length}
use Rattle.table.specs.Decode.{word, names_at, call_at, kinds_of_bits, table_listing}
use Rattle.table_read.specs.Opened.{Opened}
use Rattle.engine_rows.specs.Rows.{Row}
use Rattle.engine_rows.specs.Engine.{caller_at, child_row, child_bindings}
use Rattle.engine_blocks.specs.Blocks.{Block, block, nonzero, variable_in, variables_in, row_at, rows_of, environment_of}
use Rattle.engine_blocks.specs.Store.{store_of}
use Rattle.engine_blocks.specs.Changes.{InBlock, put_in}
use Rattle.engine_blocks.proofs.Puts.{put_other}
use Rattle.engine_blocks.proofs.RowChanges.{variable_same}
use Rattle.engine_evaluate.specs.Bound.{Bound, bindings_of, variable_named}
use Rattle.engine_new_rows.specs.declared.rows.Parent.{Parent}
use Rattle.engine_new_names.specs.Naming.{NamesBound}
use Rattle.engine_new_names.specs.Passing.{ValuesPassed}
use Rattle.engine_new_rows.specs.NewRow.{ParentIs, kept_block, working_block}
use Rattle.engine_children.specs.NewChild.{MayMake}
use Rattle.engine_new_names.proofs.Lists.{tabulate_tail}
use Rattle.engine_new_names.proofs.OwnNames.{changed_then}
use Rattle.engine_new_names.proofs.CallerNames.{caller_row_stays}
use Rattle.engine_new_names.proofs.Passing.{fresh_variable}
use Rattle.engine_children.proofs.ChildSteps.{argument_count_lem}
use Rattle.walk.specs.State.{new_variable}
use Rattle.engine_fork_bits.specs.ForkBits.{fork_bits}
use Rattle.walk.specs.Memory.{own_variables}

-- What each store left in block s, which was blank: the values passed, the kept words, the working words, the names.
pub record Stored (t m₀ m₁ m₂ m₃ m₄ : List ℕ) (me head i s n callee count bits locals size own : ℕ) (p : Parent) : Type 0 where
  pub may : MayMake t m₀ me head i s n
  pub called : callee ≡ word t (head + 1)
  pub opened : Opened t callee count bits locals size
  pub values : ValuesPassed t m₀ me s (head + 2) count bits m₁ own
  pub parent : ParentIs (rows_of m₁) me n p
  pub kept : InBlock s m₁ m₂ (kept_block (block m₁ s) p.level i (own + locals))
  pub working : InBlock s m₂ m₃ (working_block (block m₂ s) p i 0 callee)
  pub named : NamesBound m₃ s (child_bindings (kinds_of_bits count bits) (names_at t (head + 2) count) locals (bindings_of m₃ me) s 0) m₄

module _ {t m₀ m₁ m₂ m₃ m₄ : List ℕ} {me head i s n callee count bits locals size own : ℕ} {p : Parent}
    (S : Stored t m₀ m₁ m₂ m₃ m₄ me head i s n callee count bits locals size own p)
  where
    -- ── the words of block s ──────────────────────────────────────────────────────────────────────
    to₁ : InBlock s m₀ m₁ (block m₁ s)
    to₁ = S.values.in_block

    to₃ : InBlock s m₀ m₃ (block m₃ s)
    to₃ = changed_then (changed_then to₁ S.kept) S.working

    pub to₄ : InBlock s m₀ m₄ (block m₄ s)
    to₄ = changed_then to₃ S.named.in_block

    abbrev stored : Block
    stored = working_block (kept_block (block m₁ s) p.level i (own + locals)) p i 0 callee

    -- but for the names
    pub word_stored : (k : ℕ) → (k ≡ 110 → ⊥) → (112 ≤ k → k < 128 → ⊥) → block m₄ s k ≡ stored k
    word_stored k h l =
        S.named.others k h l
        ∙ ap (λ (b : Block). b k) (S.working.words ∙ ap (λ (b : Block). working_block b p i 0 callee) S.kept.words)

    -- a word that no store changed
    untouched : (k : ℕ) → 5 ≤ k → (104 ≤ k → k < 112 → ⊥) → stored k ≡ block m₁ s k
    unfolding kept_block working_block
    untouched k h l =
        put_other _ 111 p.base k (λ e. l (omega arith) (omega arith)) ∙ (put_other _ 109 callee k (λ e. l (omega arith) (omega arith))
        ∙ (put_other _ 108 p.bits k (λ e. l (omega arith) (omega arith)) ∙ (put_other _ 107 (p.low + i * 2 ^ p.bits) k (λ e. l (omega arith) (omega arith))
        ∙ (put_other _ 106 0 k (λ e. l (omega arith) (omega arith)) ∙ (put_other _ 105 p.slot k (λ e. l (omega arith) (omega arith))
        ∙ (put_other _ 104 0 k (λ e. l (omega arith) (omega arith)) ∙ (put_other _ 4 (own + locals) k (λ e. omega arith)
        ∙ (put_other _ 2 i k (λ e. omega arith) ∙ (put_other _ 1 p.level k (λ e. omega arith) ∙ put_other (block m₁ s) 0 1 k (λ e. omega arith))))))))))

    pub value_word : (k : ℕ) → 5 ≤ k → (104 ≤ k → k < 128 → ⊥) → block m₄ s k ≡ block m₁ s k
    value_word k h l = word_stored k (λ e. l (omega arith) (omega arith)) (λ x y. l (omega arith) y) ∙ untouched k h (λ x y. l x (omega arith))

    zero_before : (k : ℕ) → k < 144 → ((j : ℕ) → j < own → k ≡ 8 + j * 6 → ⊥) → block m₁ s k ≡ 0
    zero_before k h l = S.values.others k l ∙ S.may.blank k h

    pub zero_word : (k : ℕ) → 5 ≤ k → k < 144 → (104 ≤ k → k < 128 → ⊥) → ((j : ℕ) → j < own → k ≡ 8 + j * 6 → ⊥) → block m₄ s k ≡ 0
    zero_word k h g l v = value_word k h l ∙ zero_before k g v

    place_word : block m₄ s 3 ≡ 0
    unfolding kept_block working_block put_in
    place_word = word_stored 3 (λ e. omega arith) (λ x y. omega arith) ∙ zero_before 3 (omega arith) (λ j h e. omega arith)

    -- ── its variables ─────────────────────────────────────────────────────────────────────────────
    pub few : own + locals ≤ 16
    few = omega (arith, S.values.few, S.opened.names)

    old_variable : (j : ℕ) → j < own → variable_in (block m₄ s) j ≡ variable_in (block m₁ s) j
    old_variable j h =
        let room = few in
        variable_same (block m₁ s) (block m₄ s) j (value_word _ (omega arith) (λ x y. omega arith)) (value_word _ (omega arith) (λ x y. omega arith))
        (value_word _ (omega arith) (λ x y. omega arith)) (value_word _ (omega arith) (λ x y. omega arith)) (value_word _ (omega arith) (λ x y. omega arith))

    new_local : (moment j : ℕ) → own ≤ j → j < own + locals → variable_in (block m₄ s) j ≡ new_variable moment 0
    new_local moment j h l =
        let room = few in
        fresh_variable moment (block m₄ s) j 0 (zero_word (8 + j * 6) (omega arith) (omega arith) (λ x y. omega arith) (λ k a e. omega arith))
        (zero_word (9 + j * 6) (omega arith) (omega arith) (λ x y. omega arith) (λ k a e. omega arith))
        (zero_word (10 + j * 6) (omega arith) (omega arith) (λ x y. omega arith) (λ k a e. omega arith))
        (zero_word (11 + j * 6) (omega arith) (omega arith) (λ x y. omega arith) (λ k a e. omega arith))
        (zero_word (128 + j) (omega arith) (omega arith) (λ x y. omega arith) (λ k a e. omega arith))

    module _ (moment k : ℕ) (B : Bound (store_of k m₀) (bindings_of m₀ me)) where
      own_variables_lem : variables_in (block m₄ s) (own + locals) ≡ own_variables moment (kinds_of_bits count bits) (names_at t (head + 2) count) locals (variable_named k m₀ me)
      unfolding variables_in
      own_variables_lem =
          let all : min (own + locals) 16 ≡ own + locals = omega (arith, few) in
          rw (all, tabulate_tail own locals (variable_in (block m₁ s)) (variable_in (block m₄ s)) (new_variable moment 0) old_variable (new_local moment))
          (S.values.variables moment k B locals)

      -- ── the row ─────────────────────────────────────────────────────────────────────────────────
      caller_same : rows_of m₁ me ≡ rows_of m₀ me
      caller_same = caller_row_stays to₁ S.may.slot S.may.apart

      names_same : bindings_of m₃ me ≡ bindings_of m₀ me
      names_same = ap (λ (r : Row). r.bindings) (caller_row_stays to₃ S.may.slot S.may.apart)

      is_called : call_at t head ≡ record { callee = callee; arguments = names_at t (head + 2) count }
      unfolding call_at
      is_called = rw (argument_count_lem S.may.field S.called S.opened, ← S.called)

      level_is : p.level ≡ suc (rows_of m₀ me).level
      level_is = S.parent.level ∙ ap (λ (r : Row). suc r.level) caller_same

      base_is : p.base ≡ (rows_of m₀ me).base + length (rows_of m₀ me).own
      base_is = S.parent.base ∙ ap (λ (r : Row). r.base + length r.own) caller_same

      low_is : p.low ≡ (rows_of m₀ me).low
      low_is = S.parent.low ∙ ap (λ (r : Row). r.low) caller_same

      bits_is : p.bits ≡ (rows_of m₀ me).bits - fork_bits n
      bits_is = S.parent.bits ∙ ap (λ (r : Row). r.bits - fork_bits n) caller_same

      pub whole_row : row_at (block m₄ s) ≡ child_row (table_listing t) moment (caller_at (rows_of m₀) (environment_of k m₀) me n) (call_at t head) i s
      unfolding row_at child_row caller_at nonzero kept_block working_block put_in
      whole_row =
          let apart : (k : ℕ) → k < 110 → block m₄ s k ≡ stored k = λ k h. word_stored k (λ e. omega arith) (λ x y. omega arith) in
          rw (
            is_called,
            apart 0 (omega arith),
            apart 104 (omega arith),
            apart 1 (omega arith),
            apart 105 (omega arith),
            apart 2 (omega arith),
            apart 106 (omega arith),
            apart 107 (omega arith),
            apart 108 (omega arith),
            apart 109 (omega arith),
            word_stored 111 (λ e. omega arith) (λ x y. omega arith),
            place_word,
            apart 4 (omega arith),
            S.named.bindings,
            names_same,
            own_variables_lem,
            S.opened.kinds,
            S.opened.own,
            S.parent.slot,
            level_is,
            base_is,
            low_is,
            bits_is,
          )
