-- The loop that copies the values of arguments by value: what holds before each argument. The letters are those of specs/Passing.
use mathlib.Core.Path.{◌≡◌, refl, sym, ap, ◌∙◌}
use mathlib.Core.Bool.{cond}
use mathlib.Core.List.{List, [], ◌∷◌, ◌++◌}
use Prim.Native.Nat.{ℕ, suc, ◌+◌, ◌*◌, ◌-◌, ◌/◌, ◌%◌, ◌≤◌, ◌<◌}
use native.Mathlib.Numerals.{add-one}
use native.Mathlib.Omega.{arith}
use native.Mathlib.Decide.{ℕ_discrete}
use lib.Dec.{eqb}
use lib.ListN.{length}
use borrow.Author.Tests.{eq-eqb, ne_eqb}
use Rattle.listing.specs.Listing.{by_reference, by_value}
use Rattle.walk.specs.State.{Variable, new_variable}
use Rattle.table.specs.Decode.{name_at, cells_at, names_at, kinds_of_bits}
use Rattle.table.proofs.Entry.{name_there}
use Rattle.machine.specs.Words.{waiting_of}
use Rattle.engine_rows.specs.Rows.{Row}
use Rattle.engine_blocks.specs.Tabulate.{tabulate_from}
use Rattle.engine_blocks.specs.Blocks.{Block, block, nonzero, variable_in, variables_in, row_at, rows_of}
use Rattle.engine_blocks.specs.Store.{store_of}
use Rattle.engine_blocks.specs.Changes.{InBlock, put_in}
use Rattle.engine_blocks.proofs.InBlocks.{in_block_start}
use Rattle.engine_blocks.proofs.RowChanges.{row_of, variable_same}
use Rattle.engine_evaluate.specs.Bound.{Bound, bindings_of, variable_named, FromNames}
use Rattle.engine_new_names.specs.Passing.{MayPass, ValuesPassed, ValuePassed}
use Rattle.engine_new_names.proofs.Lists.{tabulate_next, moved_over}
use Rattle.engine_new_names.proofs.Naming.{stored_word, other_word}
use Rattle.engine_new_names.proofs.OwnNames.{changed_then}
use Rattle.engine_new_names.proofs.CallerNames.{caller_bindings_stay, caller_names_stay, caller_bound_stays}
use Rattle.walk.specs.Memory.{own_variables}

-- a variable of which only the value is no 0
pub fresh_variable : (moment : ℕ) (b : Block) (i v : ℕ) → b (8 + i * 6) ≡ v → b (9 + i * 6) ≡ 0 → b (10 + i * 6) ≡ 0 → b (11 + i * 6) ≡ 0 → b (128 + i) ≡ 0 → variable_in b i ≡ new_variable moment v
unfolding variable_in new_variable nonzero waiting_of
fresh_variable moment b i v p q x y z = rw (p, q, x, y, z)

-- a slot with no variables
pub no_variables : (words : List ℕ) (s : ℕ) → s < 64 → block words s 4 ≡ 0 → (rows_of words s).own ≡ []
unfolding row_at variables_in tabulate_from
no_variables words s h e = ap (λ (r : Row). r.own) (row_of words s h) ∙ ap (variables_in (block words s)) e

-- j arguments are passed, `own` of them by value; `rest` has the kinds of the others
pub record Values (t before : List ℕ) (me s at count bits : ℕ) (m : List ℕ) (j rest own : ℕ) : Type 0 where
  pub in_block : InBlock s before m (block m s)
  pub others : (k : ℕ) → ((i : ℕ) → i < own → k ≡ 8 + i * 6 → ⊥) → block m s k ≡ block before s k
  pub within : j ≤ count
  pub few : own ≤ j
  pub variables : (moment n : ℕ) → Bound (store_of n before) (bindings_of before me) → (locals : ℕ)
      → tabulate_from 0 own (variable_in (block m s)) ++ own_variables moment (kinds_of_bits (count - j) rest) (names_at t (at + 2 * j) (count - j)) locals (variable_named n before me)
      ≡ own_variables moment (kinds_of_bits count bits) (names_at t at count) locals (variable_named n before me)

module _ {t before : List ℕ} {me s at count bits : ℕ} (M : MayPass t before me s at count 0) where
  pub values_start : Values t before me s at count bits before 0 bits 0
  unfolding tabulate_from
  values_start =
      let e : at + 2 * 0 ≡ at = omega arith in
      let z : count - 0 ≡ count = omega arith in
      record { in_block = in_block_start before s; others = λ k h. refl; within = omega arith; few = omega arith; variables = λ moment n B locals. rw (e, z) }

  module _ {m : List ℕ} {j rest own : ℕ} (Vs : Values t before me s at count bits m j rest own) where
    -- the number of its variables is not stored yet
    none_yet : (rows_of m s).own ≡ (rows_of before s).own
    none_yet =
        no_variables m s M.binds.slot (Vs.others 4 (λ i h e. omega arith) ∙ M.blank 4 (omega arith)) ∙ sym (no_variables before s M.binds.slot (M.blank 4 (omega arith)))

    pub value_there : j < count → name_at t (at + 2 * j) < length (bindings_of m me)
    value_there more =
        rw (caller_bindings_stay Vs.in_block M.binds.slot M.binds.apart none_yet)
        (name_there t (length (bindings_of before me)) at count M.binds.names j more)

    module _ {after : List ℕ} {r : ℕ} (more : j < count) (P : ValuePassed m me s (name_at t (at + 2 * j)) (rest % 2) own after r) where
      abbrev left : ℕ
      left = count - suc j

      module _ (moment n : ℕ) (B : Bound (store_of n before) (bindings_of before me)) (locals : ℕ) where
        abbrev whole : List Variable
        whole = own_variables moment (kinds_of_bits count bits) (names_at t at count) locals (variable_named n before me)

        abbrev remaining : List Variable
        remaining = own_variables moment (kinds_of_bits left (rest / 2)) (names_at t (at + 2 * suc j) left) locals (variable_named n before me)

        split : tabulate_from 0 own (variable_in (block m s)) ++ own_variables moment (cond (eqb (rest % 2) 1) by_reference by_value ∷ kinds_of_bits left (rest / 2))
            (name_at t (at + 2 * j) ∷ names_at t (at + 2 * suc j) left) locals (variable_named n before me) ≡ whole
        unfolding kinds_of_bits cells_at
        split =
            let e : count - j ≡ suc left = omega arith in
            let f : (at + 2 * j) + 2 ≡ at + 2 * suc j = omega arith in
            rw (e, f) at (Vs.variables moment n B locals)

        -- the words of the variable that comes next are 0, all but its value
        zero_word : (k : ℕ) → k < 144 → ((i : ℕ) → i < suc own → k ≡ 8 + i * 6 → ⊥) → block after s k ≡ 0
        zero_word k l h = P.others k (h own (omega arith)) ∙ Vs.others k (λ i x. h i (omega arith)) ∙ M.blank k l

        next_variable : (rest % 2 ≡ 1 → ⊥) → variable_in (block after s) own ≡ new_variable moment (variable_named n before me (name_at t (at + 2 * j))).value
        next_variable v =
            let room : own < 16 = omega (arith, M.binds.few, Vs.few) in
            fresh_variable moment (block after s) own _
            ((P.value v).1 n (caller_bound_stays Vs.in_block M.binds.slot M.binds.apart none_yet n B)
            ∙ ap (λ (x : Variable). x.value) (caller_names_stay Vs.in_block M.binds.slot M.binds.apart none_yet n (name_at t (at + 2 * j))))
            (zero_word (9 + own * 6) (omega arith) (λ i h e. omega arith)) (zero_word (10 + own * 6) (omega arith) (λ i h e. omega arith))
            (zero_word (11 + own * 6) (omega arith) (λ i h e. omega arith)) (zero_word (128 + own) (omega arith) (λ i h e. omega arith))

        old_variable : (i : ℕ) → i < own → variable_in (block after s) i ≡ variable_in (block m s) i
        old_variable i h =
            let room : own < 16 = omega (arith, M.binds.few, Vs.few) in
            variable_same (block m s) (block after s) i (P.others (8 + i * 6) (λ e. omega arith)) (P.others (9 + i * 6) (λ e. omega arith))
            (P.others (10 + i * 6) (λ e. omega arith)) (P.others (11 + i * 6) (λ e. omega arith)) (P.others (128 + i) (λ e. omega arith))

        by_kind : Dec (rest % 2 ≡ 1) → tabulate_from 0 r (variable_in (block after s)) ++ remaining ≡ whole
        unfolding own_variables
        by_kind (yes e) = rw ((P.reference e).0, (P.reference e).1) (rw (eq-eqb (rest % 2) 1 e) at split)
        by_kind (no v) =
            rw (
              (P.value v).0,
              add-one own,
              tabulate_next own (variable_in (block m s)) (variable_in (block after s)) (new_variable moment (variable_named n before me (name_at t (at + 2 * j))).value) old_variable (next_variable v),
              moved_over,
            )
            (rw (ne_eqb (rest % 2) 1 v) at split)

      others_then : Dec (rest % 2 ≡ 1) → (k : ℕ) → ((i : ℕ) → i < r → k ≡ 8 + i * 6 → ⊥) → block after s k ≡ block before s k
      others_then (yes e) k h = ap (λ (b : Block). b k) (P.reference e).1 ∙ Vs.others k (λ i x. h i (rw (P.reference e).0 x))
      others_then (no v) k h =
          let size = (P.value v).0 in
          P.others k (h own (omega arith)) ∙ Vs.others k (λ i x. h i (omega arith))

      few_then : Dec (rest % 2 ≡ 1) → r ≤ suc j
      few_then (yes e) = omega (arith, (P.reference e).0, Vs.few)
      few_then (no v) = omega (arith, (P.value v).0, Vs.few)

      pub values_next : Values t before me s at count bits after (j + 1) (rest / 2) r
      values_next =
          rw (add-one j)
          (record {
            in_block = changed_then Vs.in_block P.in_block;
            others = others_then (ℕ_discrete (rest % 2) 1);
            within = omega arith;
            few = few_then (ℕ_discrete (rest % 2) 1);
            variables = λ moment n B locals. by_kind moment n B locals (ℕ_discrete (rest % 2) 1);
          })

  pub values_end : {m : List ℕ} {j rest own : ℕ} → Values t before me s at count bits m j rest own → count ≤ j → ValuesPassed t before me s at count bits m own
  unfolding kinds_of_bits own_variables
  values_end {m} {j} {rest} {own} Vs none =
      let e : j ≡ count = omega (arith, Vs.within, none) in
      let z : count - count ≡ 0 = omega arith in
      record {
        in_block = Vs.in_block;
        others = Vs.others;
        few = rw e at Vs.few;
        variables = λ moment n B locals. rw (e, z) at (Vs.variables moment n B locals);
      }

-- ── one argument ──────────────────────────────────────────────────────────────────────────────────
pub reference_passed : (m : List ℕ) {me s name bit own : ℕ} → bit ≡ 1 → ValuePassed m me s name bit own m own
reference_passed m {s = s} e =
    record { in_block = in_block_start m s; others = λ k h. refl; reference = λ q. (refl, refl); value = λ n. absurd (n e) }

pub value_passed : {m after : List ℕ} {me s name bit own v : ℕ} → (bit ≡ 1 → ⊥) → FromNames m me (λ names. (names name).value) v
    → InBlock s m after (put_in (block m s) (8 + own * 6) v) → ValuePassed m me s name bit own after (own + 1)
value_passed {m} {after} {s = s} {own = own} {v = v} n F p =
    record {
      in_block = changed_then (in_block_start m s) p;
      others = λ k h. other_word s (8 + own * 6) v k p h;
      reference = λ e. absurd (n e);
      value = λ q. (refl, λ k B. stored_word s (8 + own * 6) v p ∙ F.equal k B);
    }
