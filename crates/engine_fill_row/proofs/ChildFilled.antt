-- A child's row filled in, and one live child more in its parent's: the rows' own step. The letters are those of specs/Row.
use mathlib.Core.Path.{◌≡◌, sym, ap, ap₂, subst, ◌∙◌}
use mathlib.Core.Bool.{true}
use mathlib.Core.List.{List}
use Prim.Native.Nat.{ℕ, suc, ◌+◌, ◌-◌, ◌≤◌, ◌<◌}
use native.Mathlib.Numerals.{add-one}
use native.Mathlib.Omega.{arith}
use lib.ListN.{length}
use Rattle.listing.specs.Listing.{Listing, Call}
use Rattle.walk.specs.State.{Variable}
use Rattle.walk.specs.Walk.{routine_at, instruction_at, child_count}
use Rattle.table.specs.Decode.{word, call_at, names_at, size_of, table_listing}
use Rattle.table.specs.Entry.{ChildStands}
use Rattle.table.specs.Question6.{is_table}
use Rattle.engine_rows.specs.Rows.{Owner, Row, Rows, with_row, with_children}
use Rattle.engine_rows.specs.Engine.{child_bindings, Caller, caller_at}
use Rattle.engine_rows.specs.Records.{is_wait, calls_at, filled_row_lem}
use Rattle.engine_blocks.specs.Blocks.{block, rows_of, environment_of}
use Rattle.engine_blocks.specs.Store.{Store, store_of, with_slot}
use Rattle.engine_blocks.specs.Changes.{Changes, put_in}
use Rattle.engine_blocks.proofs.InBlocks.{same_outside, same_triggers}
use Rattle.engine_blocks.proofs.RowChanges.{row_of, with_row_same, with_row_other, rows_in_block, environment_stays}
use Rattle.engine_blocks.proofs.Staying.{outside_then, triggers_then}
use Rattle.engine_clean.specs.Clean.{Clean}
use Rattle.engine_clean.proofs.Whole.{slot_keeps_clean, working_slot}
use Rattle.engine_evaluate.specs.Bound.{bindings_of}
use Rattle.engine_new_rows.specs.declared.rows.Parent.{Parent}
use Rattle.engine_new_rows.specs.NewRow.{MayDivide, ParentIs, Reaches}
use Rattle.engine_new_rows.proofs.Priorities.{reaches_child}
use Rattle.engine_fill_row.specs.Filling.{MayFillChild, field_of}
use Rattle.engine_fill_row.specs.declared.field.Field.{Field}
use Rattle.engine_fill_row.specs.Field.{FieldIs}
use Rattle.engine_fill_row.specs.Row.{MayFillRow, working_row, RowFilled, child_working, ChildFilled}
use Rattle.engine_fill_row.proofs.CleanFilled.{in_use, filled_slot}
use Rattle.engine_fork_bits.specs.ForkBits.{fork_bits}

-- The kept row with its working words filled in is the row of the pass.
pub working_is_filled : (l : Listing) (caller : Caller) (c : Call) (x : Row) (s : ℕ) (q : Parent) → x.used ≡ true → x.level ≡ caller.level
    → q.slot ≡ caller.slot → q.base ≡ caller.base → q.low ≡ caller.low → q.bits ≡ caller.bits
    → working_row x q x.child (is_wait (instruction_at l c.callee x.place)) c.callee
    (child_bindings (routine_at l c.callee).kinds c.arguments (routine_at l c.callee).locals caller.bindings s 0)
    ≡ filled_row_lem l caller c x s
unfolding working_row filled_row_lem
working_is_filled l caller c x s q u v e f g h = rw (u, v, e, f, g, h)

module _ {t : List ℕ} (m₀ : List ℕ) {p s : ℕ} {f : Field} (M : MayFillChild t (rows_of m₀) p s) (I : FieldIs t (rows_of m₀) p s f) where
  abbrev listing : Listing
  listing = table_listing t

  pub count_divides : MayDivide (rows_of m₀) p f.count
  count_divides = subst (λ (n : ℕ). MayDivide (rows_of m₀) p n) (sym I.count) M.divides

  called : f.callee ≡ (field_of t (rows_of m₀) p s).callee
  unfolding call_at
  called = I.callee ∙ ap (λ (c : Call). c.callee) I.is

  module _ {m₁ : List ℕ} {n : ℕ} {q : Parent} (is : n ≡ (rows_of m₀ p).children) (P : ParentIs (rows_of m₀) p f.count q)
      (C : Changes p m₀ m₁ (put_in (block m₀ p) 106 (n + 1)) (with_slot p (λ (r : Row). with_children r (n + 1))))
    where
      counted : rows_of m₁ ≡ with_row (rows_of m₀) p (with_children (rows_of m₀ p) (suc (rows_of m₀ p).children))
      unfolding store_of with_slot
      counted =
          ap (λ (z : Store). z.rows) (C.store 0)
          ∙ ap (λ (k : ℕ). with_row (rows_of m₀) p (with_children (rows_of m₀ p) k)) (add-one n ∙ ap suc is)

      row_stays : rows_of m₁ s ≡ rows_of m₀ s
      row_stays = ap (λ (rows : Rows). rows s) counted ∙ with_row_other (rows_of m₀) p _ s (λ e. M.apart (sym e))

      names_stay : bindings_of m₁ p ≡ bindings_of m₀ p
      unfolding with_children
      names_stay = ap (λ (rows : Rows). (rows p).bindings) counted ∙ ap (λ (r : Row). r.bindings) (with_row_same (rows_of m₀) p _)

      pub may_fill_row : is_table t ≡ true → 12288 ≤ length m₀ → MayFillRow t m₁ p s f.head f.callee q
      may_fill_row table size =
          record {
            size = omega (arith, size, C.outside.size);
            table = table;
            slot = M.slot;
            parent = M.parent;
            apart = M.apart;
            field = subst (λ (l : List Owner). ChildStands t (length l) f.head) (sym names_stay) I.stands;
            called = I.callee;
            place =
                subst (λ (r : Row). r.place < size_of t f.callee) (sym row_stays)
                (subst (λ (c : ℕ). (rows_of m₀ s).place < size_of t c) (sym called) M.place);
            least = omega (arith, P.slot, M.parent);
            reaches = subst (λ (r : Row). Reaches q r.child) (sym row_stays) (reaches_child (rows_of m₀ s).child count_divides P I.numbered);
          }

      module _ {m₂ : List ℕ} (R : RowFilled m₁ s (child_working t m₁ p s f.head f.callee q) m₂) where
        -- by the row, the parent's names and the child field
        abbrev working : Row → List Owner → Call → Row
        working x names c =
            working_row x q x.child (is_wait (instruction_at listing c.callee x.place)) c.callee
            (child_bindings (routine_at listing c.callee).kinds c.arguments (routine_at listing c.callee).locals names s 0)

        by_field : child_working t m₁ p s f.head f.callee q ≡ working (rows_of m₁ s) (bindings_of m₁ p) (call_at t f.head)
        unfolding call_at
        by_field =
            ap (λ (callee : ℕ). working (rows_of m₁ s) (bindings_of m₁ p) (record { callee = callee; arguments = names_at t (f.head + 2) (word t (f.head + 0)) })) I.callee

        module _ (environment : List Variable) where
          abbrev caller : Caller
          caller = caller_at (rows_of m₀) environment p (child_count (calls_at listing (rows_of m₀ p)))

          filled : working (rows_of m₀ s) (bindings_of m₀ p) (field_of t (rows_of m₀) p s) ≡ filled_row_lem listing caller (field_of t (rows_of m₀) p s) (rows_of m₀ s) s
          unfolding caller_at
          filled =
              working_is_filled listing caller (field_of t (rows_of m₀) p s) (rows_of m₀ s) s q M.live M.level P.slot P.base P.low
              (P.bits ∙ ap (λ (n : ℕ). (rows_of m₀ p).bits - fork_bits n) I.count)

          row_is : rows_of m₂ s ≡ filled_row_lem listing caller (field_of t (rows_of m₀) p s) (rows_of m₀ s) s
          row_is =
              R.row ∙ by_field ∙ ap₂ (λ (x : Row) (l : List Owner). working x l (call_at t f.head)) row_stays names_stay
              ∙ ap (working (rows_of m₀ s) (bindings_of m₀ p)) I.is ∙ filled

          rows_are : rows_of m₂ ≡ with_row (with_row (rows_of m₀) p (with_children (rows_of m₀ p) (suc (rows_of m₀ p).children))) s
              (filled_row_lem listing caller (field_of t (rows_of m₀) p s) (rows_of m₀ s) s)
          rows_are =
              rows_in_block R.in_block M.slot
              ∙ ap₂ (λ (rows : Rows) (r : Row). with_row rows s r) counted (sym (row_of m₂ s M.slot) ∙ row_is)

        environment_same : (k : ℕ) → environment_of k m₂ ≡ environment_of k m₀
        unfolding store_of with_slot
        environment_same k = environment_stays R.in_block M.slot k ∙ ap (λ (z : Store). z.environment) (C.store k)

        stays_clean : (k : ℕ) → Clean k m₀ → Clean k m₂
        stays_clean k T =
            let T₁ : Clean k m₁ =
            slot_keeps_clean C.in_block M.parent
            (working_slot (block m₀ p) 106 (n + 1) (omega arith) (in_use m₀ p M.parent M.live_parent) (T.slots p M.parent)) T in
            slot_keeps_clean R.in_block M.slot
            (filled_slot (block m₁ s) (block m₂ s) (λ j h. R.kept j (λ x y. omega arith))
            (in_use m₁ s M.slot (ap (λ (r : Row). r.used) row_stays ∙ M.live)) (T₁.slots s M.slot)) T₁

        pub child_filled : ChildFilled t m₀ p s m₂
        child_filled =
            record {
              rows = rows_are;
              environment = environment_same;
              outside = outside_then C.outside (same_outside R.in_block (omega (arith, M.slot)));
              triggers = triggers_then C.triggers (same_triggers R.in_block (λ j h. R.kept j (λ x y. omega arith)));
              clean = stays_clean;
            }
