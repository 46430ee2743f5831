-- The parent's live children counted: what else stays of its row, and what the fork then asks. Letters: a the words before, b the words after, u the running state.
use mathlib.Core.Path.{◌≡◌, refl, sym, ap, subst, ◌∙◌}
use mathlib.Core.Bool.{true}
use mathlib.Core.List.{List}
use Prim.Native.Nat.{ℕ, zero, suc, ◌+◌, ◌≤◌, ◌<◌}
use native.Mathlib.Decide.{ℕ_discrete}
use native.Mathlib.Omega.{arith}
use lib.ListN.{length}
use Rattle.walk.specs.State.{Variable}
use Rattle.engine_rows.specs.Rows.{Owner, in_environment, in_slot, Row, Rows, with_row, with_children, owner_of}
use Rattle.engine_rows.proofs.Children.{used_below}
use Rattle.engine_rows.proofs.Taking.{used_keep}
use Rattle.engine_blocks.specs.Blocks.{Block, block, rows_of, environment_of}
use Rattle.engine_blocks.specs.Store.{Store, store_of, with_slot}
use Rattle.engine_blocks.specs.Changes.{Changes, put_in}
use Rattle.engine_variables.specs.Bindings.{variables_beside}
use Rattle.table.specs.Entry.{ChildStands}
use Rattle.table.specs.Decode.{head_after}
use Rattle.engine_clean.specs.Clean.{Clean}
use Rattle.engine_clean.proofs.Whole.{slot_keeps_clean, working_slot}
use Rattle.engine_evaluate.specs.Bound.{number_of, Bound, bindings_of}
use Rattle.engine_new_rows.specs.NewRow.{MayDivide}
use Rattle.engine_children.specs.Fork.{MayFork}
use Rattle.engine_steps.specs.declared.running.Running.{Running}
use Rattle.engine_steps.proofs.Stores.{rows_changed_lem, environment_kept, row_changed, live_word}
use Rattle.engine_end_step.proofs.Joining.{row_elsewhere}
use Rattle.engine_fork.specs.Asked.{MayForkStep}

-- The parent's block with its children counted is clean.
pub counted_clean : {k : ℕ} {a b : List ℕ} (me n : ℕ) {change : Store → Store} → Changes me a b (put_in (block a me) 106 n) change
    → me < 64 → (rows_of a me).used ≡ true → Clean k a → Clean k b
counted_clean {a = a} me n q slot live clean =
    slot_keeps_clean q.in_block slot (working_slot (block a me) 106 n (omega arith) (live_word a me slot live) (clean.slots me slot)) clean

module _ {me : ℕ} {a b : List ℕ} {c : Block} (n : ℕ) (q : Changes me a b c (with_slot me (λ r. with_children r n))) where
  -- A field that the number of children does not touch.
  pub field_kept : {A : Type 0} (field : Row → A) → ((r : Row) → field (with_children r n) ≡ field r) → (s : ℕ) → field (rows_of b s) ≡ field (rows_of a s)
  field_kept field same s = go (ℕ_discrete s me)
    where
      go : Dec (s ≡ me) → field (rows_of b s) ≡ field (rows_of a s)
      go (yes e) = ap (λ (k : ℕ). field (rows_of b k)) e ∙ ap field (row_changed (λ r. with_children r n) q) ∙ same (rows_of a me) ∙ sym (ap (λ (k : ℕ). field (rows_of a k)) e)
      go (no d) = ap field (row_elsewhere (λ r. with_children r n) q s d)

  pub bindings_kept : bindings_of b me ≡ bindings_of a me
  unfolding with_children
  bindings_kept = field_kept (λ (r : Row). r.bindings) (λ r. refl) me

  own_kept : (s : ℕ) → (rows_of b s).own ≡ (rows_of a s).own
  unfolding with_children
  own_kept s = field_kept (λ (r : Row). r.own) (λ r. refl) s

  used_kept : (s : ℕ) → (rows_of b s).used ≡ (rows_of a s).used
  unfolding with_children
  used_kept s = field_kept (λ (r : Row). r.used) (λ r. refl) s

  beside_kept : (k : ℕ) (o : Owner) → variables_beside (store_of k b) o ≡ variables_beside (store_of k a) o
  unfolding variables_beside store_of
  beside_kept k (in_environment i) = environment_kept (λ r. with_children r n) q k
  beside_kept k (in_slot s i) = own_kept s

  pub bound_kept : (k : ℕ) → Bound (store_of k a) (bindings_of a me) → Bound (store_of k b) (bindings_of b me)
  bound_kept k h = rw bindings_kept (record {
    there = λ name l.
        let o = owner_of (bindings_of a me) name in
        let e : length (variables_beside (store_of k b) o) ≡ length (variables_beside (store_of k a) o) = ap length (beside_kept k o) in
        let d = h.there name l in
        omega arith;
  })

  divides_kept : MayDivide (rows_of a) me n → MayDivide (rows_of b) me n
  unfolding with_children
  divides_kept d =
      let e = row_changed (λ r. with_children r n) q in
      record {
        level = rw e d.level;
        base = rw e d.base;
        some = d.some;
        most = d.most;
        bits = rw e d.bits;
        range = rw e d.range;
      }

  used_same : used_below (rows_of b) 64 ≡ used_below (rows_of a) 64
  unfolding with_children
  used_same = ap (λ (rows : Rows). used_below rows 64) (rows_changed_lem (λ r. with_children r n) q) ∙ used_keep (rows_of a) me (with_children (rows_of a me) n) 64 refl

  pub may_fork : {t : List ℕ} {cells : ℕ} (u : Running) → u.me ≡ me → (may : MayForkStep t a u cells n) → (rows_of a me).level ≤ 9 → u.live + n ≤ 64
      → Clean may.variables b → MayFork t b me cells n
  may_fork {t} {cells} u here may level room clean =
      record {
        size = let e = q.outside.size in let h = may.pops.size in omega arith;
        table = may.table;
        caller = rw here at may.slot;
        live = used_kept me ∙ (rw here at may.live);
        fields = λ j h. rw bindings_kept (rw here at (may.fields j h));
        divides = divides_kept (rw here at (may.divides (rw here level)));
        room = let e = used_same in let f = may.counted in omega arith;
        variables = may.variables;
        clean = clean;
      }
