-- What each step of `new_child` asks for follows from what the whole asks for, whatever the steps before left in block s.
use mathlib.Core.Path.{◌≡◌, refl, sym, subst, ◌∙◌}
use mathlib.Core.Bool.{true}
use mathlib.Core.List.{List}
use Prim.Native.Nat.{ℕ, ◌+◌, ◌≤◌, ◌<◌}
use native.Mathlib.Omega.{arith}
use lib.ListN.{length}
use Rattle.table.specs.Decode.{word, routine_entry}
use Rattle.table.specs.Entry.{ChildStands, NamesStand}
use Rattle.table.specs.Question6.{is_table}
use Rattle.table.proofs.Bounds.{bounds}
use Rattle.table.proofs.Reach.{arguments_by_number}
use Rattle.table_read.specs.Opened.{Opened}
use Rattle.engine_rows.specs.Rows.{Row, Rows}
use Rattle.engine_blocks.specs.Blocks.{block, rows_of}
use Rattle.engine_blocks.specs.Changes.{InBlock}
use Rattle.engine_evaluate.specs.Bound.{bindings_of}
use Rattle.engine_new_names.specs.Naming.{MayBind}
use Rattle.engine_new_names.specs.Passing.{MayPass}
use Rattle.engine_new_rows.specs.NewRow.{MayDivide}
use Rattle.engine_children.specs.NewChild.{MayMake}
use Rattle.engine_new_names.proofs.CallerNames.{caller_row_stays}

pub table_size_lem : (t : List ℕ) → is_table t ≡ true → length t ≡ 12288
table_size_lem t h = (bounds t h).words

-- There are at most 64 routines.
pub callee_small : {t : List ℕ} {names head callee : ℕ} → is_table t ≡ true → ChildStands t names head → callee ≡ word t (head + 1) → callee < 64
callee_small {t} h C e = omega (arith, (bounds t h).few, C.callee, e)

-- What a caller's division asks is said of its row alone.
pub divides_same : {rows rows' : Rows} {me n : ℕ} → rows' me ≡ rows me → MayDivide rows me n → MayDivide rows' me n
divides_same e D = record { level = rw e D.level; base = rw e D.base; some = D.some; most = D.most; bits = rw e D.bits; range = rw e D.range }

-- The child field has as many arguments as its routine takes.
pub argument_count_lem : {t : List ℕ} {names head callee count bits locals size : ℕ} → ChildStands t names head → callee ≡ word t (head + 1)
    → Opened t callee count bits locals size → word t (head + 0) ≡ count
argument_count_lem {t} {names} {head} {callee} C e O =
    let there : callee < word t 2 = rw e C.callee in
    let same : word t (head + 0) ≡ word t (routine_entry callee + 0) = rw e C.count in
    same ∙ sym (arguments_by_number t callee there) ∙ O.count

-- Nothing changed yet.
unchanged : (s : ℕ) (m : List ℕ) → InBlock s m m (block m s)
unchanged s m = record { size = refl; below = λ k h. refl; above = λ k h. refl; words = refl }

module _ {t m₀ : List ℕ} {me head i s n : ℕ} (M : MayMake t m₀ me head i s n) where
  pub head_inside : head + 2 ≤ 12288
  head_inside = omega (arith, M.field.arguments.inside)

  module _ {m : List ℕ} (p : InBlock s m₀ m (block m s)) where
    pub still_long : 12288 ≤ length m
    still_long = omega (arith, M.size, p.size)

    pub may_divide : MayDivide (rows_of m) me n
    may_divide = divides_same (caller_row_stays p M.slot M.apart) M.divides

    pub may_bind : {count locals : ℕ} → word t (head + 0) ≡ count → count + locals ≤ 16 → MayBind t m me s (head + 2) count locals
    may_bind {count} e few =
        record {
          size = still_long;
          table = table_size_lem t M.table;
          caller = M.caller;
          slot = M.slot;
          apart = M.apart;
          few = few;
          names =
              subst (λ (k : ℕ). NamesStand t (length (bindings_of m me)) (head + 2) k) e
              (subst (λ (r : Row). NamesStand t (length r.bindings) (head + 2) (word t (head + 0))) (sym (caller_row_stays p M.slot M.apart)) M.field.arguments);
        }

  pub may_pass : {count : ℕ} → word t (head + 0) ≡ count → count ≤ 16 → MayPass t m₀ me s (head + 2) count 0
  may_pass {count} e few =
      let room : count + 0 ≤ 16 = omega arith in record { binds = may_bind (unchanged s m₀) e room; blank = M.blank }
