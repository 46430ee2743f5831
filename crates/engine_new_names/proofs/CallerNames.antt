-- A change of a block that leaves its own variables' number alone leaves what the names of another routine stand for, if none leads there.
use mathlib.Core.Path.{◌≡◌, refl, sym, ap, ap₂, subst, ◌∙◌}
use mathlib.Core.List.{List}
use Prim.Native.Nat.{ℕ, ◌<◌}
use native.Mathlib.Decide.{ℕ_discrete}
use lib.ListN.{length}
use Rattle.walk.specs.State.{Variable}
use Rattle.walk.specs.Memory.{variable_at}
use Rattle.engine_rows.specs.Rows.{Owner, in_environment, in_slot, Row, Rows, variable_of, owner_of, named}
use Rattle.engine_blocks.specs.Blocks.{Block, row_at, rows_of, environment_of}
use Rattle.engine_blocks.specs.Store.{store_of}
use Rattle.engine_blocks.specs.Changes.{InBlock}
use Rattle.engine_variables.specs.Bindings.{variables_beside}
use Rattle.engine_blocks.proofs.RowChanges.{with_row_other, rows_in_block, environment_stays}
use Rattle.engine_evaluate.specs.Bound.{number_of, Bound, bindings_of, variable_named}

-- Rows and environment in which every owner's variables are the same.
module _ (rows rows' : Rows) (environment : List Variable) (same : (s : ℕ) → (rows' s).own ≡ (rows s).own) where
  variable_same : (o : Owner) → variable_of rows' environment o ≡ variable_of rows environment o
  unfolding variable_of
  variable_same (in_environment a) = refl
  variable_same (in_slot s i) = ap (λ (l : List Variable). variable_at l i) (same s)

  beside_same : (o : Owner) → variables_beside (record { rows = rows'; environment = environment }) o ≡ variables_beside (record { rows = rows; environment = environment }) o
  unfolding variables_beside
  beside_same (in_environment a) = refl
  beside_same (in_slot s i) = same s

  pub named_same : (bindings : List Owner) (name : ℕ) → named rows' environment bindings name ≡ named rows environment bindings name
  unfolding named
  named_same bindings name = variable_same (owner_of bindings name)

  pub bound_same : (bindings : List Owner) → Bound (record { rows = rows; environment = environment }) bindings → Bound (record { rows = rows'; environment = environment }) bindings
  bound_same bindings B =
      record { there = λ name h. subst (λ (l : List Variable). number_of (owner_of bindings name) < length l) (sym (beside_same (owner_of bindings name))) (B.there name h) }

module _ {s me : ℕ} {a m : List ℕ} {b : Block} (p : InBlock s a m b) (slot : s < 64) (apart : me ≡ s → ⊥) where
  pub caller_row_stays : rows_of m me ≡ rows_of a me
  caller_row_stays = ap (λ (rows : Rows). rows me) (rows_in_block p slot) ∙ with_row_other (rows_of a) s (row_at b) me apart

module _ {s me : ℕ} {a m : List ℕ} {b : Block} (p : InBlock s a m b) (slot : s < 64) (apart : me ≡ s → ⊥) (own : (rows_of m s).own ≡ (rows_of a s).own) where
  owns_same : (r : ℕ) → (rows_of m r).own ≡ (rows_of a r).own
  owns_same r = go (ℕ_discrete r s)
    where
      go : Dec (r ≡ s) → (rows_of m r).own ≡ (rows_of a r).own
      go (yes e) = subst (λ (x : ℕ). (rows_of m x).own ≡ (rows_of a x).own) (sym e) own
      go (no n) = ap (λ (x : Row). x.own) (ap (λ (rows : Rows). rows r) (rows_in_block p slot) ∙ with_row_other (rows_of a) s (row_at b) r n)

  pub caller_bindings_stay : bindings_of m me ≡ bindings_of a me
  caller_bindings_stay = ap (λ (x : Row). x.bindings) (caller_row_stays p slot apart)

  pub caller_names_stay : (n name : ℕ) → variable_named n m me name ≡ variable_named n a me name
  caller_names_stay n name =
      ap₂ (λ (e : List Variable) (l : List Owner). named (rows_of m) e l name) (environment_stays p slot n) caller_bindings_stay
      ∙ named_same (rows_of a) (rows_of m) (environment_of n a) owns_same (bindings_of a me) name

  pub caller_bound_stays : (n : ℕ) → Bound (store_of n a) (bindings_of a me) → Bound (store_of n m) (bindings_of m me)
  unfolding store_of
  caller_bound_stays n B =
      rw (environment_stays p slot n, caller_bindings_stay) (bound_same (rows_of a) (rows_of m) (environment_of n a) owns_same (bindings_of a me) B)
