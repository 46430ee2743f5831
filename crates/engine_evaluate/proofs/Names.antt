-- What is read through the binding of a name is the variable of that name.
use mathlib.Core.Path.{◌≡◌, refl, ap, subst, ◌∙◌}
use mathlib.Core.Bool.{Bool, true, false, cond}
use mathlib.Core.List.{List}
use Prim.Native.Nat.{ℕ, ◌≤◌, ◌<◌, min}
use native.Mathlib.Omega.{arith}
use lib.Dec.{ltb}
use lib.ListN.{length}
use Rattle.walk.specs.State.{Variable}
use Rattle.engine_rows.specs.Rows.{Owner, Row, in_environment, in_slot, variable_of, owner_of, named}
use Rattle.engine_blocks.specs.Blocks.{block, owner_at, owner_in, bindings_in, row_at, rows_of, environment_of}
use Rattle.engine_blocks.specs.Store.{store_of, variable_from}
use Rattle.engine_variables.specs.Bindings.{BoundTo, ReadOf, variables_beside}
use Rattle.engine_variables.specs.declared.Binding.{Binding}
use Rattle.engine_blocks.proofs.Tabulated.{length_tabulate}
use Rattle.engine_blocks.proofs.RowChanges.{row_of}
use Rattle.engine_evaluate.specs.Bound.{number_of, bindings_of, FromNames}

-- "16 names a routine"
pub names_few : (words : List ℕ) (me : ℕ) → me < 64 → length (bindings_of words me) ≤ 16
unfolding row_at bindings_in
names_few words me h =
    let few : min (block words me 110) 16 ≤ 16 = omega arith in
    let e : length (bindings_of words me) ≡ min (block words me 110) 16 =
    ap (λ (r : Row). length r.bindings) (row_of words me h) ∙ length_tabulate 0 (min (block words me 110) 16) (owner_in (block words me)) in
    omega arith

number_at : (s index : ℕ) → number_of (owner_at s index) ≡ index
unfolding number_of owner_at
number_at s index = go (ltb s 64)
  where
    go : (b : Bool) → number_of (cond b (in_slot s index) (in_environment index)) ≡ index
    go true = refl
    go false = refl

module _ {A : Type 0} (words : List ℕ) (me name : ℕ) (b : Binding) (field : Variable → A) (r : A) where
  pub read_by_name : BoundTo (rows_of words me) name b → ReadOf words b.block b.index field r → name < length (bindings_of words me)
      → FromNames words me (λ names. field (names name)) r
  unfolding named variable_from store_of
  read_by_name bound read there = record {
    equal = λ n all-bound.
        let e : owner_at b.block b.index ≡ owner_of (bindings_of words me) name = bound.owner there in
        let few : b.index < length (variables_beside (store_of n words) (owner_at b.block b.index)) =
        subst (λ (i : ℕ). i < length (variables_beside (store_of n words) (owner_at b.block b.index))) (number_at b.block b.index)
        (rw e (all-bound.there name there)) in
        read.owned n few ∙ ap (λ (o : Owner). field (variable_of (rows_of words) (environment_of n words) o)) e;
  }
