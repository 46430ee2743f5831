-- The variable of a name is changed and the routine goes on: `S` and `A`.
-- Letters: a the words before, b with the variable changed, m with the place too, u the running state, s and i the variable's block and index.
use mathlib.Core.Path.{◌≡◌, refl, ap, ◌∙◌}
use mathlib.Core.List.{List}
use Prim.Native.Nat.{ℕ, suc, ◌≤◌, ◌<◌, min}
use native.Mathlib.Decide.{dec_lt, ℕ_discrete}
use native.Mathlib.Omega.{arith}
use lib.ListN.{length}
use borrow.Author.Tests.{lt-ltb}
use Rattle.walk.specs.State.{Variable}
use Rattle.engine_rows.specs.Rows.{Owner, in_environment, in_slot, Row, Rows, at_place, owner_of, with_own, with_row, rows_with, environment_with, named}
use Rattle.engine_blocks.specs.Blocks.{Block, block, owner_at, variable_in, variables_in, row_at, rows_of, environment_of}
use Rattle.engine_blocks.specs.Store.{Store, store_of, with_slot, with_variable, variable_from}
use Rattle.engine_blocks.specs.Changes.{Changes, placed_block, assigned_block, scheduled_block, queued_block}
use Rattle.engine_variables.specs.Bindings.{BoundTo, variables_beside}
use Rattle.engine_variables.specs.declared.Binding.{Binding}
use Rattle.engine_blocks.proofs.RowChanges.{row_of, with_row_same, with_row_other}
use Rattle.engine_blocks.proofs.Tabulated.{length_tabulate}
use Rattle.engine_clean.specs.Clean.{CleanSlot, CleanEnvironment, Clean}
use Rattle.engine_clean.proofs.Whole.{slot_keeps_clean, environment_keeps_clean, assigned_slot, scheduled_slot, assigned_environment, scheduled_environment}
use Rattle.engine_evaluate.specs.Bound.{number_of, bindings_of, Bound}
use Rattle.engine_steps.specs.Outcome.{ChangesName}
use Rattle.engine_steps.proofs.Stores.{change_stays, stays_then, placed_clean}

-- ── a variable that is there lies among its block's ───────────────────────────────────────────────
-- A block's variables are among so many: a slot's by its own count, the environment's by n.
pub inside_slot : (n : ℕ) (words : List ℕ) (s i : ℕ) → s < 64 → number_of (owner_at s i) < length (variables_beside (store_of n words) (owner_at s i)) → i < block words s 4
unfolding number_of owner_at variables_beside store_of row_at variables_in
inside_slot n words s i h l =
    let few : i < length (rows_of words s).own = rw (lt-ltb s 64 h) at l in
    let e : length (rows_of words s).own ≡ min (block words s 4) 16 =
    ap (λ (r : Row). length r.own) (row_of words s h) ∙ length_tabulate 0 (min (block words s 4) 16) (variable_in (block words s)) in
    omega arith

pub inside_environment : (n : ℕ) (words : List ℕ) (i : ℕ) → number_of (owner_at 64 i) < length (variables_beside (store_of n words) (owner_at 64 i)) → i < n
unfolding number_of owner_at variables_beside store_of environment_of variables_in
inside_environment n words i l =
    let e : length (environment_of n words) ≡ min n 16 = length_tabulate 0 (min n 16) (variable_in (block words 64)) in
    let few : i < length (environment_of n words) = l in
    omega arith

-- A change of a variable that keeps its block clean, in a slot or in the environment, keeps all blocks clean.
pub variable_clean : {a b : List ℕ} {s i n : ℕ} (changed : Block → Block) (change : Store → Store) → Changes s a b (changed (block a s)) change → s ≤ 64
    → number_of (owner_at s i) < length (variables_beside (store_of n a) (owner_at s i))
    → ((c : Block) → CleanSlot c → i < c 4 → CleanSlot (changed c)) → ((c : Block) → CleanEnvironment n c → i < n → CleanEnvironment n (changed c))
    → Clean n a → Clean n b
variable_clean {a} {b} {s} {i} {n} changed change p h there slot environment clean = go (dec_lt s 64)
  where
    go : Dec (s < 64) → Clean n b
    go (yes l) = slot_keeps_clean p.in_block l (slot (block a s) (clean.slots s l) (inside_slot n a s i l there)) clean
    go (no l) =
        let e : s ≡ 64 = omega arith in
        let q : Changes 64 a b (changed (block a 64)) change = rw e at p in
        let t : number_of (owner_at 64 i) < length (variables_beside (store_of n a) (owner_at 64 i)) = rw e at there in
        environment_keeps_clean q.in_block (environment (block a 64) clean.environment (inside_environment n a i t)) clean

module _ {a b : List ℕ} {s n : ℕ} (i : ℕ) (h : s ≤ 64) (there : number_of (owner_at s i) < length (variables_beside (store_of n a) (owner_at s i))) where
  pub assigned_all : {change : Store → Store} (v : ℕ) → Changes s a b (assigned_block i v (block a s)) change → Clean n a → Clean n b
  assigned_all {change} v p =
      variable_clean (assigned_block i v) change p h there (λ c t l. assigned_slot c i t l v) (λ c t l. assigned_environment n c i t l v)

  pub scheduled_all : {change : Store → Store} (t v : ℕ) → 0 < t → Changes s a b (queued_block (scheduled_block i t v (block a s))) change → Clean n a → Clean n b
  scheduled_all {change} t v pos p =
      variable_clean (λ c. queued_block (scheduled_block i t v c)) change p h there (λ c d l. scheduled_slot c i d l t v pos) (λ c d l. scheduled_environment n c i d l t v pos)

-- ── through a name's binding ──────────────────────────────────────────────────────────────────────
module _ {a b m : List ℕ} (me : ℕ) (name : ℕ) (binding : Binding) (bound : BoundTo (rows_of a me) name binding)
    (few : name < length (bindings_of a me)) (small : me < 64) {c : Block} (change : Variable → Variable)
    (p : Changes binding.block a b c (with_variable (owner_at binding.block binding.index) change))
    (q : Changes me b m (placed_block (block b me) (suc (rows_of a me).place)) (with_slot me (λ row. at_place row (suc (rows_of a me).place)))) where
  pub name_there : (n : ℕ) → Bound (store_of n a) (bindings_of a me)
      → number_of (owner_at binding.block binding.index) < length (variables_beside (store_of n a) (owner_at binding.block binding.index))
  name_there n all = rw (bound.owner few) (all.there name few)

  pub changes_name : ((n : ℕ) → number_of (owner_at binding.block binding.index) < length (variables_beside (store_of n a) (owner_at binding.block binding.index))
      → Clean n a → Clean n b) → ChangesName a m me name change
  changes_name keeps =
      record {
        store = λ n.
            q.store n ∙ ap (with_slot me (λ (row : Row). at_place row (suc (rows_of a me).place))) (p.store n ∙
            ap (λ (o : Owner). with_variable o change (store_of n a)) (bound.owner few));
        stays = stays_then (change_stays p) (change_stays q);
        clean = λ n all used clean. placed_clean (suc (rows_of a me).place) q small used (keeps n (name_there n all) clean);
      }

-- ── a variable changed in its row ─────────────────────────────────────────────────────────────────
pub same_routine : (σ : Rows) (o : Owner) (x : Variable) (s : ℕ) → (rows_with σ o x s).routine ≡ (σ s).routine
unfolding rows_with with_own
same_routine σ (in_environment a) x s = refl
same_routine σ (in_slot p i) x s = go (ℕ_discrete s p)
  where
    go : Dec (s ≡ p) → (rows_with σ (in_slot p i) x s).routine ≡ (σ s).routine
    go (yes e) = rw e (ap (λ (r : Row). r.routine) (with_row_same σ p _))
    go (no d) = ap (λ (r : Row). r.routine) (with_row_other σ p _ s d)

-- ── rows and environment after a name's change ────────────────────────────────────────────────────
-- The variable that the name stands for, changed.
abbrev pub new_variable : List ℕ → ℕ → ℕ → (Variable → Variable) → ℕ → Variable
new_variable a me name change n = change (named (rows_of a) (environment_of n a) (bindings_of a me) name)

module _ {a m : List ℕ} {me : ℕ} {name : ℕ} {change : Variable → Variable} (p : ChangesName a m me name change) (n : ℕ) where
  pub rows_named : rows_of m ≡
      with_row (rows_with (rows_of a) (owner_of (bindings_of a me) name) (new_variable a me name change n)) me
      (at_place (rows_with (rows_of a) (owner_of (bindings_of a me) name) (new_variable a me name change n) me) (suc (rows_of a me).place))
  unfolding store_of with_slot with_variable variable_from named
  rows_named = ap (λ (x : Store). x.rows) (p.store n)

  pub environment_named : environment_of n m ≡ environment_with (owner_of (bindings_of a me) name) (environment_of n a) (new_variable a me name change n)
  unfolding store_of with_slot with_variable variable_from named
  environment_named = ap (λ (x : Store). x.environment) (p.store n)

  pub routine_named : (rows_of m me).routine ≡ (rows_of a me).routine
  unfolding store_of with_slot with_variable at_place
  routine_named =
      ap (λ (x : Store). (x.rows me).routine) (p.store n) ∙ ap (λ (r : Row). r.routine) (with_row_same _ me _) ∙
      same_routine (rows_of a) (owner_of (bindings_of a me) name) _ me

  pub place_named : (rows_of m me).place ≡ suc (rows_of a me).place
  unfolding store_of with_slot with_variable at_place
  place_named = ap (λ (x : Store). (x.rows me).place) (p.store n) ∙ ap (λ (r : Row). r.place) (with_row_same _ me _)
