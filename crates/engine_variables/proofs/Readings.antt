-- What is read of a variable and of a binding, as it stands in the rows and the environment.
use mathlib.Core.List.{List}
use mathlib.Core.Path.{◌≡◌, refl, sym, ap, subst, ◌∙◌}
use Prim.Native.Nat.{ℕ, zero, suc, ◌+◌, ◌/◌, ◌%◌, ◌≤◌, ◌<◌, min}
use native.Mathlib.Decide.{dec_lt}
use native.Mathlib.Omega.{arith}
use lib.ListN.{length}
use borrow.Author.Tests.{lt-ltb, le-ltb}
use Rattle.walk.specs.State.{Variable}
use Rattle.std.specs.Prelude.{Some, None}
use Rattle.std.specs.declared.option.Option.{Option}
use Rattle.words.specs.declared.moment.Moment.{Moment}
use Rattle.machine.specs.Layout.{waiting_moment}
use Rattle.machine.specs.Words.{waiting_of}
use Rattle.engine_rows.specs.Rows.{variable_of, owner_of}
use Rattle.engine_blocks.proofs.RowChanges.{row_of}
use Rattle.engine_blocks.proofs.Tabulated.{get_d_tabulate, length_tabulate}
use Rattle.engine_variables.proofs.VariableChanges.{variable_listed}
use Rattle.engine_variables.specs.Bindings.{variables_beside, ReadOf, due_moment}
use Rattle.engine_blocks.specs.Blocks.{Block, block, variable_in, variables_in, owner_at, owner_in, bindings_in, row_at, rows_of, environment_of}
use Rattle.engine_blocks.specs.Store.{store_of, variable_from}

-- The moment of a waiting write, 0 without one.
pub moment_of_lem : (d v : ℕ) → waiting_moment (waiting_of d v) ≡ d
unfolding waiting_moment waiting_of
moment_of_lem zero v = refl
moment_of_lem (suc d) v = refl

-- The moment of a waiting write that two words tell.
pub due_none : (d v : ℕ) → d ≡ 0 → None ≡ due_moment (waiting_of d v)
unfolding due_moment waiting_of
due_none zero v h = refl
due_none (suc d) v h = absurd (omega arith)

pub due_some : (d v : ℕ) → (d ≡ 0 → ⊥) → Some (record { 0 = d }) ≡ due_moment (waiting_of d v)
unfolding due_moment waiting_of
due_some zero v h = absurd (h refl)
due_some (suc d) v h = refl

-- That moment as a number, which is 0 for none.
unfoldable pub number_due : Option Moment → ℕ
number_due None = 0
number_due (Some t) = t.0

pub number_of_due : (d v : ℕ) → number_due (due_moment (waiting_of d v)) ≡ d
unfolding number_due due_moment waiting_of
number_of_due zero v = refl
number_of_due (suc d) v = refl

-- ── the owner's variable ──────────────────────────────────────────────────────────────────────────
pub length_variables : (b : Block) (n : ℕ) → length (variables_in b n) ≡ min n 16
unfolding variables_in
length_variables b n = length_tabulate 0 (min n 16) (variable_in b)

in_slot_lem : (words : List ℕ) (n s i : ℕ) → s < 64 → i < length (variables_beside (store_of n words) (owner_at s i))
    → variable_from (store_of n words) (owner_at s i) ≡ variable_in (block words s) i
unfolding variable_from variable_of variables_beside owner_at store_of row_at
in_slot_lem words n s i l h =
    let few : i < length (rows_of words s).own = rw (lt-ltb s 64 l) at h in
    let long : i < min (block words s 4) 16 = rw (row_of words s l, length_variables (block words s) (block words s 4)) at few in
    rw (lt-ltb s 64 l, row_of words s l) (variable_listed (block words s) (block words s 4) i long)

in_environment_lem : (words : List ℕ) (n i : ℕ) → i < length (variables_beside (store_of n words) (owner_at 64 i))
    → variable_from (store_of n words) (owner_at 64 i) ≡ variable_in (block words 64) i
unfolding variable_from variable_of variables_beside owner_at store_of environment_of
in_environment_lem words n i h =
    let few : i < min n 16 = rw (length_variables (block words 64) n) at h in variable_listed (block words 64) n i few

pub variable_of_lem : (words : List ℕ) (n s i : ℕ) → s ≤ 64 → i < length (variables_beside (store_of n words) (owner_at s i))
    → variable_from (store_of n words) (owner_at s i) ≡ variable_in (block words s) i
variable_of_lem words n s i h few = go (dec_lt s 64)
  where
    go : Dec (s < 64) → variable_from (store_of n words) (owner_at s i) ≡ variable_in (block words s) i
    go (yes l) = in_slot_lem words n s i l few
    go (no l) =
        let e : 64 ≡ s = omega arith in
        subst (λ (z : ℕ). i < length (variables_beside (store_of n words) (owner_at z i)) → variable_from (store_of n words) (owner_at z i) ≡ variable_in (block words z) i) e
        (in_environment_lem words n i) few

pub read_of : {A : Type 0} (field : Variable → A) (words : List ℕ) (s i : ℕ) (r : A) → s ≤ 64 → r ≡ field (variable_in (block words s) i) → ReadOf words s i field r
read_of field words s i r h e = record { word = e; owned = λ n few. e ∙ ap field (sym (variable_of_lem words n s i h few)) }

-- ── the binding of a name ─────────────────────────────────────────────────────────────────────────
pub binding_of : (words : List ℕ) (s name : ℕ) → s < 64 → name < length (rows_of words s).bindings
    → owner_at (block words s (112 + name) / 16) (block words s (112 + name) % 16) ≡ owner_of (rows_of words s).bindings name
unfolding row_at bindings_in owner_in owner_of
binding_of words s name h few =
    let long : name < min (block words s 110) 16 =
    rw (row_of words s h, length_tabulate 0 (min (block words s 110) 16) (owner_in (block words s))) at few in
    rw (row_of words s h) (sym (get_d_tabulate (min (block words s 110) 16) (owner_in (block words s)) name _ long))

owner_past : (s i : ℕ) → 64 ≤ s → owner_at 64 i ≡ owner_at s i
unfolding owner_at
owner_past s i h = rw (le-ltb s 64 h)

-- A number past the slots is the environment's, as 64 is.
pub owner_capped : (s i : ℕ) → owner_at (min s 64) i ≡ owner_at s i
owner_capped s i = go (dec_lt s 64)
  where
    go : Dec (s < 64) → owner_at (min s 64) i ≡ owner_at s i
    go (yes l) = let e : min s 64 ≡ s = omega arith in ap (λ (k : ℕ). owner_at k i) e
    go (no l) = let e : min s 64 ≡ 64 = omega arith in ap (λ (k : ℕ). owner_at k i) e ∙ owner_past s i (omega arith)
