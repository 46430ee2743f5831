-- Rows, environment and tidiness after one row is changed. Letters: s a slot, a the words before, m the words after, b the block afterwards.
use mathlib.Core.Path.{◌≡◌, refl, sym, ap, subst, ◌∙◌}
use mathlib.Core.Bool.{Bool, true, false}
use mathlib.Core.List.{List}
use Prim.Native.Nat.{ℕ, zero, suc, ◌≤◌, ◌<◌}
use native.Mathlib.Omega.{arith}
use Rattle.engine_rows.specs.Rows.{Row, Rows, with_row, at_place}
use Rattle.engine_blocks.specs.Blocks.{Block, block, nonzero, row_at, rows_of, environment_of}
use Rattle.engine_blocks.specs.Store.{Store, store_of, with_slot}
use Rattle.engine_blocks.specs.Changes.{Changes, placed_block}
use Rattle.engine_blocks.proofs.RowChanges.{row_of, with_row_same}
use Rattle.engine_blocks.proofs.Staying.{outside_then, triggers_then, outside_start, triggers_start}
use Rattle.engine_clean.specs.Clean.{Clean}
use Rattle.engine_clean.proofs.Whole.{slot_keeps_clean, placed_slot}
use Rattle.engine_steps.specs.Outcome.{Stays}

module _ {s : ℕ} {a m : List ℕ} {b : Block} (f : Row → Row) (p : Changes s a m b (with_slot s f)) where
  pub rows_changed_lem : rows_of m ≡ with_row (rows_of a) s (f (rows_of a s))
  unfolding store_of with_slot
  rows_changed_lem = ap (λ (x : Store). x.rows) (p.store 0)

  pub environment_kept : (n : ℕ) → environment_of n m ≡ environment_of n a
  unfolding store_of with_slot
  environment_kept n = ap (λ (x : Store). x.environment) (p.store n)

  pub row_changed : rows_of m s ≡ f (rows_of a s)
  row_changed = ap (λ (x : Rows). x s) rows_changed_lem ∙ with_row_same (rows_of a) s (f (rows_of a s))

pub change_stays : {s : ℕ} {a m : List ℕ} {b : Block} {change : Store → Store} → Changes s a m b change → Stays a m
change_stays p = record { outside = p.outside; triggers = p.triggers }

pub stays_then : {a b c : List ℕ} → Stays a b → Stays b c → Stays a c
stays_then p q = record { outside = outside_then p.outside q.outside; triggers = triggers_then p.triggers q.triggers }

pub stays_start : (a : List ℕ) → Stays a a
stays_start a = record { outside = outside_start a; triggers = triggers_start a }

-- ── tidiness ──────────────────────────────────────────────────────────────────────────────────────
not_free : (k : ℕ) → nonzero k ≡ true → k ≡ 0 → ⊥
unfolding nonzero
not_free zero e z = let y : ◌≡◌ {A = ℕ} 0 1 = cc in omega arith
not_free (suc k) e z = omega arith

-- A live routine's block begins with a word that is not 0.
pub live_word : (words : List ℕ) (s : ℕ) → s < 64 → (rows_of words s).used ≡ true → block words s 0 ≡ 0 → ⊥
unfolding row_at
live_word words s h u = not_free (block words s 0) (sym (ap (λ (r : Row). r.used) (row_of words s h)) ∙ u)

module _ {s : ℕ} {a m : List ℕ} (place : ℕ) (p : Changes s a m (placed_block (block a s) place) (with_slot s (λ r. at_place r place))) (h : s < 64) where
  pub live_before : (rows_of m s).used ≡ true → (rows_of a s).used ≡ true
  unfolding at_place
  live_before u = sym (ap (λ (r : Row). r.used) (row_changed (λ r. at_place r place) p)) ∙ u

  -- A live routine goes on at an instruction.
  pub placed_clean : {n : ℕ} → (rows_of m s).used ≡ true → Clean n a → Clean n m
  placed_clean u clean =
      slot_keeps_clean p.in_block h (placed_slot (block a s) place (live_word a s h (live_before u)) (clean.slots s h)) clean

-- The same place, said otherwise.
pub placed_as : {s : ℕ} {a m : List ℕ} (place other : ℕ) → place ≡ other → Changes s a m (placed_block (block a s) place) (with_slot s (λ r. at_place r place))
    → Changes s a m (placed_block (block a s) other) (with_slot s (λ r. at_place r other))
placed_as {s} {a} {m} place other e p = subst (λ (k : ℕ). Changes s a m (placed_block (block a s) k) (with_slot s (λ r. at_place r k))) e p
