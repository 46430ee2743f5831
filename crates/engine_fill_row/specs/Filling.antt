-- What the pass at the beginning of a call asks for and promises. It fills in the working words of the live routines, in walking order.
-- The letters: t the table's words, rows what the machine's words stand for, s the slot that is filled in, p its parent's.
use Rattle.std.specs.Prelude.{◌≡◌, true, List, [], ◌∷◌, ℕ, zero, suc, ◌≤◌, ◌<◌, length, get_or}
use Rattle.listing.specs.Listing.{Call}
use Rattle.walk.specs.State.{Variable}
use Rattle.walk.specs.Walk.{child_count}
use Rattle.walk.specs.Instant.{environment_size}
use Rattle.table.specs.Decode.{names_of, size_of, table_listing}
use Rattle.table.specs.Question6.{is_table}
use Rattle.machine.specs.Words.{slot_of}
use Rattle.engine_rows.specs.Rows.{Rows}
use Rattle.engine_rows.specs.Records.{no_call_lem, seen, calls_at, filled_at}
use Rattle.engine_blocks.specs.Tabulate.{tabulate_from}
use Rattle.engine_blocks.specs.Blocks.{rows_of, environment_of}
use Rattle.engine_blocks.specs.Changes.{SameOutside, SameTriggers}
use Rattle.engine_clean.specs.Clean.{Clean}
use Rattle.engine_new_rows.specs.NewRow.{MayDivide}

-- The slots of the live routines in walking order.
unfoldable pub order_of : List ℕ → List ℕ
order_of words = tabulate_from 0 (get_or words 3 0) (slot_of words)

-- The environment, with as many variables as the table has ports.
abbrev pub ports_of : List ℕ → List ℕ → List Variable
ports_of t words = environment_of (environment_size (table_listing t)) words

-- The child field that made the routine in slot s, one of its parent's `F`.
abbrev pub field_of : List ℕ → Rows → ℕ → ℕ → Call
field_of t rows p s = get_or (calls_at (table_listing t) (rows p)) (rows s).child no_call_lem

-- Main sits in slot s.
pub record MayFillMain (t : List ℕ) (rows : Rows) (s : ℕ) : Type 0 where
  pub slot : s < 64
  pub live : (rows s).used ≡ true
  pub level : (rows s).level ≡ 0
  pub child : (rows s).child ≡ 0
  pub place : (rows s).place < size_of t 0

-- A child of the routine in slot p, which is filled in and at its `F`, sits in slot s.
pub record MayFillChild (t : List ℕ) (rows : Rows) (p s : ℕ) : Type 0 where
  pub slot : s < 64
  pub parent : p < 64
  pub apart : p ≡ s → ⊥
  pub live : (rows s).used ≡ true
  pub live_parent : (rows p).used ≡ true
  pub level : (rows s).level ≡ suc (rows p).level
  pub names : length (rows p).bindings ≡ names_of t (rows p).routine
  pub numbered : (rows s).child < child_count (calls_at (table_listing t) (rows p))
  pub divides : MayDivide rows p (child_count (calls_at (table_listing t) (rows p)))
  pub children : (rows p).children < 64
  pub place : (rows s).place < size_of t (field_of t rows p s).callee

-- By the level of the routine in slot s; `latest` has the slot seen last of each level.
pub data MayFill (t : List ℕ) (rows : Rows) (latest : ℕ → ℕ) : ℕ → ℕ → Type 0 where
  fills_main : {s : ℕ} → MayFillMain t rows s → MayFill t rows latest zero s
  fills_child : {level s : ℕ} → level ≤ 9 → MayFillChild t rows (latest level) s → MayFill t rows latest (suc level) s

-- Each slot of the list may be filled in, once those before it are.
pub data Fillable (t : List ℕ) (environment : List Variable) : Rows → (ℕ → ℕ) → List ℕ → Type 0 where
  fillable_none : {rows : Rows} {latest : ℕ → ℕ} → Fillable t environment rows latest []
  fillable_next : {rows : Rows} {latest : ℕ → ℕ} {s : ℕ} {ss : List ℕ} → MayFill t rows latest (rows s).level s
      → Fillable t environment (filled_at (table_listing t) rows environment latest (rows s).level s) (seen latest (rows s).level s) ss
      → Fillable t environment rows latest (s ∷ ss)

-- The rows are these now; nothing but working words changed.
pub record FillsRows (before : List ℕ) (filled : Rows) (after : List ℕ) : Type 0 where
  pub rows : rows_of after ≡ filled
  pub environment : (k : ℕ) → environment_of k after ≡ environment_of k before
  pub outside : SameOutside before after
  pub triggers : SameTriggers before after
  pub clean : (k : ℕ) → Clean k before → Clean k after

pub record MayFillAll (t m : List ℕ) : Type 0 where
  pub size : 12288 ≤ length m
  pub table : is_table t ≡ true
  pub few : get_or m 3 0 ≤ 64
  pub order : Fillable t (ports_of t m) (rows_of m) (λ level. 64) (order_of m)
