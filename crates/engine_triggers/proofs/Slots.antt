-- A slot's part of the lists, by whether it sleeps and at what; all slots.
use mathlib.Core.Bool.{Bool, true, false}
use mathlib.Core.List.{List, []}
use mathlib.Core.Path.{◌≡◌, refl, sym, ap, ◌∙◌}
use Prim.Native.Nat.{ℕ, suc, ◌+◌, ◌*◌, ◌≤◌, ◌<◌}
use native.Mathlib.Omega.{arith}
use Rattle.listing.specs.Listing.{Listing}
use Rattle.table.specs.Decode.{word, names_at, instruction_entry}
use Rattle.table_read.specs.Opened.{HasEntry, entry_at}
use Rattle.table_read.specs.declared.Entry.{Entry}
use Rattle.engine_rows.specs.Rows.{Owner, Row, Rows}
use Rattle.engine_rows.specs.Triggers.{list_names, list_if, triggers_of}
use Rattle.engine_blocks.specs.Blocks.{rows_of, owner_at}
use Rattle.engine_triggers.proofs.Chaining.{chains_start, chains_more}
use Rattle.engine_triggers.proofs.Listing.{awaited_wait, awaited_none, names_agree}
use Rattle.engine_triggers.specs.Awaited.{awaited_names, NamesOf, lists_with, listed_below_lem}
use Rattle.engine_triggers.specs.Chains.{triggers_at, NoTriggers, Chains}

-- ── the names of the instruction whose entry was read ─────────────────────────────────────────────
module _ (t : List ℕ) (row : Row) (e : Entry) (read : e ≡ entry_at t row.routine row.place) where
  kind_read : e.kind ≡ word t (instruction_entry t row.routine row.place + 0)
  kind_read = ap (λ (x : Entry). x.kind) read

  pub wait_names : e.kind ≡ 5 → awaited_names t row ≡ names_at t e.cells e.first
  unfolding awaited_names
  wait_names h = let five = sym kind_read ∙ h in rw read (awaited_wait t (instruction_entry t row.routine row.place) five)

  pub no_names : (e.kind ≡ 5 → ⊥) → awaited_names t row ≡ []
  unfolding awaited_names
  no_names h = awaited_none t (instruction_entry t row.routine row.place) (λ k. h (kind_read ∙ k))

pub entry_as : (t : List ℕ) (r place s other : ℕ) → r ≡ s → place ≡ other → HasEntry t s other → HasEntry t r place
entry_as t r place s other e f h = rw (e, f) h

-- ── one slot ──────────────────────────────────────────────────────────────────────────────────────
chains_as : {m : List ℕ} {n : ℕ} (lists others : Owner → List ℕ) → ((o : Owner) → lists o ≡ others o) → Chains m n lists → Chains m n others
chains_as lists others e C = record { most = C.most; each = λ s i h l. C.each s i h l ∙ e (owner_at s i) }

module _ (m : List ℕ) (s : ℕ) (bindings : List Owner) (names : List ℕ) (lists : Owner → List ℕ) where
  abbrev Listed : Bool → Type 0
  Listed w = Chains m (4 * suc s) (λ o. list_if w bindings s names o (lists o))

  pub slot_awake : (w : Bool) → w ≡ false → Chains m (4 * s) lists → Listed w
  unfolding list_if
  slot_awake w e C = rw e (chains_more m (4 * s) (4 * suc s) lists (omega arith) C)

  none_listed : (w : Bool) (o : Owner) → names ≡ [] → lists o ≡ list_if w bindings s names o (lists o)
  unfolding list_if list_names
  none_listed true o e = rw e
  none_listed false o e = refl

  pub slot_without_names : (w : Bool) → names ≡ [] → Chains m (4 * s) lists → Listed w
  slot_without_names w e C = chains_as lists _ (λ o. none_listed w o e) (chains_more m (4 * s) (4 * suc s) lists (omega arith) C)

  pub slot_asleep : (w : Bool) → w ≡ true → (count : ℕ) → count ≤ 4 → Chains m (4 * s + count) (lists_with bindings s names lists) → Listed w
  unfolding list_if lists_with
  slot_asleep w e count h C = rw e (chains_more m (4 * s + count) (4 * suc s) (lists_with bindings s names lists) (omega arith) C)

-- ── all slots ─────────────────────────────────────────────────────────────────────────────────────
pub slots_start : (t m : List ℕ) (rows : Rows) → NoTriggers m → Chains m (4 * 0) (listed_below_lem t rows 0)
unfolding listed_below_lem
slots_start t m rows h = chains_as (λ o. []) _ (λ o. refl) (chains_start m h)

pub slots_next : (t m : List ℕ) (rows : Rows) (s : ℕ)
    → Chains m (4 * suc s) (λ o. list_if (rows s).asleep (rows s).bindings s (awaited_names t (rows s)) o (listed_below_lem t rows s o)) → Chains m (4 * suc s) (listed_below_lem t rows (suc s))
unfolding listed_below_lem
slots_next t m rows s C = chains_as _ _ (λ o. refl) C

pub slots_end : (t a m : List ℕ) → Chains m 256 (listed_below_lem t (rows_of a) 64) → (listing : Listing) → NamesOf listing t a → (s index : ℕ) → s ≤ 64 → index < 16
    → triggers_at m s index ≡ triggers_of listing (rows_of a) (owner_at s index)
unfolding triggers_at triggers_of
slots_end t a m C listing N s index h l = C.each s index h l ∙ names_agree listing t a N 64 (omega arith) (owner_at s index)
