-- Where the rows are the filled ones but for own variables, every live routine is at an instruction, and every sleeper's wait and names are as trigger
-- lists need them: so it is before due writes and inputs, and after them.
-- Letters: t the table's words, m the machine's, s the state, q a slot, n the number of environment variables.
use mathlib.Core.Path.{◌≡◌, refl, sym, ap, ◌∙◌}
use mathlib.Core.Bool.{Bool, true, false}
use mathlib.Core.List.{List}
use Prim.Native.Nat.{ℕ, ◌+◌, ◌≤◌, ◌<◌}
use native.Mathlib.Decide.{dec_lt, ℕ_discrete}
use native.Mathlib.Omega.{arith}
use lib.ListN.{length}
use Rattle.listing.specs.Listing.{Listing}
use Rattle.walk.specs.State.{Variable, State}
use Rattle.walk.specs.Question7.{IsState}
use Rattle.table.specs.Decode.{word, names_of, size_of, name_at, instruction_entry, instruction_at_entry, table_listing}
use Rattle.table.specs.Question6.{is_table}
use Rattle.table.proofs.Reach.{instruction_by_address, cells_by_place}
use Rattle.table.proofs.Entry.{fetched, name_there}
use Rattle.table_read.proofs.Fetching.{has_entry}
use Rattle.engine_rows.specs.Rows.{Row, Rows, with_own, free_row}
use Rattle.engine_rows.specs.Beginning.{due_in_rows}
use Rattle.engine_rows.specs.Triggers.{awaited, awaited_by}
use Rattle.engine_rows.proofs.Steady.{name_count}
use Rattle.engine_rows.proofs.RowBounds.{holds_bounds}
use Rattle.engine_rows.proofs.Holds.{Holds, sits}
use Rattle.engine_blocks.specs.Blocks.{block, row_at, rows_of}
use Rattle.engine_blocks.proofs.RowChanges.{row_of}
use Rattle.engine_clean.specs.Clean.{Clean}
use Rattle.engine_triggers.specs.Awaited.{awaited_names, FewNames, Sleeper, Sleepers, NamesOf}
use Rattle.engine_triggers.proofs.Listing.{length_names, awaited_wait, awaited_none}
use Rattle.engine_evaluate.specs.Bound.{bindings_of}
use Rattle.engine_evaluate.proofs.Standing.{table_names}
use Rattle.engine_finish.proofs.EndedIsRead.{zero_of}
use Rattle.engine_run_laws.specs.Placed.{GoesOn, Placed}
use Rattle.engine_begin_laws.proofs.Found.{no_row}
use Rattle.engine_begin_laws.proofs.AtInstructions.{used_goes_on, asleep_goes_on}

-- ── parents ───────────────────────────────────────────────────────────────────────────────────────
free_parent : (m : List ℕ) (q : ℕ) → q < 64 → (block m q 0 ≡ 0 → (k : ℕ) → k < 144 → block m q k ≡ 0) → (rows_of m q).used ≡ false → 0 < (rows_of m q).children → ⊥
unfolding row_at
free_parent m q h free unused many =
    let e = row_of m q h in
    let first : block m q 0 ≡ 0 = zero_of (block m q 0) (sym (ap (λ (r : Row). r.used) e) ∙ unused) in
    let none : (rows_of m q).children ≡ 0 = ap (λ (r : Row). r.children) e ∙ free first 106 (omega arith) in
    omega arith

past_parent : (m : List ℕ) (q : ℕ) → 64 ≤ q → 0 < (rows_of m q).children → ⊥
unfolding free_row
past_parent m q h many = let none : (rows_of m q).children ≡ 0 = ap (λ (r : Row). r.children) (no_row m q h) in omega arith

-- the instruction's names, by its entry
module _ (t : List ℕ) (table : is_table t ≡ true) (x : Row) (g : GoesOn t x) where
  here : x.place < size_of t x.routine
  here = let h = g.next in omega arith

  pub names_agree : awaited_by (table_listing t) x ≡ awaited_names t x
  unfolding awaited_by awaited_names
  names_agree = ap awaited (instruction_by_address t x.routine g.routine x.place here)

  pub few_names_lem : length x.bindings ≡ names_of t x.routine → FewNames x (awaited_names t x)
  unfolding awaited_names
  few_names_lem many = go (ℕ_discrete (word t (instruction_entry t x.routine x.place + 0)) 5)
    where
      entry : ℕ
      entry = instruction_entry t x.routine x.place

      go : Dec (word t (entry + 0) ≡ 5) → FewNames x (awaited (instruction_at_entry t entry))
      go (yes five) =
          let W = (fetched t table x.routine g.routine x.place here).waits five in
          let cells = word t (entry + 2) in
          let first = word t (entry + 3) in
          let size = length_names t cells first in
          let most = W.most in
          rw (awaited_wait t entry five) (record {
            few = omega arith;
            named = λ k h. let l : k < first = omega arith in
                rw (cells_by_place (name_at t) first cells k 0 l, many) (name_there t (names_of t x.routine) cells first W.names k l);
          })
      go (no other) = rw (awaited_none t entry other) (record { few = omega arith; named = λ k h. absurd (let z : ⊥ = omega arith in z) })

  pub sleeper_there : length x.bindings ≡ names_of t x.routine → Sleeper t x
  sleeper_there many =
      let entry = has_entry t table x.routine g.routine x.place here in
      let F = fetched t table x.routine g.routine x.place here in
      record { table = entry.0; entry = entry.1; inside = λ five. omega (arith, (F.waits five).names.inside); names = few_names_lem many }

-- ── rows that differ in own variables alone ───────────────────────────────────────────────────────
unfoldable pub with_owns : Rows → (ℕ → List Variable) → Rows
with_owns rows own q = with_own (rows q) (own q)

pub own_as_it_is : (rows : Rows) → rows ≡ with_owns rows (λ q. (rows q).own)
unfolding with_owns with_own
own_as_it_is rows = refl

pub own_after_due : (moment : ℕ) (rows : Rows) → due_in_rows moment rows ≡ with_owns rows (λ q. (due_in_rows moment rows q).own)
unfolding with_owns with_own due_in_rows
own_after_due moment rows = refl

-- ── words that stand for such rows ────────────────────────────────────────────────────────────────
module _ (t m : List ℕ) (s : State) (filled : Rows) (table : is_table t ≡ true) (H : Holds true (table_listing t) filled s.environment s)
    (I : IsState (table_listing t) s) (own : ℕ → List Variable) (rows : rows_of m ≡ with_owns filled own) where
  abbrev listing : Listing
  listing = table_listing t

  used_on : (q : ℕ) → (rows_of m q).used ≡ true → GoesOn t (rows_of m q)
  unfolding with_owns with_own
  used_on q = rw rows (λ u. let g = used_goes_on t table H I q u in record { routine = g.routine; next = g.next })

  asleep_on : (q : ℕ) → (rows_of m q).asleep ≡ true → GoesOn t (rows_of m q)
  unfolding with_owns with_own
  asleep_on q = rw rows (λ u. let g = asleep_goes_on t table H I q u in record { routine = g.routine; next = g.next })

  sleeper_used : (q : ℕ) → (filled q).asleep ≡ true → (filled q).used ≡ true
  sleeper_used q a = sits H q (H.marked refl q a)

  names_same : (q : ℕ) → (rows_of m q).asleep ≡ true → length (rows_of m q).bindings ≡ name_count listing (rows_of m q).routine
  unfolding with_owns with_own
  names_same q = rw rows (λ a. (holds_bounds H q (sleeper_used q a)).names)

  sleeper_names : (q : ℕ) → (rows_of m q).asleep ≡ true → length (bindings_of m q) ≡ names_of t (rows_of m q).routine
  sleeper_names q a = names_same q a ∙ table_names t (rows_of m q).routine (asleep_on q a).routine

  pub made_sleepers : Sleepers t m
  made_sleepers = record { each = λ q h a. sleeper_there t table (rows_of m q) (asleep_on q a) (sleeper_names q a) }

  pub made_names : NamesOf listing t m
  made_names = record { names = λ q h a. names_agree t table (rows_of m q) (asleep_on q a) }

  -- a parent is in use
  parent_used : {n : ℕ} → Clean n m → (q : ℕ) → 0 < (rows_of m q).children → (rows_of m q).used ≡ true
  parent_used clean q many = go (rows_of m q).used refl (dec_lt q 64)
    where
      go : (b : Bool) → (rows_of m q).used ≡ b → Dec (q < 64) → b ≡ true
      go true e d = refl
      go false e (yes h) = absurd (free_parent m q h (clean.slots q h).free e many)
      go false e (no h) = absurd (past_parent m q (omega arith) many)

  pub made_placed : {n : ℕ} → Clean n m → Placed t (rows_of m)
  made_placed clean = record {
    routine = λ q u. (used_on q u).routine;
    place = λ q u. let h = (used_on q u).next in omega arith;
    sleeper = asleep_on;
    parent = λ q many. used_on q (parent_used clean q many);
  }
