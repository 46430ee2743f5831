-- The lists of all sleepers, made slot by slot and name by name.
use mathlib.Core.Bool.{Bool, true, false, cond}
use mathlib.Core.List.{List, [], ◌∷◌, ◌++◌}
use mathlib.Core.Path.{◌≡◌, refl, ap, ◌∙◌, fun_ext}
use Prim.Native.Nat.{ℕ, zero, suc, ◌+◌, ◌*◌, ◌≤◌, ◌<◌, min}
use native.Mathlib.Omega.{arith}
use lib.Dec.{eqb}
use lib.ListN.{length}
use borrow.Author.Tests.{ne_eqb}
use Rattle.listing.specs.Listing.{Listing, assign, schedule, branch, jump, fork, end}
use Rattle.table.specs.Decode.{word, cells_at, name_at, names_at, pieces_at, calls_at, no_instruction, instruction_of, instruction_at_entry}
use Rattle.engine_rows.specs.Rows.{Owner, Row, owner_of}
use Rattle.engine_rows.specs.Triggers.{same_owner, cons_if, awaited, awaited_by, list_names, list_if, triggers_below}
use Rattle.engine_blocks.proofs.RowChanges.{row_of}
use Rattle.engine_blocks.proofs.Tabulated.{length_tabulate}
use Rattle.engine_blocks.specs.Blocks.{block, owner_in, bindings_in, row_at, rows_of}
use Rattle.engine_triggers.specs.Awaited.{awaited_names, NamesOf, lists_with, listed_below_lem}

-- ── names, one after the other ────────────────────────────────────────────────────────────────────
list_last : (bindings : List Owner) (s : ℕ) (ns : List ℕ) (n : ℕ) (o : Owner) (ss : List ℕ)
    → list_names bindings s (ns ++ (n ∷ [])) o ss ≡ cons_if (same_owner (owner_of bindings n) o) s (list_names bindings s ns o ss)
unfolding list_names
list_last bindings s [] n o ss = refl
list_last bindings s (k ∷ ns) n o ss = list_last bindings s ns n o _

cells_last : (f : ℕ → ℕ) (a n : ℕ) → cells_at f a (suc n) ≡ cells_at f a n ++ (f (a + 2 * n) ∷ [])
unfolding cells_at
cells_last f a zero = let e : a + 2 * 0 ≡ a = omega arith in rw e
cells_last f a (suc n) =
    let e : a + 2 * suc n ≡ a + 2 + 2 * n = omega arith in
    rw e (ap (λ (r : List ℕ). f a ∷ r) (cells_last f (a + 2) n))

pub length_names : (t : List ℕ) (a n : ℕ) → length (names_at t a n) ≡ n
unfolding cells_at
length_names t a zero = refl
length_names t a (suc n) = ap suc (length_names t (a + 2) n)

pub lists_none : (bindings : List Owner) (s : ℕ) (t : List ℕ) (a : ℕ) (lists : Owner → List ℕ) → lists_with bindings s (names_at t a 0) lists ≡ lists
unfolding lists_with list_names cells_at
lists_none bindings s t a lists = refl

pub lists_next : (bindings : List Owner) (s : ℕ) (t : List ℕ) (a j : ℕ) (lists : Owner → List ℕ)
    → lists_with bindings s (names_at t a (suc j)) lists ≡ (λ o. cons_if (same_owner (owner_of bindings (name_at t (a + 2 * j))) o) s (lists_with bindings s (names_at t a j) lists o))
unfolding lists_with
lists_next bindings s t a j lists =
    fun_ext λ o. ap (λ (ns : List ℕ). list_names bindings s ns o (lists o)) (cells_last (name_at t) a j) ∙ list_last bindings s (names_at t a j) _ o (lists o)

-- ── an instruction that is no wait has no names ───────────────────────────────────────────────────
pub awaited_wait : (t : List ℕ) (e : ℕ) → word t (e + 0) ≡ 5 → awaited (instruction_at_entry t e) ≡ names_at t (word t (e + 2)) (word t (e + 3))
unfolding instruction_at_entry instruction_of awaited
awaited_wait t e h = rw h

other_kinds : (t : List ℕ) (kind operand cells first second : ℕ) → (kind ≡ 5 → ⊥) → awaited (instruction_of t kind operand cells first second) ≡ []
unfolding instruction_of awaited
other_kinds t kind operand cells first second h = rw (ne_eqb kind 5 h) (go (eqb kind 1) (eqb kind 2) (eqb kind 3) (eqb kind 4) (eqb kind 6) (eqb kind 7))
  where
    go : (p q r s u v : Bool) →
        awaited (cond p (assign operand (pieces_at t cells first)) (cond q (schedule operand (pieces_at t cells first) (pieces_at t (cells + 2 * first) second))
        (cond r (branch (pieces_at t cells first) operand) (cond s (jump operand) (cond u (fork (calls_at t cells first)) (cond v end no_instruction)))))) ≡ []
    go true q r s u v = refl
    go false true r s u v = refl
    go false false true s u v = refl
    go false false false true u v = refl
    go false false false false true v = refl
    go false false false false false true = refl
    go false false false false false false = refl

pub awaited_none : (t : List ℕ) (e : ℕ) → (word t (e + 0) ≡ 5 → ⊥) → awaited (instruction_at_entry t e) ≡ []
unfolding instruction_at_entry
awaited_none t e h = other_kinds t (word t (e + 0)) (word t (e + 1)) (word t (e + 2)) (word t (e + 3)) (word t (e + 4)) h

-- ── slots, one after the other ────────────────────────────────────────────────────────────────────
pub bindings_few : (words : List ℕ) (s : ℕ) → s < 64 → length (rows_of words s).bindings ≤ 16
unfolding row_at bindings_in
bindings_few words s h =
    let e = ap (λ (r : Row). length r.bindings) (row_of words s h) in
    let f = length_tabulate 0 (min (block words s 110) 16) (owner_in (block words s)) in
    omega arith

pub names_agree : (listing : Listing) (t words : List ℕ) → NamesOf listing t words → (n : ℕ) → n ≤ 64 → (o : Owner)
    → listed_below_lem t (rows_of words) n o ≡ triggers_below listing (rows_of words) n o
unfolding listed_below_lem triggers_below list_if
names_agree listing t words N zero h o = refl
names_agree listing t words N (suc n) h o = go (rows_of words n).asleep (N.names n (omega arith)) (names_agree listing t words N n (omega arith) o)
  where
    r : Row
    r = rows_of words n

    go : (w : Bool) → (w ≡ true → awaited_by listing r ≡ awaited_names t r) → listed_below_lem t (rows_of words) n o ≡ triggers_below listing (rows_of words) n o
        → list_if w r.bindings n (awaited_names t r) o (listed_below_lem t (rows_of words) n o)
        ≡ list_if w r.bindings n (awaited_by listing r) o (triggers_below listing (rows_of words) n o)
    go true e d = rw (e refl, d)
    go false e d = d
