-- Before the due writes of an instant nothing is written: no variable of a state at rest is marked, and a free slot has no variables.
-- Letters: σ rows that hold the state s, m words that stand for them, n the number of environment variables, q a slot, b a block.
use mathlib.Core.Path.{◌≡◌, refl, sym, ap, subst, ◌∙◌}
use mathlib.Core.Bool.{Bool, true, false}
use mathlib.Core.List.{List, []}
use Prim.Native.Nat.{ℕ, ◌<◌, min}
use native.Mathlib.Decide.{dec_lt}
use native.Mathlib.Omega.{arith}
use Rattle.listing.specs.Listing.{Listing}
use Rattle.walk.specs.State.{Variable, State, no_variable}
use Rattle.walk.specs.Memory.{variable_at}
use Rattle.walk.specs.Question7.{IsState}
use Rattle.walk_laws.proofs.Idle.{NoMarks, none_marked, no_mark_at, at_rest_no_marks}
use Rattle.engine_rows.specs.Rows.{Owner, in_environment, in_slot, Row, Rows, free_row, variable_of}
use Rattle.engine_rows.proofs.Holds.{Holds}
use Rattle.engine_blocks.specs.Tabulate.{tabulate_from}
use Rattle.engine_blocks.specs.Blocks.{Block, block, variable_in, variables_in, row_at, rows_of, environment_of}
use Rattle.engine_blocks.proofs.RowChanges.{row_of}
use Rattle.engine_blocks.proofs.Tabulated.{get_d_tabulate}
use Rattle.engine_clean.specs.Clean.{Clean}
use Rattle.engine_finish.proofs.EndedIsRead.{zero_of}
use Rattle.engine_due.specs.Reaching.{Unwritten, NothingWritten}
use Rattle.engine_begin_laws.proofs.Found.{no_row}
use Rattle.engine_begin_laws.proofs.NotDue.{used_no_marks}

-- ── variables without marks ───────────────────────────────────────────────────────────────────────
block_unwritten : (b : Block) (c : ℕ) → NoMarks (variables_in b c) → Unwritten (min c 16) b
unfolding variables_in variable_at
block_unwritten b c h = record {
  none = λ i l. ap (λ (x : Variable). x.written) (sym (get_d_tabulate (min c 16) (variable_in b) i no_variable l)) ∙ no_mark_at h i;
}

no_variables : (b : Block) → b 4 ≡ 0 → variables_in b (b 4) ≡ []
unfolding variables_in tabulate_from
no_variables b e = rw e

-- ── words that stand for a state ──────────────────────────────────────────────────────────────────
module _ (listing : Listing) (n : ℕ) (m : List ℕ) (σ : Rows) (s : State) (H : Holds true listing σ s.environment s) (I : IsState listing s)
    (rows : rows_of m ≡ σ) (environment : environment_of n m ≡ s.environment) (clean : Clean n m) where
  free_own : (q : ℕ) → Dec (q < 64) → (rows_of m q).used ≡ false → (rows_of m q).own ≡ []
  unfolding row_at free_row
  free_own q (yes h) unused =
      let e = row_of m q h in
      let first : block m q 0 ≡ 0 = zero_of (block m q 0) (sym (ap (λ (r : Row). r.used) e) ∙ unused) in
      ap (λ (r : Row). r.own) e ∙ no_variables (block m q) ((clean.slots q h).free first 4 (omega arith))
  free_own q (no h) unused = ap (λ (r : Row). r.own) (no_row m q (omega arith))

  own_no_marks : (q : ℕ) → NoMarks (σ q).own
  own_no_marks q = go (σ q).used refl
    where
      go : (u : Bool) → (σ q).used ≡ u → NoMarks (σ q).own
      go true e = used_no_marks listing σ s H I q e
      go false e =
          let none : (σ q).own ≡ [] = subst (λ (ρ : Rows). (ρ q).used ≡ false → (ρ q).own ≡ []) rows (free_own q (dec_lt q 64)) e in
          rw none none_marked

  outer_no_marks : NoMarks s.environment
  outer_no_marks = at_rest_no_marks s.now s.environment I.resting

  pub rows_unwritten : (o : Owner) → (variable_of σ s.environment o).written ≡ false
  unfolding variable_of
  rows_unwritten (in_environment a) = no_mark_at outer_no_marks a
  rows_unwritten (in_slot q i) = no_mark_at (own_no_marks q) i

  pub words_unwritten : (o : Owner) → (variable_of (rows_of m) (environment_of n m) o).written ≡ false
  words_unwritten = rw (rows, environment) rows_unwritten

  slot_unwritten : (q : ℕ) → q < 64 → Unwritten (min (block m q 4) 16) (block m q)
  unfolding row_at
  slot_unwritten q h =
      let own : (σ q).own ≡ variables_in (block m q) (block m q 4) = ap (λ (ρ : Rows). (ρ q).own) (sym rows) ∙ ap (λ (r : Row). r.own) (row_of m q h) in
      block_unwritten (block m q) (block m q 4) (subst NoMarks own (own_no_marks q))

  outer_unwritten : Unwritten n (block m 64)
  unfolding environment_of
  outer_unwritten =
      let few = clean.environment.clean.few in
      let e : min n 16 ≡ n = omega arith in
      subst (λ (c : ℕ). Unwritten c (block m 64)) e (block_unwritten (block m 64) n (subst NoMarks (sym environment) outer_no_marks))

  pub nothing_written : NothingWritten n m
  nothing_written = record { slots = slot_unwritten; environment = outer_unwritten }
