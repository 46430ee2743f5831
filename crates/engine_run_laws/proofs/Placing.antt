-- Every routine stays at an instruction of its routine through a whole step, and a step wakes at most one.
-- Letters: t the table's words, σ rows, q a ready list, w the waits passed before the step.
use mathlib.Core.Path.{◌≡◌, refl, sym, ap, ◌∙◌}
use mathlib.Core.Bool.{Bool, true, false}
use mathlib.Core.List.{List, [], ◌∷◌}
use mathlib.Core.Option.{Option, none, some}
use Prim.Native.Nat.{ℕ, zero, suc, ◌-◌, ◌≤◌, ◌<◌}
use native.Mathlib.Decide.{ℕ_discrete}
use native.Mathlib.Omega.{arith}
use lib.Dec.{eqb}
use borrow.Author.Tests.{eqb-true}
use Rattle.listing.specs.Listing.{Call, fork, end}
use Rattle.walk.specs.State.{Variable}
use Rattle.table.specs.Decode.{word, table_listing, calls_at, call_at, after_call, head_after}
use Rattle.table.specs.Entry.{ChildStands}
use Rattle.table.specs.Question6.{is_table}
use Rattle.table.proofs.Bounds.{bounds}
use Rattle.engine_rows.specs.Rows.{Owner, in_environment, in_slot, Row, Rows, with_row, with_own, at_place, rows_with}
use Rattle.engine_rows.specs.Engine.{RowsResult, halts, ends, RowsRunner, first_place, count_if, next_ready, or_halt, value_or_halt, join_rows, end_rows, Caller, caller_at, child_row, free_slot, rows_with_child, rows_with_new}
use Rattle.engine_blocks.proofs.RowChanges.{with_row_same, with_row_other}
use Rattle.engine_run_laws.specs.Placed.{GoesOn, Placed}
use Rattle.engine_run_laws.proofs.Keeping.{PlacedRow, placed_with, placed_pop, placed_count, placed_join}

-- ── a step told by its outcome ────────────────────────────────────────────────────────────────────
-- A rest of the run that only says with which rows it was started, who runs and how many waits were passed.
unfoldable pub saying : ℕ → RowsRunner
saying left σ environment q live woken me = ends σ environment (suc left) me woken

pub record Kept (t : List ℕ) (w : ℕ) (σ : Rows) (woken : ℕ) : Type 0 where
  pub placed : Placed t σ
  pub few : woken ≤ suc w

-- If somebody runs, and has no live children, all is kept.
unfoldable pub KeptBy : List ℕ → ℕ → ℕ → RowsResult → Type 0
KeptBy t left w (halts k) = 0 ≤ 0
KeptBy t left w (ends σ environment j me woken) = j ≡ suc left → (σ me).children ≡ 0 → Kept t w σ woken

module _ (t : List ℕ) (left w : ℕ) where
  stop_kept : (k : ℕ) → KeptBy t left w (halts k)
  unfolding KeptBy
  stop_kept k = omega arith

  end_kept : (σ : Rows) (environment : List Variable) (live woken : ℕ) → KeptBy t left w (ends σ environment left live woken)
  unfolding KeptBy
  end_kept σ environment live woken = λ e none. absurd (omega arith)

  pub go_kept : (σ : Rows) (environment : List Variable) (q : List ℕ) (live woken me : ℕ) → ((σ me).children ≡ 0 → Placed t σ) → woken ≤ suc w →
      KeptBy t left w (saying left σ environment q live woken me)
  unfolding KeptBy saying
  go_kept σ environment q live woken me h few = λ e none. record { placed = h none; few = few }

  pub halt_kept : (b : Bool) (k : ℕ) (r : RowsResult) → KeptBy t left w r → KeptBy t left w (or_halt b k r)
  unfolding or_halt
  halt_kept true k r h = h
  halt_kept false k r h = stop_kept k

  pub value_kept : (v : Option ℕ) (f : ℕ → RowsResult) → ((x : ℕ) → KeptBy t left w (f x)) → KeptBy t left w (value_or_halt v f)
  unfolding value_or_halt
  value_kept none f h = stop_kept 18
  value_kept (some x) f h = h x

  -- ── the first that is ready ─────────────────────────────────────────────────────────────────────
  one_more : (b : Bool) (n : ℕ) → count_if b n ≤ suc n
  unfolding count_if
  one_more true n = omega arith
  one_more false n = omega arith

  pub same_children : (σ : Rows) (s place : ℕ) → (with_row σ s (at_place (σ s) place) s).children ≡ 0 → (σ s).children ≡ 0
  unfolding at_place
  same_children σ s place e = sym (ap (λ (r : Row). r.children) (with_row_same σ s (at_place (σ s) place))) ∙ e

  pub pop_kept : (σ : Rows) (environment : List Variable) (q : List ℕ) (live woken : ℕ) → Placed t σ → woken ≤ w →
      KeptBy t left w (next_ready (saying left) left σ environment q live woken)
  unfolding next_ready
  pop_kept σ environment [] live woken h few = end_kept σ environment live woken
  pop_kept σ environment (s ∷ ss) live woken h few =
      go_kept (with_row σ s (at_place (σ s) (first_place (σ s).asleep (σ s).place))) environment ss live (count_if (σ s).asleep woken) s
      (λ none. placed_pop t σ s h (same_children σ s _ none))
      (let o = one_more (σ s).asleep woken in omega arith)

  -- ── an end ──────────────────────────────────────────────────────────────────────────────────────
  join_kept : (b : Bool) (σ : Rows) (environment : List Variable) (q : List ℕ) (live woken p : ℕ) → Placed t σ → woken ≤ w → eqb (σ p).children 1 ≡ b →
      KeptBy t left w (join_rows b (saying left) left σ environment q live woken p)
  unfolding join_rows
  join_kept true σ environment q live woken p h few last =
      let one : (σ p).children ≡ 1 = eqb-true (σ p).children 1 last in
      go_kept _ environment q live woken p (λ none. placed_join t σ p h (omega arith)) (omega arith)
  join_kept false σ environment q live woken p h few last =
      pop_kept _ environment q live woken (placed_count t σ p ((σ p).children - 1) h (λ some. h.parent p (omega arith))) few

  pub ended_kept : (b : Bool) (σ : Rows) (environment : List Variable) (q : List ℕ) (live woken p : ℕ) → Placed t σ → woken ≤ w →
      KeptBy t left w (end_rows b (saying left) left σ environment q live woken p)
  unfolding end_rows
  ended_kept true σ environment q live woken p h few = end_kept σ environment live woken
  ended_kept false σ environment q live woken p h few = join_kept (eqb (σ p).children 1) σ environment q live woken p h few refl

  -- ── a fork's new routines ───────────────────────────────────────────────────────────────────────
  new_placed : is_table t ≡ true → (now : ℕ) (caller : Caller) (c : Call) (i s : ℕ) → c.callee < word t 2 → PlacedRow t (child_row (table_listing t) now caller c i s)
  unfolding child_row
  new_placed table now caller c i s there =
      let some = (bounds t table).line c.callee there in
      record {
        routine = λ u. there;
        place = λ u. some;
        sleeper = λ e. let z : ◌≡◌ {A = ℕ} 0 1 = cc in absurd (omega arith);
        parent = λ l. absurd (omega arith);
      }

  pub news_placed : is_table t ≡ true → (now n cells names : ℕ) → ((j : ℕ) → j < n → ChildStands t names (head_after t cells j)) → (σ : Rows) (environment : List Variable)
      (me count i : ℕ) → Placed t σ → Placed t (rows_with_new (table_listing t) now σ environment me count (calls_at t cells n) i)
  unfolding rows_with_new rows_with_child calls_at call_at head_after
  news_placed table now zero cells names fields σ environment me count i h = h
  news_placed table now (suc n) cells names fields σ environment me count i h =
      news_placed table now n (after_call t cells) names (λ j l. fields (suc j) (omega arith)) _ environment me count (suc i)
      (placed_with t σ (free_slot σ 64) _ h (new_placed table now (caller_at σ environment me count) (call_at t cells) i (free_slot σ 64) (fields 0 (omega arith)).callee))
