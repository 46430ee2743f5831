-- Each kind of instruction keeps every routine at an instruction of its routine. Letters as in Placing.
use mathlib.Core.Path.{◌≡◌, refl}
use mathlib.Core.Bool.{Bool, true, false}
use mathlib.Core.List.{List}
use Prim.Native.Nat.{ℕ, zero, suc, ◌+◌, ◌-◌, ◌≤◌, ◌<◌}
use native.Mathlib.Omega.{arith}
use lib.Dec.{eqb, ltb, leb}
use Rattle.words.specs.Words.{is_positive}
use Rattle.listing.specs.Listing.{Piece, Instruction, assign, schedule, branch, jump, wait, fork, end}
use Rattle.walk.specs.State.{Variable, written_to, scheduled_on}
use Rattle.walk.specs.Walk.{instruction_at, child_count, branch_place}
use Rattle.table.specs.Decode.{word, size_of, names_of, table_listing, instruction_entry, calls_at, head_after}
use Rattle.table.specs.Entry.{ChildStands}
use Rattle.table.specs.Question6.{is_table}
use Rattle.table.proofs.Entry.{fetched}
use Rattle.engine_rows.specs.Rows.{Owner, Row, Rows, with_row, at_place, free_row, rows_with, owner_of, variable_of, named}
use Rattle.engine_rows.specs.Engine.{fork_rows, execute_rows}
use Rattle.engine_run_laws.specs.Placed.{GoesOn, Placed}
use Rattle.engine_run_laws.proofs.Keeping.{placed_on, placed_free, placed_variable, placed_count}
use Rattle.engine_run_laws.proofs.Arms.{by_kind}
use Rattle.engine_run_laws.proofs.Placing.{saying, KeptBy, go_kept, halt_kept, value_kept, pop_kept, ended_kept, news_placed, same_children}
use Rattle.engine_write_steps.proofs.Writing.{same_routine}
use Rattle.walk.specs.Memory.{evaluate_by}

module _ (t : List ℕ) (moment : ℕ) (triggers : Owner → List ℕ) (left : ℕ) (σ : Rows) (environment : List Variable) (q : List ℕ) (live woken me : ℕ)
    (h : Placed t σ) where
  abbrev KeptAt : Instruction → Type 0
  KeptAt i = KeptBy t left woken (execute_rows (table_listing t) moment triggers (saying left) left i σ environment q live woken me)

  abbrev GoesBehind : Type 0
  GoesBehind = suc (σ me).place < size_of t (σ me).routine

  -- A variable is changed, and the routine goes on behind.
  changed_placed : (o : Owner) (x : Variable) → GoesBehind →
      (with_row (rows_with σ o x) me (at_place (rows_with σ o x me) (suc (σ me).place)) me).children ≡ 0 →
      Placed t (with_row (rows_with σ o x) me (at_place (rows_with σ o x me) (suc (σ me).place)))
  changed_placed o x next none =
      placed_on t (rows_with σ o x) me (suc (σ me).place) (placed_variable t σ o x h) (same_children t left woken (rows_with σ o x) me _ none)
      (λ u. rw (same_routine σ o x me) next)

  assign_kept : (n : ℕ) (e : List Piece) → GoesBehind → KeptAt (assign n e)
  unfolding execute_rows
  assign_kept n e next =
      value_kept t left woken (evaluate_by moment (named σ environment (σ me).bindings) e) _ λ v.
      go_kept t left woken _ _ _ live woken me
      (changed_placed (owner_of (σ me).bindings n) (written_to moment (variable_of σ environment (owner_of (σ me).bindings n)) v) next) (omega arith)

  schedule_kept : (n : ℕ) (d e : List Piece) → GoesBehind → KeptAt (schedule n d e)
  unfolding execute_rows
  schedule_kept n d e next =
      value_kept t left woken (evaluate_by moment (named σ environment (σ me).bindings) d) _ λ delay.
      value_kept t left woken (evaluate_by moment (named σ environment (σ me).bindings) e) _ λ v.
      halt_kept t left woken (is_positive delay) 16 _ (halt_kept t left woken (ltb (moment + delay) 18446744073709551616) 17 _
      (go_kept t left woken _ _ q live woken me
      (changed_placed (owner_of (σ me).bindings n)
      (scheduled_on (variable_of σ environment (owner_of (σ me).bindings n)) (moment + delay) v) next) (omega arith)))

  moved_kept : (place : ℕ) → place < size_of t (σ me).routine →
      KeptBy t left woken (saying left (with_row σ me (at_place (σ me) place)) environment q live woken me)
  moved_kept place there =
      go_kept t left woken _ environment q live woken me (λ none. placed_on t σ me place h (same_children t left woken σ me _ none) (λ u. there)) (omega arith)

  branch_place_lem : (b : Bool) (k : ℕ) → k < size_of t (σ me).routine → GoesBehind → branch_place b k (suc (σ me).place) < size_of t (σ me).routine
  unfolding branch_place
  branch_place_lem true k there next = there
  branch_place_lem false k there next = next

  branch_kept : (e : List Piece) (k : ℕ) → k < size_of t (σ me).routine → GoesBehind → KeptAt (branch e k)
  unfolding execute_rows
  branch_kept e k there next =
      value_kept t left woken (evaluate_by moment (named σ environment (σ me).bindings) e) _ λ v. moved_kept _ (branch_place_lem (eqb v 0) k there next)

  jump_kept : (k : ℕ) → k < size_of t (σ me).routine → KeptAt (jump k)
  unfolding execute_rows
  jump_kept k there = moved_kept k there

  wait_kept : (ns : List ℕ) → KeptAt (wait ns)
  unfolding execute_rows
  wait_kept ns = pop_kept t left woken σ environment q live woken h (omega arith)

  fork_kept : is_table t ≡ true → (cells n : ℕ) → (σ me).routine < word t 2 → GoesBehind →
      ((j : ℕ) → j < n → ChildStands t (names_of t (σ me).routine) (head_after t cells j)) → KeptAt (fork (calls_at t cells n))
  unfolding execute_rows fork_rows
  fork_kept table cells n there next fields =
      let cs = calls_at t cells n in
      halt_kept t left woken (leb (live + child_count cs) 64) 14 _ (halt_kept t left woken (leb (σ me).level 9) 15 _
      (pop_kept t left woken _ environment _ (live + child_count cs) woken
      (news_placed t left woken table moment n cells (names_of t (σ me).routine) fields _ environment me (child_count cs) 0
      (placed_count t σ me (child_count cs) h (λ some. record { routine = there; next = next }))) (omega arith)))

  end_kept : KeptAt end
  unfolding execute_rows
  end_kept =
      ended_kept t left woken (eqb (σ me).level 0) (with_row σ me free_row) environment q (live - 1) woken (σ me).parent (placed_free t σ me h) (omega arith)

  pub step_kept : is_table t ≡ true → (σ me).used ≡ true → KeptAt (instruction_at (table_listing t) (σ me).routine (σ me).place)
  step_kept table used =
      let r = (σ me).routine in
      let there = h.routine me used in
      let e = instruction_entry t r (σ me).place in
      let f = fetched t table r there (σ me).place (h.place me used) in
      by_kind {G = KeptAt (instruction_at (table_listing t) (σ me).routine (σ me).place)} (word t (e + 0)) f.least f.most
      (λ z. let a = f.assigns z in rw a.is (assign_kept _ _ a.next))
      (λ z. let a = f.schedules z in rw a.is (schedule_kept _ _ _ a.next))
      (λ z. let a = f.branches z in rw a.is (branch_kept _ _ a.target a.next))
      (λ z. let a = f.jumps z in rw a.is (jump_kept _ a.target))
      (λ z. let a = f.waits z in rw a.is (wait_kept _))
      (λ z. let a = f.forks z in rw a.is (fork_kept table _ _ there a.next a.children))
      (λ z. let a = f.ends z in rw a.is end_kept)
