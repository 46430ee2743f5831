-- An `F` executed. Letters: a the words before, b with the children counted, c with the new routines, m the words after, u the running state, v the one
-- from which the first child goes on.
use mathlib.Core.Path.{◌≡◌, refl, sym, ap, subst, ◌∙◌}
use mathlib.Core.Bool.{Bool, true, false}
use mathlib.Core.List.{List, [], ◌++◌}
use Prim.Native.Nat.{ℕ, zero, suc, ◌+◌, ◌≤◌, ◌<◌}
use native.Mathlib.Omega.{arith}
use lib.ListN.{length, get_or, take}
use lib.Seq.{get_or-take}
use borrow.Author.Tests.{le-leb, lt-leb}
use Rattle.listing.specs.Listing.{fork}
use Rattle.walk.specs.State.{Variable}
use Rattle.walk.specs.Walk.{child_count}
use Rattle.table.specs.Decode.{calls_at, table_listing}
use Rattle.engine_rows.specs.Rows.{Row, Rows, with_row, with_children}
use Rattle.engine_rows.specs.Engine.{RowsRunner, next_ready, or_halt, rows_with_new, new_slots, fork_rows, execute_rows}
use Rattle.engine_blocks.specs.Blocks.{block, rows_of, environment_of}
use Rattle.engine_blocks.specs.Store.{store_of, with_slot}
use Rattle.engine_blocks.specs.Changes.{Changes, put_in}
use Rattle.engine_clean.specs.Clean.{Clean}
use Rattle.engine_ready.specs.Slots.{slots_of}
use Rattle.engine_evaluate.specs.Bound.{Bound, bindings_of}
use Rattle.engine_children.specs.declared.fork.NewSlots.{NewSlots}
use Rattle.engine_children.specs.Fork.{slots_in, MakesChildren}
use Rattle.engine_steps.specs.declared.running.Running.{Running}
use Rattle.engine_steps.specs.declared.running.Answer.TheVariants.{Goes, Ends, Stops}
use Rattle.engine_steps.specs.declared.running.Stepped.{Stepped}
use Rattle.engine_steps.specs.Outcome.{left_by, Reading, Pops, Executes}
use Rattle.engine_steps.specs.Asked.{MayPop, Slots}
use Rattle.engine_steps.proofs.Stores.{rows_changed_lem, environment_kept, change_stays, stays_then, stays_start}
use Rattle.engine_fork.specs.Asked.{MayForkStep}
use Rattle.engine_fork.proofs.NewSlots.{count_calls, new_small, new_sleepers, slots_each, slots_join}
use Rattle.engine_fork.proofs.Counted.{field_kept, bound_kept, counted_clean}

module _ (t a : List ℕ) (u : Running) (cells n moment : ℕ) where
  -- 14: "live routines plus new children at most 64?"
  pub too_many : 64 < u.live + n → Executes (table_listing t) moment (fork (calls_at t cells n)) a a u (record { answer = Stops 14; running = u })
  unfolding left_by execute_rows or_halt
  too_many over =
      record {
        outcome = λ k triggers reading go left. rw (count_calls t n cells, lt-leb (u.live + n) 64 over);
        stays = stays_start a;
        clean = λ k triggers reading live clean. clean;
      }

  -- 15: "is this routine's level at most 9?"
  pub too_deep : u.live + n ≤ 64 → 9 < (rows_of a u.me).level
      → Executes (table_listing t) moment (fork (calls_at t cells n)) a a u (record { answer = Stops 15; running = u })
  unfolding left_by execute_rows or_halt
  too_deep room deep =
      record {
        outcome = λ k triggers reading go left. rw (count_calls t n cells, le-leb (u.live + n) 64 room, lt-leb (rows_of a u.me).level 9 deep);
        stays = stays_start a;
        clean = λ k triggers reading live clean. clean;
      }

module _ {t a b c : List ℕ} {u : Running} {cells n : ℕ} {new : NewSlots}
    (q : Changes u.me a b (put_in (block a u.me) 106 n) (with_slot u.me (λ r. with_children r n)))
    (f : MakesChildren t b u.me cells n c new) (may : MayForkStep t a u cells n) where
  bound_now : Bound (store_of may.variables b) (bindings_of b u.me)
  bound_now = bound_kept n q may.variables may.bound

  slots_small : (k : ℕ) → get_or (slots_in new) k 0 < 64
  slots_small k = rw (f.slots 0 may.variables bound_now) (new_small (table_listing t) 0 (environment_of may.variables b) u.me n (rows_of b) (calls_at t cells n) 0 k)

  -- The new slots can be put before the others.
  pub may_put : u.live + n ≤ 64 → (u.ready.count + new.count ≤ 64) × (new.count ≤ 8)
  may_put room =
      let e = f.count in
      let w = may.waiting in
      let h = may.most in (omega arith, omega arith)

  module _ (v : Running) (ready : slots_of v.ready ≡ slots_in new ++ slots_of u.ready) (woken : v.woken ≡ u.woken) where
    -- The first that is ready, the first child, can go on.
    pub may_pop_child : v.ready.count ≡ u.ready.count + new.count → u.live + n ≤ 64 → MayPop c v
    unfolding with_children
    may_pop_child count room =
        record {
          size = let d = q.outside.size in let e = f.outside.size in let h = may.pops.size in omega arith;
          few = let e = f.count in let w = may.waiting in omega arith;
          slots = rw ready (slots_join (slots_each (slots_in new) slots_small) may.pops.slots);
          woken = rw woken may.pops.woken;
          sleepers = λ s h.
              let rows = f.rows 0 may.variables bound_now in
              let old = new_sleepers (table_listing t) 0 (environment_of may.variables b) u.me n (rows_of b) (calls_at t cells n) 0 s
              (sym (ap (λ (x : Rows). (x s).asleep) rows) ∙ h) in
              let slept = sym (field_kept n q (λ (r : Row). r.asleep) (λ r. refl) s) ∙ old.0 in
              let place : (rows_of c s).place ≡ (rows_of a s).place =
              ap (λ (x : Rows). (x s).place) rows ∙ old.1 ∙ field_kept n q (λ (r : Row). r.place) (λ r. refl) s in
              let bound = may.pops.sleepers s slept in
              omega arith;
        }

    pub forks : {m : List ℕ} {r : Stepped} (moment : ℕ) → v.live ≡ u.live + n → u.live + n ≤ 64 → (rows_of a u.me).level ≤ 9 → Pops c m v r
        → Executes (table_listing t) moment (fork (calls_at t cells n)) a m u r
    unfolding execute_rows or_halt fork_rows
    forks {m} {r} moment live room level pops =
        record {
          outcome = λ k triggers reading go left.
              let bound = bound_kept n q k reading.bound in
              let listing = table_listing t in
              let cs = calls_at t cells n in
              let counted : rows_of b ≡ with_row (rows_of a) u.me (with_children (rows_of a u.me) n) = rows_changed_lem (λ x. with_children x n) q in
              let same : environment_of k b ≡ environment_of k a = environment_kept (λ x. with_children x n) q k in
              let rows : rows_of c ≡ rows_with_new listing moment (with_row (rows_of a) u.me (with_children (rows_of a u.me) n)) (environment_of k a) u.me n cs 0 =
              f.rows moment k bound ∙ ap (λ (x : Rows). rows_with_new listing moment x (environment_of k b) u.me n cs 0) counted
              ∙ ap (λ (x : List Variable). rows_with_new listing moment (with_row (rows_of a) u.me (with_children (rows_of a u.me) n)) x u.me n cs 0) same in
              let slots : slots_in new ≡ new_slots listing moment (with_row (rows_of a) u.me (with_children (rows_of a u.me) n)) (environment_of k a) u.me n cs 0 =
              f.slots moment k bound ∙ ap (λ (x : Rows). new_slots listing moment x (environment_of k b) u.me n cs 0) counted
              ∙ ap (λ (x : List Variable). new_slots listing moment (with_row (rows_of a) u.me (with_children (rows_of a u.me) n)) x u.me n cs 0) same in
              let first : slots_of v.ready ≡ new_slots listing moment (with_row (rows_of a) u.me (with_children (rows_of a u.me) n)) (environment_of k a) u.me n cs 0 ++ slots_of u.ready =
              ready ∙ ap (λ (l : List ℕ). l ++ slots_of u.ready) slots in
              let environment : environment_of k c ≡ environment_of k a = f.environment k ∙ same in
              rw (count_calls t n cells, le-leb (u.live + n) 64 room, le-leb (rows_of a u.me).level 9 level)
              (rw (rows, environment, first, live, woken) at (pops.outcome k go left));
          stays = stays_then (change_stays q) (stays_then (record { outside = f.outside; triggers = f.triggers }) pops.stays);
          clean = λ k triggers reading alive clean.
              pops.clean k alive (f.clean k (counted_clean u.me n q may.slot may.live clean));
        }
