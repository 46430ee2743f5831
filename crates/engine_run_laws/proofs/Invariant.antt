-- A state that is reached, with every routine at an instruction and clean words, meets all that one step asks, and is read as a step is read.
-- Letters: t the table's words, w the machine's, n the number of environment variables, u the running state; the others as in scheduler's Reachable.
use mathlib.Core.Path.{◌≡◌, refl, sym, ap, subst, ◌∙◌}
use mathlib.Core.Bool.{true}
use mathlib.Core.List.{List, [], ◌∷◌}
use Prim.Native.Nat.{ℕ, zero, suc, ◌+◌, ◌*◌, ◌^◌, ◌≤◌, ◌<◌, min}
use native.Mathlib.Omega.{arith}
use lib.ListN.{length}
use Rattle.listing.specs.Listing.{Listing}
use Rattle.walk.specs.State.{Variable}
use Rattle.table.specs.Decode.{word, names_of, size_of, table_listing}
use Rattle.table.specs.Question6.{is_table}
use Rattle.table.proofs.Bounds.{bounds}
use Rattle.engine_rows.specs.Rows.{Owner, Row, Rows}
use Rattle.engine_rows.proofs.Place.{nil, Frame, memory_of}
use Rattle.engine_rows.proofs.Held.{path_of, row_for, path_length}
use Rattle.engine_rows.proofs.Standing.{head_of}
use Rattle.engine_rows.proofs.Steady.{TableFits, steady_record}
use Rattle.engine_rows.proofs.Reachable.{Reached}
use Rattle.engine_rows.proofs.Bounds.{Bounds, reached_bounds}
use Rattle.engine_rows.proofs.RowBounds.{ready_rises}
use Rattle.engine_blocks.specs.Blocks.{owner_at, rows_of, environment_of}
use Rattle.engine_blocks.specs.Store.{store_of}
use Rattle.engine_clean.specs.Clean.{Clean}
use Rattle.engine_ready.specs.Slots.{slots_of}
use Rattle.engine_ready.specs.Ordered.{Ordered}
use Rattle.engine_ready.proofs.Falling.{length_slots}
use Rattle.engine_ready.proofs.Distinct.{ordered_few}
use Rattle.engine_triggers.specs.Chains.{triggers_at}
use Rattle.engine_evaluate.specs.Bound.{Bound, bindings_of}
use Rattle.engine_evaluate.proofs.Bound.{running_bound}
use Rattle.engine_evaluate.proofs.Standing.{table_names}
use Rattle.engine_new_rows.specs.NewRow.{MayDivide}
use Rattle.engine_steps.specs.declared.running.Running.{Running}
use Rattle.engine_steps.specs.Asked.{MayPop}
use Rattle.engine_steps.specs.Outcome.{Reading}
use Rattle.engine_run_laws.specs.Asked.{MayStep}
use Rattle.engine_run_laws.specs.Placed.{GoesOn, Placed}
use Rattle.engine_run_laws.proofs.Reaching.{ordered_of_rise, slots_of_order}
use Rattle.engine_run_laws.proofs.ReadyLive.{live_few, ready_live}
use Rattle.engine_run_laws.proofs.Parents.{parent_apart, parent_children}
use Rattle.engine_fork_bits.proofs.ForkBits.{fork_bits_are_at_most_three}

module _ (t w : List ℕ) (n moment : ℕ) (triggers : Owner → List ℕ) (T : TableFits (table_listing t)) (left : ℕ) (u : Running) (table : is_table t ≡ true)
    (R : Reached (table_listing t) moment triggers T left (rows_of w) (environment_of n w) (slots_of u.ready) u.live u.woken u.me) where
  bound_by : Bounds (table_listing t) (rows_of w) (environment_of n w) u.live u.me
  bound_by = reached_bounds (table_listing t) moment triggers T left (rows_of w) (environment_of n w) (slots_of u.ready) u.live u.woken u.me R

  in_order : Ordered (rows_of w) (slots_of u.ready)
  in_order = ordered_of_rise (ready_rises (table_listing t) moment triggers T left (rows_of w) (environment_of n w) (slots_of u.ready) u.live u.woken u.me R)

  names_bound : Bound (store_of n w) (bindings_of w u.me)
  unfolding store_of
  names_bound = subst (λ z. Bound (record { rows = rows_of w; environment = environment_of n w }) (bindings_of w z)) (sym R.here)
      (running_bound R.runs.held (table_listing t) nil R.sound.steady)

  -- enough priorities for children of children
  bits_left : 32 ≤ (rows_of w u.me).bits + 3 * (rows_of w u.me).level
  unfolding row_for
  bits_left = subst (λ z. 32 ≤ (rows_of w z).bits + 3 * (rows_of w z).level) (sym R.here)
      (rw (head_of R.runs.held).row (rw (path_length (environment_of n w) R.frames) (steady_record (table_listing t) (environment_of n w) R.frame R.frames nil R.sound.steady).deep))

  small : (r : Row) → GoesOn t r → suc r.place < 4294967296
  small r g = let b = (bounds t table).code r.routine g.routine in let h = g.next in omega arith

  pub may_step : 12288 ≤ length w → u.woken < 4294967295 → Placed t (rows_of w) → Clean n w → MayStep t w u
  may_step size woken placed clean =
      record {
        table = table;
        pops = record {
          size = size;
          few = let e = length_slots u.ready in let f = ordered_few (rows_of w) (slots_of u.ready) in_order in omega arith;
          slots = slots_of_order in_order;
          woken = woken;
          sleepers = λ s h. small (rows_of w s) (placed.sleeper s h);
        };
        slot = bound_by.slot;
        live = bound_by.sits;
        ready = in_order;
        routine = placed.routine u.me bound_by.sits;
        place = placed.place u.me bound_by.sits;
        names = bound_by.names ∙ table_names t (rows_of w u.me).routine (placed.routine u.me bound_by.sits);
        parent = λ k e. (
          (bound_by.parent k e).0,
          small _ (placed.parent _
              (parent_children (table_listing t) moment triggers T left (rows_of w) (environment_of n w) (slots_of u.ready) u.live u.woken u.me R k e)),
        );
        divides = λ k some few level.
            let b = fork_bits_are_at_most_three k in let c = bits_left in let d = bound_by.base in
            record { level = level; base = omega arith; some = some; most = few; bits = omega arith; range = bound_by.priorities };
        counted = R.sound.used;
        room = bound_by.room;
        waiting =
            let e = length_slots u.ready in
            let f = live_few in_order (ready_live (table_listing t) moment triggers T left (rows_of w) (environment_of n w) (slots_of u.ready) u.live u.woken u.me R) in
            let g = R.sound.used in omega arith;
        variables = n;
        clean = clean;
        bound = names_bound;
      }

  pub reading : ((s index : ℕ) → s ≤ 64 → index < 16 → triggers_at w s index ≡ triggers (owner_at s index)) → Reading w u.me n triggers
  reading lists =
      record {
        bound = names_bound;
        lists = lists;
        parent = λ k e. (
          (bound_by.parent k e).1,
          parent_apart (table_listing t) moment triggers T left (rows_of w) (environment_of n w) (slots_of u.ready) u.live u.woken u.me R k e,
        );
      }
