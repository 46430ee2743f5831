-- What each kind of instruction asks follows from what a step asks and from the entry that was read. Letters: t the table's words, m the machine's, u the running state.
use mathlib.Core.Path.{◌≡◌, refl, sym, ap, ◌∙◌}
use mathlib.Core.Bool.{true}
use mathlib.Core.List.{List}
use Prim.Native.Nat.{ℕ, zero, suc, ◌+◌, ◌*◌, ◌≤◌, ◌<◌}
use native.Mathlib.Omega.{arith}
use lib.ListN.{length}
use Rattle.listing.specs.Listing.{Listing, Instruction}
use Rattle.walk.specs.Walk.{instruction_at}
use Rattle.table.specs.Decode.{word, names_of, size_of, head_after, routine_entry, table_listing}
use Rattle.table.specs.Entry.{ExpressionStands, ChildStands, Forks, Fetched}
use Rattle.table.specs.Question6.{is_table}
use Rattle.table.proofs.Bounds.{bounds}
use Rattle.engine_rows.specs.Rows.{Row}
use Rattle.engine_blocks.specs.Blocks.{rows_of}
use Rattle.engine_evaluate.specs.Bound.{bindings_of}
use Rattle.engine_evaluate.specs.Evaluable.{Evaluable}
use Rattle.engine_evaluate.proofs.Standing.{standing_evaluable}
use Rattle.engine_steps.specs.declared.running.Running.{Running}
use Rattle.engine_steps.specs.declared.running.Stepped.{Stepped}
use Rattle.engine_steps.specs.Asked.{MayPop, MayGoOn, MayChange, MayWrite, MayEnd}
use Rattle.engine_steps.specs.declared.running.Onward.{Onward}
use Rattle.engine_steps.specs.Outcome.{Executes, NeedsReady, Onwards}
use Rattle.engine_fork.specs.Asked.{MayForkStep}
use Rattle.engine_run_laws.specs.Asked.{MayStep}

module _ {t m : List ℕ} {u : Running} (may : MayStep t m u) where
  -- A place in the routine's code is a small number.
  pub place_fits : (k : ℕ) → k < size_of t (rows_of m u.me).routine → k < 512
  place_fits k h = let b = (bounds t may.table).code (rows_of m u.me).routine may.routine in omega arith

  pub may_go_on : (place : ℕ) → place ≡ (rows_of m u.me).place → suc (rows_of m u.me).place < size_of t (rows_of m u.me).routine → MayGoOn m u.me place
  may_go_on place here next =
      let small = place_fits (suc (rows_of m u.me).place) next in
      record { size = may.pops.size; slot = may.slot; here = here; next = omega (arith, here) }

  pub may_change : (place name : ℕ) → place ≡ (rows_of m u.me).place → name < names_of t (rows_of m u.me).routine
      → suc (rows_of m u.me).place < size_of t (rows_of m u.me).routine → MayChange m u.me place name
  may_change place name here there next = record { runs = may_go_on place here next; there = rw may.names there }

  pub may_write : (name : ℕ) → name < names_of t (rows_of m u.me).routine → suc (rows_of m u.me).place < size_of t (rows_of m u.me).routine
      → MayWrite m u name
  may_write name there next = record { changes = may_change _ name refl there next; ready = may.ready }

  pub may_evaluate : {cells pieces : ℕ} → ExpressionStands t (names_of t (rows_of m u.me).routine) cells pieces → Evaluable t m u.me cells pieces
  may_evaluate stands = standing_evaluable (bounds t may.table).words may.pops.size may.slot may.names stands

  pub may_end : MayEnd m u
  may_end = record { pops = may.pops; slot = may.slot; parent = may.parent }

  pub may_fork_step : {operand cells n second : ℕ} → Forks t (rows_of m u.me).routine (rows_of m u.me).place operand cells n second → MayForkStep t m u cells n
  may_fork_step fs =
      record {
        pops = may.pops;
        table = may.table;
        slot = may.slot;
        live = may.live;
        fields = λ j h. rw may.names (fs.children j h);
        divides = may.divides _ fs.some fs.most;
        most = fs.most;
        counted = may.counted;
        room = may.room;
        waiting = may.waiting;
        variables = may.variables;
        clean = may.clean;
        bound = may.bound;
      }

-- The instruction that was read is executed.
pub as_read : {listing : Listing} {moment : ℕ} {i j : Instruction} {a m : List ℕ} {u : Running} {r : Stepped} → i ≡ j → Executes listing moment j a m u r → Executes listing moment i a m u r
as_read e x = rw e x

pub as_read_on : (listing : Listing) (moment : ℕ) {i j : Instruction} (a m : List ℕ) (me : ℕ) (r : Onward) → i ≡ j → Onwards listing moment j a m me r → Onwards listing moment i a m me r
as_read_on listing moment a m me r e x = rw e x

-- ── the last kind ─────────────────────────────────────────────────────────────────────────────────
above : (j k : ℕ) → j ≤ k → (k ≡ j → ⊥) → suc j ≤ k
above j k l n = omega (arith, n)

only : (j k : ℕ) → j ≤ k → k ≤ j → k ≡ j
only j k l m = omega arith

-- A number from 1 to 7.
pub by_kind : {G : Type 0} (k : ℕ) → 1 ≤ k → k ≤ 7 → (k ≡ 1 → G) → (k ≡ 2 → G) → (k ≡ 3 → G) → (k ≡ 4 → G) → (k ≡ 5 → G) → (k ≡ 6 → G) → (k ≡ 7 → G) → G
by_kind zero l m a b c d e f g = absurd (omega arith)
by_kind (suc zero) l m a b c d e f g = a refl
by_kind (suc (suc zero)) l m a b c d e f g = b refl
by_kind (suc (suc (suc zero))) l m a b c d e f g = c refl
by_kind (suc (suc (suc (suc zero)))) l m a b c d e f g = d refl
by_kind (suc (suc (suc (suc (suc zero))))) l m a b c d e f g = e refl
by_kind (suc (suc (suc (suc (suc (suc zero)))))) l m a b c d e f g = f refl
by_kind (suc (suc (suc (suc (suc (suc (suc zero))))))) l m a b c d e f g = g refl
by_kind (suc (suc (suc (suc (suc (suc (suc (suc k)))))))) l m a b c d e f g = absurd (omega arith)

-- An instruction that needs the ready list is no `A`, `U` or `G`.
module _ {w : List ℕ} {r p kind operand cells first second : ℕ} (f : Fetched w r p kind operand cells first second)
    (n : NeedsReady (instruction_at (table_listing w) r p)) where
  pub no_schedule : kind ≡ 2 → ⊥
  unfolding NeedsReady
  no_schedule e = rw (f.schedules e).is at n

  pub no_branch : kind ≡ 3 → ⊥
  unfolding NeedsReady
  no_branch e = rw (f.branches e).is at n

  pub no_jump : kind ≡ 4 → ⊥
  unfolding NeedsReady
  no_jump e = rw (f.jumps e).is at n

module _ {w : List ℕ} {r p kind operand cells first second : ℕ} (f : Fetched w r p kind operand cells first second) where
  -- And any other needs it.
  pub needs_ready : (kind ≡ 2 → ⊥) → (kind ≡ 3 → ⊥) → (kind ≡ 4 → ⊥) → NeedsReady (instruction_at (table_listing w) r p)
  unfolding NeedsReady
  needs_ready no-2 no-3 no-4 =
      by_kind kind f.least f.most (λ e. rw (f.assigns e).is (omega arith)) (λ e. absurd (no-2 e)) (λ e. absurd (no-3 e)) (λ e. absurd (no-4 e))
      (λ e. rw (f.waits e).is (omega arith)) (λ e. rw (f.forks e).is (omega arith)) (λ e. rw (f.ends e).is (omega arith))

pub last_kind : (k : ℕ) → 1 ≤ k → k ≤ 7 → (k ≡ 1 → ⊥) → (k ≡ 2 → ⊥) → (k ≡ 3 → ⊥) → (k ≡ 4 → ⊥) → (k ≡ 5 → ⊥) → (k ≡ 6 → ⊥) → k ≡ 7
last_kind k l m n1 n2 n3 n4 n5 n6 = only 7 k (above 6 k (above 5 k (above 4 k (above 3 k (above 2 k (above 1 k l n1) n2) n3) n4) n5) n6) m
