-- A routine ends, and its parent goes on or loses a child. Letters: a the words before, b in between, m the words after, u the running state, p the parent's slot.
use mathlib.Core.Path.{◌≡◌, refl, sym, ap, ◌∙◌, fun_ext}
use mathlib.Core.Bool.{Bool, true, false}
use mathlib.Core.List.{List}
use Prim.Native.Nat.{ℕ, zero, suc, ◌-◌, ◌≤◌, ◌<◌}
use native.Mathlib.Decide.{ℕ_discrete}
use native.Mathlib.Omega.{arith}
use lib.Dec.{eqb}
use lib.ListN.{length}
use borrow.Author.Tests.{eq-eqb, ne_eqb}
use Rattle.listing.specs.Listing.{Listing, end}
use Rattle.engine_rows.specs.Rows.{Row, Rows, choose_row, with_row, at_place, with_children, free_row}
use Rattle.engine_rows.specs.Engine.{RowsRunner, next_ready, join_rows, end_rows, execute_rows}
use Rattle.engine_blocks.specs.Blocks.{Block, block, rows_of, environment_of}
use Rattle.engine_blocks.specs.Store.{with_slot}
use Rattle.engine_blocks.specs.Changes.{Changes, put_in, cleared, placed_block}
use Rattle.engine_blocks.proofs.RowChanges.{with_row_other}
use Rattle.engine_clean.specs.Clean.{Clean}
use Rattle.engine_clean.proofs.Whole.{slot_keeps_clean, working_slot, freed_slot}
use Rattle.engine_ready.specs.Slots.{slots_of}
use Rattle.engine_steps.specs.declared.running.Running.{Running}
use Rattle.engine_steps.specs.declared.running.Answer.TheVariants.{Goes, Ends}
use Rattle.engine_steps.specs.declared.running.Stepped.{Stepped}
use Rattle.engine_steps.specs.Outcome.{left_by, RunsLive, Reading, Pops, Joins, Executes}
use Rattle.engine_steps.specs.Asked.{MayPop}
use Rattle.engine_steps.proofs.Stores.{rows_changed_lem, environment_kept, row_changed, change_stays, stays_then, live_word, placed_clean}

with_row_twice : (rows : Rows) (p : ℕ) (x y : Row) → with_row (with_row rows p x) p y ≡ with_row rows p y
unfolding with_row choose_row
with_row_twice rows p x y = fun_ext λ n. go n (eqb n p)
  where
    go : (n : ℕ) (b : Bool) → choose_row b y (choose_row b x (rows n)) ≡ choose_row b y (rows n)
    go n true = refl
    go n false = refl

-- ── what a row's change leaves of the sleepers ────────────────────────────────────────────────────
module _ {s : ℕ} {a b : List ℕ} {c : Block} (f : Row → Row) (q : Changes s a b c (with_slot s f)) where
  pub row_elsewhere : (k : ℕ) → (k ≡ s → ⊥) → rows_of b k ≡ rows_of a k
  row_elsewhere k d = ap (λ (rows : Rows). rows k) (rows_changed_lem f q) ∙ with_row_other (rows_of a) s (f (rows_of a s)) k d

  -- A change that leaves a sleeper at its place and wakes, or frees, all others.
  pub may_still_pop : ((r : Row) → (f r).asleep ≡ true → (r.asleep ≡ true) × ((f r).place ≡ r.place)) → (u v : Running)
      → v.ready ≡ u.ready → v.woken ≡ u.woken → MayPop a u → MayPop b v
  may_still_pop keep u v ready woken may =
      record {
        size = let e = q.outside.size in let h = may.size in omega arith;
        few = rw ready may.few;
        slots = rw ready may.slots;
        woken = rw woken may.woken;
        sleepers = λ k h. go k h (ℕ_discrete k s);
      }
    where
      go : (k : ℕ) → (rows_of b k).asleep ≡ true → Dec (k ≡ s) → suc (rows_of b k).place < 4294967296
      go k h (yes e) =
          let here : rows_of b k ≡ f (rows_of a s) = ap (rows_of b) e ∙ row_changed f q in
          let g = keep (rows_of a s) (sym (ap (λ (r : Row). r.asleep) here) ∙ h) in
          let bound = may.sleepers s g.0 in
          let same : (rows_of b k).place ≡ (rows_of a s).place = ap (λ (r : Row). r.place) here ∙ g.1 in
          omega arith
      go k h (no d) =
          let same = row_elsewhere k d in
          let bound = may.sleepers k (sym (ap (λ (r : Row). r.asleep) same) ∙ h) in
          let placed : (rows_of b k).place ≡ (rows_of a k).place = ap (λ (r : Row). r.place) same in
          omega arith

pub children_asleep : (n : ℕ) (r : Row) → (with_children r n).asleep ≡ true → (r.asleep ≡ true) × ((with_children r n).place ≡ r.place)
unfolding with_children
children_asleep n r h = (h, refl)

pub free_awake : (r : Row) → free_row.asleep ≡ true → (r.asleep ≡ true) × (free_row.place ≡ r.place)
unfolding free_row
free_awake r h = let z : ◌≡◌ {A = ℕ} 0 1 = cc in absurd (omega arith)

-- Another row's place fits after a slot is freed, and so does the place of that slot.
pub freed_place : {s : ℕ} {a b : List ℕ} {c : Block} → Changes s a b c (with_slot s (λ r. free_row)) → (p : ℕ)
    → suc (rows_of a p).place < 4294967296 → suc (rows_of b p).place < 4294967296
unfolding free_row
freed_place {s} {a} {b} q p l = go (ℕ_discrete p s)
  where
    go : Dec (p ≡ s) → suc (rows_of b p).place < 4294967296
    go (yes e) = let z : (rows_of b p).place ≡ 0 = ap (λ (r : Row). r.place) (ap (rows_of b) e ∙ row_changed (λ r. free_row) q) in omega arith
    go (no d) = let z : (rows_of b p).place ≡ (rows_of a p).place = ap (λ (r : Row). r.place) (row_elsewhere (λ r. free_row) q p d) in omega arith

-- ── a join ────────────────────────────────────────────────────────────────────────────────────────
module _ {a b : List ℕ} {p : ℕ} (k : ℕ) (q : Changes p a b (put_in (block a p) 106 k) (with_slot p (λ r. with_children r k))) (h : p < 64) where
  children_clean : {n : ℕ} → (rows_of a p).used ≡ true → Clean n a → Clean n b
  children_clean used clean =
      slot_keeps_clean q.in_block h (working_slot (block a p) 106 k (omega arith) (live_word a p h used) (clean.slots p h)) clean

  -- Others live.
  pub joins_others : {m : List ℕ} {u : Running} {r : Stepped} → k ≡ (rows_of a p).children - 1 → ((rows_of a p).children ≡ 1 → ⊥) → Pops b m u r → Joins a m u p r
  unfolding join_rows
  joins_others {m} {u} {r} less some pops =
      record {
        outcome = λ n go left.
            rw (ne_eqb _ 1 some, ← less) (rw (rows_changed_lem (λ r. with_children r k) q, environment_kept (λ r. with_children r k) q n) at (pops.outcome n go left));
        stays = stays_then (change_stays q) pops.stays;
        clean = λ n used live clean. pops.clean n live (children_clean used clean);
      }

  -- It was the last.
  module _ {m : List ℕ} (place : ℕ) (t : Changes p b m (placed_block (block b p) place) (with_slot p (λ r. at_place r place))) where
    last_rows : rows_of m ≡ with_row (rows_of a) p (at_place (with_children (rows_of a p) k) place)
    last_rows =
        rows_changed_lem (λ r. at_place r place) t ∙ ap (λ (r : Row). with_row (rows_of b) p (at_place r place)) (row_changed (λ r. with_children r k) q)
        ∙ ap (λ (rows : Rows). with_row rows p (at_place (with_children (rows_of a p) k) place)) (rows_changed_lem (λ r. with_children r k) q)
        ∙ with_row_twice (rows_of a) p _ _

    pub joins_last : (u v : Running) → k ≡ 0 → place ≡ suc (rows_of a p).place → (rows_of a p).children ≡ 1
        → v.ready ≡ u.ready → v.live ≡ u.live → v.woken ≡ u.woken → v.me ≡ p → Joins a m u p (record { answer = Goes; running = v })
    unfolding join_rows left_by RunsLive
    joins_last u v none next one ready live woken me =
        record {
          outcome = λ n go left.
              rw (eq-eqb _ 1 one, last_rows, none, next, environment_kept (λ r. at_place r place) t n, environment_kept (λ r. with_children r k) q n, ready, live, woken, me);
          stays = stays_then (change_stays q) (change_stays t);
          clean = λ n used alive clean. placed_clean place t h (rw me at alive) (children_clean used clean);
        }

-- ── the end ───────────────────────────────────────────────────────────────────────────────────────
module _ {a b : List ℕ} (u v : Running) (q : Changes u.me a b (cleared 0 144 (block a u.me)) (with_slot u.me (λ r. free_row))) (h : u.me < 64)
    (ready : v.ready ≡ u.ready) (live : v.live ≡ u.live - 1) (woken : v.woken ≡ u.woken) (listing : Listing) (moment : ℕ) where
  freed_clean : {n : ℕ} → Clean n a → Clean n b
  freed_clean clean = slot_keeps_clean q.in_block h (freed_slot (block a u.me)) clean

  -- Main's end ends the instant.
  pub ends_main : (rows_of a u.me).level ≡ 0 → Executes listing moment end a b u (record { answer = Ends; running = v })
  unfolding execute_rows end_rows left_by
  ends_main main =
      record {
        outcome = λ n triggers reading go left.
            rw (eq-eqb _ 0 main, rows_changed_lem (λ r. free_row) q, environment_kept (λ r. free_row) q n, live, woken);
        stays = change_stays q;
        clean = λ n triggers reading alive clean. freed_clean clean;
      }

  pub ends_child : {m : List ℕ} {r : Stepped} → ((rows_of a u.me).level ≡ 0 → ⊥) → Joins b m v (rows_of a u.me).parent r → Executes listing moment end a m u r
  unfolding execute_rows end_rows
  ends_child {m} {r} deeper j =
      record {
        outcome = λ n triggers reading go left.
            rw (ne_eqb _ 0 deeper)
            (rw (rows_changed_lem (λ r. free_row) q, environment_kept (λ r. free_row) q n, ready, live, woken) at (j.outcome n go left));
        stays = stays_then (change_stays q) j.stays;
        clean = λ n triggers reading alive clean.
            let up = reading.parent ((rows_of a u.me).level - 1) (omega (arith, deeper)) in
            j.clean n (ap (λ (x : Row). x.used) (row_elsewhere (λ r. free_row) q (rows_of a u.me).parent up.1) ∙ up.0) alive (freed_clean clean);
      }
