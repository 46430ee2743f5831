-- The first that is ready goes on; the running routine goes on elsewhere. Letters: a the words before, m the words after, u the running state.
use mathlib.Core.Path.{◌≡◌, refl, sym, ap, subst, ◌∙◌}
use mathlib.Core.Bool.{Bool, true, false}
use mathlib.Core.List.{List, [], ◌∷◌}
use mathlib.Core.Option.{none, some}
use Prim.Native.Nat.{ℕ, zero, suc, ◌≤◌, ◌<◌}
use native.Mathlib.Nat.{le_refl}
use native.Mathlib.Omega.{arith}
use lib.Dec.{eqb}
use Rattle.listing.specs.Listing.{Listing, Piece, branch, jump, wait}
use Rattle.engine_rows.specs.Rows.{Owner, Row, Rows, with_row, at_place, named}
use Rattle.engine_rows.specs.Engine.{RowsRunner, first_place, count_if, next_ready, value_or_halt, execute_rows}
use Rattle.engine_blocks.specs.Blocks.{block, rows_of, environment_of}
use Rattle.engine_blocks.specs.Store.{with_slot}
use Rattle.engine_blocks.specs.Changes.{Changes, placed_block}
use Rattle.engine_ready.specs.Slots.{falling, slots_of}
use Rattle.engine_evaluate.specs.Bound.{FromNames}
use Rattle.engine_steps.specs.declared.running.Running.{Running}
use Rattle.engine_steps.specs.declared.running.Answer.TheVariants.{Goes, Ends, Stops}
use Rattle.engine_steps.specs.declared.running.Stepped.{Stepped}
use Rattle.engine_ready.specs.declared.ReadyList.{ReadyList}
use Rattle.engine_steps.specs.declared.running.Onward.{Onward}
use Rattle.engine_steps.specs.declared.running.Onward.TheVariants.{To, StopsWith, Unmade}
use Rattle.engine_steps.specs.Outcome.{left_by, RunsLive, Reading, Pops, Executes, GoesOn, NeedsReady, Onwards}
use Rattle.engine_steps.specs.Asked.{Slots, slots_one}
use Rattle.engine_steps.proofs.Stores.{rows_changed_lem, row_changed, environment_kept, change_stays, stays_start, placed_clean}
use Rattle.walk.specs.Walk.{branch_place}
use Rattle.walk.specs.Memory.{evaluate_by}
use Rattle.engine_evaluate.specs.Evaluable.{Evaluates}

none_left : (q : ReadyList) → q.count ≡ 0 → slots_of q ≡ []
unfolding slots_of falling
none_left q e = rw e

pub first_small : {s : ℕ} {l ss : List ℕ} → Slots l → l ≡ s ∷ ss → s < 64
first_small {s} {l} {ss} o e = go (rw e at o)
  where
    go : Slots (s ∷ ss) → s < 64
    go (slots_one h r) = h

-- Nobody is ready: the instant ends.
pub pops_none : (a : List ℕ) (u : Running) → u.ready.count ≡ 0 → Pops a a u (record { answer = Ends; running = u })
unfolding left_by next_ready
pops_none a u e =
    let nobody = none_left u.ready e in
    record { outcome = λ n go left. rw nobody; stays = stays_start a; clean = λ n live clean. clean }

module _ {a m : List ℕ} {s : ℕ} (place : ℕ) (p : Changes s a m (placed_block (block a s) place) (with_slot s (λ r. at_place r place))) (small : s < 64) where
  -- Slot s is the first.
  pub pops_first : (u v : Running) → slots_of u.ready ≡ s ∷ slots_of v.ready → v.live ≡ u.live → v.me ≡ s
      → place ≡ first_place (rows_of a s).asleep (rows_of a s).place → v.woken ≡ count_if (rows_of a s).asleep u.woken
      → Pops a m u (record { answer = Goes; running = v })
  unfolding left_by next_ready RunsLive
  pops_first u v slots live me first woken =
      record {
        outcome = λ n go left. rw (slots, rows_changed_lem (λ r. at_place r place) p, environment_kept (λ r. at_place r place) p n, first, woken, live, me);
        stays = change_stays p;
        clean = λ n used clean. placed_clean place p small (rw me at used) clean;
      }

  -- The routine goes on at `place`.
  pub jumps : (listing : Listing) (moment : ℕ) → GoesOn listing moment (jump place) a m s Goes
  unfolding GoesOn left_by execute_rows RunsLive
  jumps listing moment u me =
      record {
        outcome = λ n triggers reading go left. rw (rows_changed_lem (λ r. at_place r place) p, environment_kept (λ r. at_place r place) p n, me);
        stays = change_stays p;
        clean = λ n triggers reading used clean. placed_clean place p small (rw me at used) clean;
      }

  pub now_at : (rows_of m s).place ≡ place
  unfolding at_place
  now_at = ap (λ (r : Row). r.place) (row_changed (λ r. at_place r place) p)

  pub still_in : (rows_of m s).routine ≡ (rows_of a s).routine
  unfolding at_place
  still_in = ap (λ (r : Row). r.routine) (row_changed (λ r. at_place r place) p)

branched : (listing : Listing) (moment : ℕ) {a m : List ℕ} {u : Running} {r : Stepped} (e : List Piece) (k v target : ℕ)
    → Evaluates a u.me e (some v) → branch_place (eqb v 0) k (suc (rows_of a u.me).place) ≡ target
    → Executes listing moment (jump target) a m u r → Executes listing moment (branch e k) a m u r
unfolding execute_rows value_or_halt
branched listing moment {a} {m} {u} {r} e k v target value chosen j =
    record {
      outcome = λ n triggers reading go left. rw (sym ((value moment).equal n reading.bound), chosen) (j.outcome n triggers reading go left);
      stays = j.stays;
      clean = j.clean;
    }

-- "`U|e|k` goes to instruction k if e is 0": as `G` to that place.
pub branches : (listing : Listing) (moment : ℕ) {a : List ℕ} (m : List ℕ) {me : ℕ} (r : Onward) (e : List Piece) (k v target : ℕ)
    → Evaluates a me e (some v) → branch_place (eqb v 0) k (suc (rows_of a me).place) ≡ target
    → Onwards listing moment (jump target) a m me r → Onwards listing moment (branch e k) a m me r
unfolding Onwards GoesOn NeedsReady
branches listing moment {a} m {me} (To place) e k v target value chosen j =
    (j.0, j.1, λ u is. branched listing moment e k v target (rw is value) (rw is chosen) (j.2 u is))
branches listing moment {a} m {me} (StopsWith n) e k v target value chosen j =
    λ u is. branched listing moment e k v target (rw is value) (rw is chosen) (j u is)
branches listing moment {a} m {me} Unmade e k v target value chosen j = (j.0, j.1)

-- "18: is every divisor other than 0?"
pub branch_fails : (listing : Listing) (moment : ℕ) (a : List ℕ) (me : ℕ) (e : List Piece) (k : ℕ)
    → Evaluates a me e none → GoesOn listing moment (branch e k) a a me (Stops 18)
unfolding GoesOn left_by execute_rows value_or_halt
branch_fails listing moment a me e k fails u is =
    let value = subst (λ (s : ℕ). Evaluates a s e none) (sym is) fails in
    record {
      outcome = λ n triggers reading go left. rw (sym ((value moment).equal n reading.bound));
      stays = stays_start a;
      clean = λ n triggers reading used clean. clean;
    }

-- A wait: the next that is ready.
pub waits : (listing : Listing) (moment : ℕ) {a m : List ℕ} {u : Running} {r : Stepped} (names : List ℕ) → Pops a m u r → Executes listing moment (wait names) a m u r
unfolding execute_rows
waits listing moment names p =
    record { outcome = λ n triggers reading go left. p.outcome n go left; stays = p.stays; clean = λ n triggers reading. p.clean n }
