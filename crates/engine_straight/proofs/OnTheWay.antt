-- The running routine goes on without the ready list, and the whole run goes on from there. Letters as in Going.
use mathlib.Core.Path.{◌≡◌, refl, sym, ap, subst, ◌∙◌}
use mathlib.Core.List.{List}
use Prim.Native.Nat.{ℕ, suc, ◌+◌, ◌*◌, ◌-◌, ◌≤◌, ◌<◌}
use native.Mathlib.Omega.{arith}
use lib.ListN.{length}
use Rattle.walk.specs.Walk.{instruction_at}
use Rattle.table.specs.Decode.{table_listing, instruction_entry}
use Rattle.table.specs.Areas.{TableLong}
use Rattle.table.specs.Entry.{Fetched}
use Rattle.table.proofs.Bounds.{bounds}
use Rattle.table_read.specs.Opened.{code_at, entry_of}
use Rattle.table_read.specs.declared.Entry.{Entry}
use Rattle.table_read.proofs.Fetching.{has_entry, entry_fetched}
use Rattle.engine_rows.specs.Rows.{Row}
use Rattle.engine_blocks.specs.Blocks.{rows_of}
use Rattle.engine_triggers.proofs.Chaining.{lists_stay}
use Rattle.engine_steps.specs.declared.running.Running.{Running}
use Rattle.engine_steps.specs.declared.running.Answer.{Answer}
use Rattle.engine_steps.specs.declared.running.Answer.TheVariants.{Goes, Stops}
use Rattle.engine_steps.specs.declared.running.Onward.{Onward}
use Rattle.engine_steps.specs.declared.running.Onward.TheVariants.{To, StopsWith, Unmade}
use Rattle.engine_steps.specs.Outcome.{Executes, GoesOn, NeedsReady, Onwards}
use Rattle.engine_steps.proofs.Stores.{stays_then}
use Rattle.engine_run_laws.specs.Runs.{MayRunOn, RunsOn}
use Rattle.engine_run_laws.specs.Going.{Going}
use Rattle.engine_run_laws.specs.declared.Ran.TheVariants.{Stopped}
use Rattle.engine_run_laws.proofs.Going.{one_taken, going_begins, may_step_now, going_on, going_halts, still_long}
use Rattle.engine_straight.specs.Straight.{MayStepAlone, MayGoAlone, WentStraight, GoesStraight}
use Rattle.engine_straight.specs.declared.Straight.{Straight}
use Rattle.engine_straight.specs.declared.Straight.TheVariants as straight

module _ (t : List ℕ) (moment : ℕ) where
  -- ── the loop ────────────────────────────────────────────────────────────────────────────────────
  -- So far the routine in slot `me` has gone on, whoever is ready; it is at this place, and in the routine that it was in.
  pub record OnItsWay (m₀ : List ℕ) (allowance me : ℕ) (m : List ℕ) (place left : ℕ) : Type 0 where
    pub going : (u : Running) → u.me ≡ me → MayRunOn t m₀ moment allowance u → Going t moment m₀ allowance u m left u
    pub here : place ≡ (rows_of m me).place
    pub same : (rows_of m me).routine ≡ (rows_of m₀ me).routine
    pub fewer : left ≤ allowance
    pub long : length m ≡ length m₀

  module _ {m₀ : List ℕ} {allowance me : ℕ} where
    pub way_begins : (place : ℕ) → place ≡ (rows_of m₀ me).place → OnItsWay m₀ allowance me m₀ place allowance
    way_begins place here = record { going = λ u is may. going_begins t moment may; here = here; same = refl; fewer = omega arith; long = refl }

    -- what is asked before the loop
    pub may_step_first : MayGoAlone t m₀ moment allowance me → MayStepAlone t m₀ me
    may_step_first alone =
        record { ready = alone.ready; live = alone.live; woken = alone.woken; may = may_step_now t moment alone.may (going_begins t moment alone.may) }

    pub routine_few : MayGoAlone t m₀ moment allowance me → (rows_of m₀ me).routine < 64
    routine_few alone = let s = (may_step_first alone).may in let b = bounds t s.table in omega (arith, b.few, s.routine)

    pub table_long : MayGoAlone t m₀ moment allowance me → TableLong t
    table_long alone = (bounds t (may_step_first alone).may.table).words

    module _ {m : List ℕ} {place left : ℕ} (w : OnItsWay m₀ allowance me m place left) where
      pub may_step_there : MayGoAlone t m₀ moment allowance me → MayStepAlone t m me
      may_step_there alone =
          let u : Running = record { ready = alone.ready; live = alone.live; woken = alone.woken; me = me } in
          record { ready = alone.ready; live = alone.live; woken = alone.woken; may = may_step_now t moment alone.may (w.going u refl alone.may) }

      -- the entry's address
      pub entry_there : (code : ℕ) → code ≡ code_at t (rows_of m₀ me).routine → code + 5 * place ≡ instruction_entry t (rows_of m me).routine (rows_of m me).place
      entry_there code e = rw (e, w.here, w.same)

      pub fetched_there : MayGoAlone t m₀ moment allowance me → (code : ℕ) → code ≡ code_at t (rows_of m₀ me).routine → (e : Entry) → e ≡ entry_of t (code + 5 * place) →
          Fetched t (rows_of m me).routine (rows_of m me).place e.kind e.operand e.cells e.first e.second
      fetched_there alone code is e read =
          let s = (may_step_there alone).may in
          entry_fetched t s.table (rows_of m me).routine s.routine (rows_of m me).place s.place e (read ∙ ap (λ (a : ℕ). entry_of t a) (entry_there code is))

      -- it stands in the table
      pub room_there : MayGoAlone t m₀ moment allowance me → (code : ℕ) → code ≡ code_at t (rows_of m₀ me).routine → code + 5 * place + 5 ≤ 12288
      room_there alone code is =
          let s = (may_step_there alone).may in
          let b = (has_entry t s.table (rows_of m me).routine s.routine (rows_of m me).place s.place).1.1 in
          omega (arith, entry_there code is, b)

      module _ (m' : List ℕ) (some : 0 < left) (size : length m' ≡ length m) where
        abbrev Leaves : Onward → Type 0
        Leaves r = Onwards (table_listing t) moment (instruction_at (table_listing t) (rows_of m me).routine (rows_of m me).place) m m' me r

        -- the step is one of the running state u
        stepped_by : (u : Running) → u.me ≡ me → (a : Answer) → GoesOn (table_listing t) moment (instruction_at (table_listing t) (rows_of m me).routine (rows_of m me).place) m m' me a →
            Executes (table_listing t) moment (instruction_at (table_listing t) (rows_of m u.me).routine (rows_of m u.me).place) m m' u (record { answer = a; running = u })
        unfolding GoesOn
        stepped_by u is a x =
            subst (λ (s : ℕ). Executes (table_listing t) moment (instruction_at (table_listing t) (rows_of m s).routine (rows_of m s).place) m m' u (record { answer = a; running = u })) (sym is) (x u is)

        went_on : (to : ℕ) → Leaves (To to) → OnItsWay m₀ allowance me m' to (left - 1)
        unfolding Onwards
        went_on to x =
            record {
              going = λ u is may. going_on t moment (one_taken t moment (w.going u is may) some) (stepped_by u is Goes x.2) may refl;
              here = sym x.0;
              same = x.1 ∙ w.same;
              fewer = omega (arith, w.fewer);
              long = size ∙ w.long;
            }

        pub way_on : (r : Onward) (to : ℕ) → r ≡ To to → Leaves r → OnItsWay m₀ allowance me m' to (left - 1)
        way_on r to e x = went_on to (rw e at x)

        stopped_on : (k : ℕ) → Leaves (StopsWith k) → GoesStraight t moment m₀ allowance me m' (straight.StopsWith k)
        unfolding Onwards WentStraight
        stopped_on k x =
            record { went = λ u is may. going_halts t moment (one_taken t moment (w.going u is may) some) (stepped_by u is (Stops k) x) k refl; long = size ∙ w.long }

        pub way_stops : (r : Onward) (k : ℕ) → r ≡ StopsWith k → Leaves r → GoesStraight t moment m₀ allowance me m' (straight.StopsWith k)
        way_stops r k e x = stopped_on k (rw e at x)

        needs_list : Leaves Unmade → GoesStraight t moment m₀ allowance me m' (straight.At left)
        unfolding Onwards WentStraight
        needs_list x = record {
          went = λ u is may. rw x.0 (
            w.going u is may,
            w.fewer,
            λ more.
                subst (λ (s : ℕ). NeedsReady (instruction_at (table_listing t) (rows_of m s).routine (rows_of m s).place)) (sym is) x.1,
          );
          long = size ∙ w.long;
        }

        pub way_needs : (r : Onward) → r ≡ Unmade → Leaves r → GoesStraight t moment m₀ allowance me m' (straight.At left)
        way_needs r e x = needs_list (rw e at x)

      pub way_used_up : left ≡ 0 → GoesStraight t moment m₀ allowance me m (straight.At left)
      unfolding WentStraight
      way_used_up none = record { went = λ u is may. (w.going u is may, w.fewer, λ more. absurd (omega (arith, none))); long = w.long }

  -- ── the whole run ───────────────────────────────────────────────────────────────────────────────
  module _ {m₀ : List ℕ} {allowance : ℕ} {u₀ : Running} where
    pub may_run_on_now : MayRunOn t m₀ moment allowance u₀ → {m : List ℕ} {left : ℕ} {u : Running} → Going t moment m₀ allowance u₀ m left u → MayRunOn t m moment left u
    may_run_on_now may {m} {left} {u} g =
        record {
          size = still_long t moment may g;
          table = may.table;
          fits = may.fits;
          triggers = may.triggers;
          lists = λ s index h k. lists_stay m₀ m g.stays.triggers s index h ∙ may.lists s index h k;
          reached = (g.together may).reached;
          placed = g.placed;
          clean = g.clean;
          few = g.few;
        }

    pub may_go_alone : MayRunOn t m₀ moment allowance u₀ → {m : List ℕ} {left : ℕ} {u : Running} → Going t moment m₀ allowance u₀ m left u → MayGoAlone t m moment left u.me
    may_go_alone may {m} {left} {u} g = record { ready = u.ready; live = u.live; woken = u.woken; may = may_run_on_now may g }

    module _ {m m' : List ℕ} {left : ℕ} {u : Running} (g : Going t moment m₀ allowance u₀ m left u) where
      pub going_then : {left' : ℕ} {u' : Running} → Going t moment m left u m' left' u' → Going t moment m₀ allowance u₀ m' left' u'
      unfolding may_run_on_now
      going_then h =
          record {
            together = λ may. let i = h.together (may_run_on_now may g) in record { reached = i.reached; runs = i.runs ∙ (g.together may).runs };
            placed = h.placed;
            clean = h.clean;
            stays = stays_then g.stays h.stays;
            few = h.few;
          }

      pub stops_then : (k : ℕ) → RunsOn t m m' moment left u (Stopped k) → RunsOn t m₀ m' moment allowance u₀ (Stopped k)
      unfolding may_run_on_now
      stops_then k h =
          record {
            outcome = λ may. sym (g.together may).runs ∙ h.outcome (may_run_on_now may g);
            stays = stays_then g.stays h.stays;
            clean = λ y same. h.clean y same;
          }

  -- ── what the straight run said ──────────────────────────────────────────────────────────────────
  module _ (m : List ℕ) (left : ℕ) (u : Running) (m' : List ℕ) (r : Straight) where
    pub went_to : (on : ℕ) → r ≡ straight.At on → WentStraight t moment m left u m' r →
        Going t moment m left u m' on u × (on ≤ left) × (0 < on → NeedsReady (instruction_at (table_listing t) (rows_of m' u.me).routine (rows_of m' u.me).place))
    unfolding WentStraight
    went_to on e x = rw e at x

    pub went_to_stop : (k : ℕ) → r ≡ straight.StopsWith k → WentStraight t moment m left u m' r → RunsOn t m m' moment left u (Stopped k)
    unfolding WentStraight
    went_to_stop k e x = rw e at x
