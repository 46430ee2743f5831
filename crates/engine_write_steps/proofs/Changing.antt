-- `S` and `A` executed. Letters: a the words before, m the words after, u the running state, v the running state afterwards, x the value written.
use mathlib.Core.Path.{◌≡◌, refl, sym, ap, subst, ◌∙◌}
use mathlib.Core.Bool.{Bool, true, false, cond}
use mathlib.Core.List.{List, []}
use mathlib.Core.Option.{none, some}
use Prim.Native.Nat.{ℕ, zero, suc, ◌+◌, ◌≤◌, ◌<◌}
use native.Mathlib.Omega.{arith}
use lib.Dec.{ltb, leb}
use lib.ListN.{length}
use Rattle.words.specs.Words.{is_positive}
use Rattle.words.specs.Moments.{LaterMoment, later_at, stops_with, later_moment}
use Rattle.listing.specs.Listing.{Listing, Piece, assign, schedule}
use Rattle.walk.specs.State.{Variable, written_to, scheduled_on}
use Rattle.engine_rows.specs.Rows.{Owner, owner_of, named}
use Rattle.engine_rows.specs.Ready.{insert_all_lem}
use Rattle.engine_rows.specs.Triggers.{triggered}
use Rattle.engine_rows.specs.Engine.{RowsRunner, or_halt, value_or_halt, execute_rows}
use Rattle.engine_blocks.specs.Blocks.{block, owner_at, rows_of, environment_of}
use Rattle.engine_variables.specs.Bindings.{BoundTo}
use Rattle.engine_variables.specs.declared.Binding.{Binding}
use Rattle.engine_ready.specs.Slots.{slots_of}
use Rattle.engine_triggers.specs.Chains.{triggers_at}
use Rattle.engine_triggers.proofs.Chaining.{chained_none}
use Rattle.engine_evaluate.specs.Bound.{bindings_of, FromNames}
use Rattle.engine_steps.specs.declared.running.Running.{Running}
use Rattle.engine_steps.specs.declared.running.Answer.TheVariants.{Goes, Ends, Stops}
use Rattle.engine_steps.specs.Outcome.{left_by, RunsLive, Reading, Executes, GoesOn, ChangesName}
use Rattle.engine_steps.proofs.Stores.{stays_start}
use Rattle.engine_write_steps.proofs.Writing.{new_variable, rows_named, environment_named}
use Rattle.walk.specs.Memory.{evaluate_by}
use Rattle.engine_evaluate.specs.Evaluable.{Evaluates}

-- "`S|n|e` writes expression e to name n", and wakes.
pub assigns : (listing : Listing) (moment : ℕ) {a m : List ℕ} (u v : Running) (name x : ℕ) (e : List Piece) (binding : Binding)
    → ChangesName a m u.me name (λ y. written_to moment y x)
    → BoundTo (rows_of a u.me) name binding → name < length (bindings_of a u.me) → Evaluates a u.me e (some x)
    → slots_of v.ready ≡ insert_all_lem (rows_of a) (triggered (rows_of a) (rows_of a u.me).low (triggers_at a binding.block binding.index)) (slots_of u.ready)
    → v.live ≡ u.live → v.woken ≡ u.woken → v.me ≡ u.me
    → Executes listing moment (assign name e) a m u (record { answer = Goes; running = v })
unfolding left_by execute_rows value_or_halt RunsLive named
assigns listing moment {a} {m} u v name x e binding p bound few value ready live woken me =
    record {
      outcome = λ n triggers reading go left.
          let lists : triggers_at a binding.block binding.index ≡ triggers (owner_of (bindings_of a u.me) name) =
          reading.lists binding.block binding.index bound.block bound.index ∙ ap triggers (bound.owner few) in
          rw (sym ((value moment).equal n reading.bound), rows_named p n, environment_named p n, ready, lists, live, woken, me);
      stays = p.stays;
      clean = λ n triggers reading used. p.clean n reading.bound (rw me at used);
    }

-- A variable without a first trigger: nobody awaits it.
pub nobody_listed : (words : List ℕ) (s index : ℕ) → block words s (144 + index) ≡ 0 → triggers_at words s index ≡ []
unfolding triggers_at
nobody_listed words s index no_first = rw no_first (chained_none words 256)

-- Nobody awaits it: the ready list stays.
pub assigns_alone : (listing : Listing) (moment : ℕ) {a m : List ℕ} (me name x : ℕ) (e : List Piece) (binding : Binding)
    → ChangesName a m me name (λ y. written_to moment y x) → BoundTo (rows_of a me) name binding → name < length (bindings_of a me) → Evaluates a me e (some x)
    → triggers_at a binding.block binding.index ≡ [] → GoesOn listing moment (assign name e) a m me Goes
unfolding GoesOn triggered insert_all_lem
assigns_alone listing moment {a} {m} me name x e binding p bound few value nobody u same =
    assigns listing moment u u name x e binding (subst (λ (s : ℕ). ChangesName a m s name (λ y. written_to moment y x)) (sym same) p)
    (subst (λ (s : ℕ). BoundTo (rows_of a s) name binding) (sym same) bound) (subst (λ (s : ℕ). name < length (bindings_of a s)) (sym same) few)
    (subst (λ (s : ℕ). Evaluates a s e (some x)) (sym same) value) (rw nobody) refl refl refl

-- "18: is every divisor other than 0?"
pub assign_fails : (listing : Listing) (moment : ℕ) (a : List ℕ) (u v : Running) (name : ℕ) (e : List Piece)
    → Evaluates a u.me e none → Executes listing moment (assign name e) a a u (record { answer = Stops 18; running = v })
unfolding left_by execute_rows value_or_halt
assign_fails listing moment a u v name e fails =
    record {
      outcome = λ n triggers reading go left. rw (sym ((fails moment).equal n reading.bound));
      stays = stays_start a;
      clean = λ n triggers reading used clean. clean;
    }

pub assign_fails_alone : (listing : Listing) (moment : ℕ) (a : List ℕ) (me name : ℕ) (e : List Piece)
    → Evaluates a me e none → GoesOn listing moment (assign name e) a a me (Stops 18)
unfolding GoesOn
assign_fails_alone listing moment a me name e fails u is =
    assign_fails listing moment a u u name e (subst (λ (s : ℕ). Evaluates a s e none) (sym is) fails)

-- ── `A` ───────────────────────────────────────────────────────────────────────────────────────────
pub positive_some : (d : ℕ) → is_positive d ≡ true → 0 < d
positive_some zero e = let z : ◌≡◌ {A = ℕ} 0 1 = cc in absurd (omega arith)
positive_some (suc d) e = omega arith

later_true : (b : Bool) (k t : ℕ) → later_at k ≡ cond b (later_at t) (stops_with 17) → (b ≡ true) × (k ≡ t)
later_true true k t e = (refl, cc)
later_true false k t e = let z : ◌≡◌ {A = ℕ} 0 1 = cc in absurd (omega arith)

-- The moment is below 2 to the 64, and is the present one with the delay.
pub later_at_lem : (present delay k : ℕ) → later_at k ≡ later_moment present delay → (ltb (present + delay) 18446744073709551616 ≡ true) × (k ≡ present + delay)
later_at_lem present delay k e = later_true (ltb (present + delay) 18446744073709551616) k (present + delay) e

later_false : (b : Bool) (t : ℕ) → stops_with 17 ≡ cond b (later_at t) (stops_with 17) → b ≡ false
later_false true t e = let z : ◌≡◌ {A = ℕ} 0 1 = cc in absurd (omega arith)
later_false false t e = refl

pub too_late : (present delay : ℕ) → stops_with 17 ≡ later_moment present delay → ltb (present + delay) 18446744073709551616 ≡ false
too_late present delay e = later_false (ltb (present + delay) 18446744073709551616) (present + delay) e

-- 18, of the delay.
pub delay_fails : (a : List ℕ) (me name present : ℕ) (d e : List Piece) (listing : Listing) → Evaluates a me d none
    → GoesOn listing present (schedule name d e) a a me (Stops 18)
unfolding GoesOn left_by execute_rows value_or_halt
delay_fails a me name present d e listing fails u is =
    let no_delay = subst (λ (s : ℕ). Evaluates a s d none) (sym is) fails in
    record {
      outcome = λ n triggers reading go left. rw (sym ((no_delay present).equal n reading.bound));
      stays = stays_start a;
      clean = λ n triggers reading used clean. clean;
    }

-- 18, of the value.
pub value_fails : (a : List ℕ) (me name delay present : ℕ) (d e : List Piece) (listing : Listing) → Evaluates a me d (some delay) → Evaluates a me e none
    → GoesOn listing present (schedule name d e) a a me (Stops 18)
unfolding GoesOn left_by execute_rows value_or_halt
value_fails a me name delay present d e listing after fails u is =
    let later = subst (λ (s : ℕ). Evaluates a s d (some delay)) (sym is) after in
    let no_value = subst (λ (s : ℕ). Evaluates a s e none) (sym is) fails in
    record {
      outcome = λ n triggers reading go left. rw (sym ((later present).equal n reading.bound), sym ((no_value present).equal n reading.bound));
      stays = stays_start a;
      clean = λ n triggers reading used clean. clean;
    }

module _ {a : List ℕ} (me name delay x present : ℕ) (d e : List Piece) (listing : Listing) (after : Evaluates a me d (some delay))
    (given : Evaluates a me e (some x)) where
  -- 16: "is the delay at least 1?"
  pub delay_short : is_positive delay ≡ false → GoesOn listing present (schedule name d e) a a me (Stops 16)
  unfolding GoesOn left_by execute_rows or_halt value_or_halt
  delay_short short u is =
      let later = subst (λ (s : ℕ). Evaluates a s d (some delay)) (sym is) after in
      let value = subst (λ (s : ℕ). Evaluates a s e (some x)) (sym is) given in
      record {
        outcome = λ n triggers reading go left. rw (sym ((later present).equal n reading.bound), sym ((value present).equal n reading.bound), short);
        stays = stays_start a;
        clean = λ n triggers reading used clean. clean;
      }

  module _ (positive : is_positive delay ≡ true) where
    -- 17: "is the due moment below 2 to the 64?"
    pub moment_late : ltb (present + delay) 18446744073709551616 ≡ false → GoesOn listing present (schedule name d e) a a me (Stops 17)
    unfolding GoesOn left_by execute_rows or_halt value_or_halt
    moment_late late u is =
        let later = subst (λ (s : ℕ). Evaluates a s d (some delay)) (sym is) after in
        let value = subst (λ (s : ℕ). Evaluates a s e (some x)) (sym is) given in
        record {
          outcome = λ n triggers reading go left. rw (sym ((later present).equal n reading.bound), sym ((value present).equal n reading.bound), positive, late);
          stays = stays_start a;
          clean = λ n triggers reading used clean. clean;
        }

    scheduled : {m : List ℕ} {t : ℕ} (u : Running) → Evaluates a u.me d (some delay) → ChangesName a m u.me name (λ y. scheduled_on y t x) → Evaluates a u.me e (some x)
        → ltb (present + delay) 18446744073709551616 ≡ true → t ≡ present + delay
        → Executes listing present (schedule name d e) a m u (record { answer = Goes; running = u })
    unfolding left_by execute_rows or_halt value_or_halt RunsLive named
    scheduled u later p value below is =
        record {
          outcome = λ n triggers reading go left.
              rw (sym ((later present).equal n reading.bound), sym ((value present).equal n reading.bound), positive, below, rows_named p n, environment_named p n, is);
          stays = p.stays;
          clean = λ n triggers reading used. p.clean n reading.bound used;
        }

    -- "`A|n|d|e` puts a waiting write of e on n, d milliseconds from now".
    pub schedules : {m : List ℕ} (t : ℕ) → ChangesName a m me name (λ y. scheduled_on y t x)
        → ltb (present + delay) 18446744073709551616 ≡ true → t ≡ present + delay → GoesOn listing present (schedule name d e) a m me Goes
    unfolding GoesOn
    schedules {m} t p below is u same =
        scheduled u (subst (λ (s : ℕ). Evaluates a s d (some delay)) (sym same) after) (subst (λ (s : ℕ). ChangesName a m s name (λ y. scheduled_on y t x)) (sym same) p)
        (subst (λ (s : ℕ). Evaluates a s e (some x)) (sym same) given) below is
