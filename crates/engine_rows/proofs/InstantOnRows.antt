-- An instant on rows that hold a state of the walk, and the walk's instant from that state, have the same outcome.
-- Letters as in Place and Held.
use mathlib.Core.Path.{◌≡◌, refl, sym, ap, ap₂, subst, ◌∙◌}
use mathlib.Core.Bool.{true, false}
use mathlib.Core.List.{List, []}
use Prim.Native.Nat.{ℕ, suc, ◌≤◌}
use native.Mathlib.Omega.{arith}
use lib.ListN.{length}
use Rattle.listing.specs.Listing.{Listing}
use Rattle.walk.specs.State.{Variable, live_in_forest, State, Turn, Result, ok, ◌>>=◌}
use Rattle.walk.specs.Walk.{visit_forest}
use Rattle.walk.specs.Instant.{due_writes, due_in_forest, Write, apply_inputs, unmarked, unmarked_forest, finish, instant}
use Rattle.walk.specs.Question7.{IsState, all_at_rest}
use Rattle.walk_laws.proofs.Steps.{Within, leaves, instant_turn-within}
use Rattle.engine_rows.specs.Rows.{Owner, Rows}
use Rattle.engine_rows.specs.Triggers.{ready_of, triggers_of}
use Rattle.engine_rows.specs.Engine.{RowsRunner, RowsResult, next_ready, run_rows}
use Rattle.engine_rows.specs.Beginning.{due_in_rows, unmarked_rows, instant_on_rows}
use Rattle.engine_rows.proofs.Place.{Record, Tree, nil, put, erase, full, Rests, ready}
use Rattle.engine_rows.proofs.Priority.{Range}
use Rattle.engine_rows.proofs.Sorted.{In, slots_in}
use Rattle.engine_rows.proofs.Held.{root_count, Held, held_nil}
use Rattle.engine_rows.proofs.Waking.{Triggers}
use Rattle.engine_rows.proofs.Kept.{slots_of, Known}
use Rattle.engine_rows.proofs.Children.{used_below}
use Rattle.engine_rows.proofs.Steady.{TableFits, SteadyTree}
use Rattle.engine_rows.proofs.Begun.{begun, begun_all, begun_erase, begun_slots, begun_held, begun_range, begun_steady, Settled, state_settled, tree_rests}
use Rattle.engine_rows.proofs.Outcomes.{Goal, AsWalk, stops_alike, ends_alike}
use Rattle.engine_rows.proofs.Taking.{used_ext}
use Rattle.engine_rows.proofs.TriggerLists.{triggers_made}
use Rattle.engine_rows.proofs.Begin.{brief_nil, ready_of-is_ready}
use Rattle.engine_rows.proofs.Instant.{visit_meets}
use Rattle.engine_rows.proofs.Running.{run_meets}
use Rattle.engine_rows.proofs.Changing.{changed, due_rows, changed_due, due_live, unmarked_live, due_length, inputs_length, changed_slots, changed_range, changed_rests, changed_steady, changed_held, changed_used, changed_asleep}
use Rattle.engine_rows.proofs.Holds.{Holds, steady_single, holds_live, holds_due, unmarked_state, unmarked_holds, next_due_unmarked}
pub use Rattle.engine_rows.specs.Holds.{Agrees, SameOutcome, same_stop, same_done}
use Rattle.engine_rows.specs.Agenda.{running_with}

-- ── the same outcome ────────────────────────────────────────────────────────────────────────────
within_left : {allowance : ℕ} {o : Result Turn} {a : Turn} → Within allowance o → o ≡ ok a → a.running.left ≤ allowance
within_left {allowance} {o} {a} w e = go (subst (Within allowance) e w)
  where
    go : Within allowance (ok a) → a.running.left ≤ allowance
    go (leaves h) = h

counted : (x : Record) (c f : Tree) → root_count (put x c f) ≡ suc (root_count f)
unfolding root_count
counted x c f = refl

module _ (listing : Listing) (t : ℕ) (triggers : Owner → List ℕ) (T : TableFits listing) where
  -- the walk's end of an instant, after a run that ends as the walk's visit
  pub finish_alike : (allowance : ℕ) (whole : Result Turn) (result : RowsResult) → Within allowance whole →
      AsWalk listing t triggers 4294967296 T whole result → SameOutcome listing t allowance (whole >>= finish listing t allowance) result
  unfolding ◌>>=◌ finish unmarked_state
  finish_alike allowance whole _ w (stops_alike e) = rw e same_stop
  finish_alike allowance whole _ w (ends_alike {σ = σ} {environment = environment} {j = left} {l = live} {woken = woken} tree e h r s u all) =
      rw e (same_done (record {
        within = within_left w e;
        steps = refl;
        passed = refl;
        listed = refl;
        number = sym u ∙ holds_live before ∙ sym (unmarked_live (erase tree));
        last = last;
        moment = refl;
        before = before;
        state = refl;
        after = after;
        due = holds_due before ∙ sym (next_due_unmarked last);
      }))
    where
      last : State
      last = record { now = t; environment = environment; tree = erase tree }

      before : Holds false listing σ environment last
      before = record {
        environment_is = refl;
        tree = begun tree;
        tree_is = begun_erase tree;
        held = begun_held h;
        range = begun_range r;
        steady = begun_steady s;
        begun = begun_all tree;
        whole = λ i v. rw (begun_slots tree) (all i v);
        marked = λ m. let z : ◌≡◌ {A = ℕ} 0 1 = cc in absurd (omega arith);
      }

      after : Holds false listing (unmarked_rows σ) (unmarked environment) (record {
        now = t;
        environment = unmarked environment;
        tree = unmarked_forest (erase tree);
      })
      after = unmarked_holds before

  -- the run on rows that hold a tree, main ended or not
  visit_alike : {G : RowsResult → Type 0} {go : RowsRunner} (σ : Rows) (environment : List Variable) (allowance l : ℕ) (tree : Tree) →
      Goal listing t triggers 4294967296 T allowance (visit_forest listing t (erase tree) 0
      (running_with environment allowance l 0)) G go →
      Triggers listing σ triggers → Range 0 4294967296 tree → Rests listing false tree → Held σ true [] (length environment) tree → Known σ tree →
      SteadyTree listing environment tree → used_below σ 64 ≡ l → ((s : ℕ) → (σ s).used ≡ true → In s (slots_of tree)) →
      G (next_ready go allowance σ environment (ready_of listing σ environment) l 0)
  unfolding erase visit_forest next_ready ready slots_in
  visit_alike σ environment allowance l nil D tr r rs h k st u w =
      rw (ready_of-is_ready listing σ environment 0 4294967296 nil r rs h brief_nil k) (D.finishes (ends_alike nil refl held_nil r st u w))
  visit_alike σ environment allowance l (put x c f) D tr r rs h k st u w =
      visit_meets listing t triggers 4294967296 T σ environment allowance l 0 (put x c f) D tr r rs h k full (record {
        steady = st;
        used = u;
        lone = single;
        whole = w;
      })
    where
      most : root_count (put x c f) ≤ 1
      most = steady_single listing r st

      least : root_count (put x c f) ≡ suc (root_count f)
      least = counted x c f

      single : root_count (put x c f) ≡ 1
      single = omega (arith, most, least)

  -- The visit of an instant, due writes and inputs made.
  abbrev pub visit_at : (s : State) (σ : Rows) (environment : List Variable) → Holds true listing σ environment s → List Write → ℕ → Result Turn
  visit_at s σ environment H inputs allowance =
      visit_forest listing t (erase (changed (due_writes t) H.tree)) 0
      (running_with (apply_inputs t inputs (due_writes t environment)) allowance (live_in_forest s.tree) 0)

  pub instant_meets : {G : RowsResult → Type 0} {go : RowsRunner} (s : State) → IsState listing s → (σ : Rows) (environment : List Variable)
      (H : Holds true listing σ environment s) (inputs : List Write) (allowance : ℕ) →
      Goal listing t triggers 4294967296 T allowance (visit_at s σ environment H inputs allowance) G go → Triggers listing (due_in_rows t σ) triggers →
      G (next_ready go allowance (due_in_rows t σ) (apply_inputs t inputs (due_writes t environment))
      (ready_of listing (due_in_rows t σ) (apply_inputs t inputs (due_writes t environment))) (live_in_forest s.tree) 0)
  instant_meets s I σ environment H inputs allowance D tr =
      visit_alike σ' environment' allowance (live_in_forest s.tree) tree' D tr
      (changed_range (due_writes t) (due_length t) H.range) rests
      (subst (λ z. Held z true [] (length environment') tree') (sym (due_rows t σ))
      (rw len (changed_held (due_writes t) (due_length t) H.held)))
      (record { all = λ n a. rw slots (H.marked refl n (sym (asleep_same n) ∙ a)) })
      (rw len (changed_steady (due_writes t) (due_length t) listing H.steady))
      (used_ext σ σ' used_same 64 ∙ holds_live H)
      (λ n u. rw slots (H.whole n (sym (used_same n) ∙ u)))
    where
      σ' : Rows
      σ' = due_in_rows t σ

      environment' : List Variable
      environment' = apply_inputs t inputs (due_writes t environment)

      tree' : Tree
      tree' = changed (due_writes t) H.tree

      len : length environment' ≡ length environment
      len = inputs_length t inputs (due_writes t environment) ∙ due_length t environment

      slots : slots_of tree' ≡ slots_of H.tree
      slots = changed_slots (due_writes t) (due_length t) H.tree

      rests : Rests listing false tree'
      rests = changed_rests (due_writes t) (due_length t) listing
          (tree_rests listing (all_at_rest s.now) H.tree H.begun
          (subst (λ f. Settled listing (all_at_rest s.now) 0 f) (sym H.tree_is) (state_settled listing (all_at_rest s.now) I.tree)))

      used_same : (n : ℕ) → (σ' n).used ≡ (σ n).used
      used_same n = ap (λ r. (r n).used) (due_rows t σ) ∙ changed_used (due_writes t) (due_length t) σ n

      asleep_same : (n : ℕ) → (σ' n).asleep ≡ (σ n).asleep
      asleep_same n = ap (λ r. (r n).asleep) (due_rows t σ) ∙ changed_asleep (due_writes t) (due_length t) σ n

  -- The instant at t, its due writes and inputs made: on rows as in the walk.
  pub instant_same : (s : State) → IsState listing s → (σ : Rows) (environment : List Variable) → Holds true listing σ environment s →
      (inputs : List Write) (allowance : ℕ) → Triggers listing (due_in_rows t σ) triggers →
      SameOutcome listing t allowance (instant listing s t inputs allowance)
      (next_ready (run_rows listing t triggers allowance) allowance (due_in_rows t σ) (apply_inputs t inputs (due_writes t environment))
      (ready_of listing (due_in_rows t σ) (apply_inputs t inputs (due_writes t environment))) (live_in_forest s.tree) 0)
  unfolding instant
  instant_same s I σ environment H inputs allowance tr =
      subst (λ r. SameOutcome listing t allowance r result) same_walk
      (finish_alike allowance visited result (subst (Within allowance) (sym same_visit) (instant_turn-within listing s t inputs allowance)) alike)
    where
      σ' : Rows
      σ' = due_in_rows t σ

      environment' : List Variable
      environment' = apply_inputs t inputs (due_writes t environment)

      tree' : Tree
      tree' = changed (due_writes t) H.tree

      result : RowsResult
      result = next_ready (run_rows listing t triggers allowance) allowance σ' environment' (ready_of listing σ' environment') (live_in_forest s.tree) 0

      visited : Result Turn
      visited = visit_forest listing t (erase tree') 0 (running_with environment' allowance (live_in_forest s.tree) 0)

      alike : AsWalk listing t triggers 4294967296 T visited result
      alike = instant_meets s I σ environment H inputs allowance (run_meets listing t triggers 4294967296 T allowance visited) tr

      same_visit : visited ≡ visit_forest listing t (due_in_forest s.tree t) 0 (record {
        memory = apply_inputs t inputs (due_writes t s.environment);
        left = allowance;
        live = live_in_forest (due_in_forest s.tree t);
        woken = 0;
      })
      same_visit =
          ap₂ (λ f l. visit_forest listing t f 0 (running_with environment' allowance l 0)) (changed_due t H.tree ∙
          ap (λ f. due_in_forest f t) H.tree_is) (sym (due_live t s.tree)) ∙
          ap (λ e. visit_forest listing t (due_in_forest s.tree t) 0 (record {
            memory = apply_inputs t inputs (due_writes t e);
            left = allowance;
            live = live_in_forest (due_in_forest s.tree t);
            woken = 0;
          })) H.environment_is

      same_walk : (visited >>= finish listing t allowance) ≡ (visit_forest listing t (due_in_forest s.tree t) 0
          (record {
            memory = apply_inputs t inputs (due_writes t s.environment);
            left = allowance;
            live = live_in_forest (due_in_forest s.tree t);
            woken = 0;
          }) >>= finish listing t allowance)
      same_walk = ap (λ o. o >>= finish listing t allowance) same_visit

-- With the trigger lists that the beginning makes.
pub instant_on_rows_lem : (listing : Listing) → TableFits listing → (s : State) → IsState listing s → (σ : Rows) (environment : List Variable) →
    Holds true listing σ environment s → (t : ℕ) (inputs : List Write) (allowance : ℕ) →
    SameOutcome listing t allowance (instant listing s t inputs allowance)
    (instant_on_rows listing t (due_in_rows t σ) (apply_inputs t inputs (due_writes t environment)) (live_in_forest s.tree) allowance)
unfolding instant_on_rows
instant_on_rows_lem listing T s I σ environment H t inputs allowance =
    instant_same listing t (triggers_of listing (due_in_rows t σ)) T s I σ environment H inputs allowance
    (triggers_made listing (changed (due_writes t) H.tree) (changed_range (due_writes t) (due_length t) H.range) known)
  where
    known : Known (due_in_rows t σ) (changed (due_writes t) H.tree)
    known = record {
      all = λ n a. rw (changed_slots (due_writes t) (due_length t) H.tree)
          (H.marked refl n (sym (changed_asleep (due_writes t) (due_length t) σ n) ∙ sym (ap (λ r. (r n).asleep) (due_rows t σ)) ∙ a));
    }
