-- An instant that goes through turns the grower's part as `Part` says: whatever else the state holds, the part after it depends on the
-- part before it, the moment and the inputs to the grower.
-- Letters as in `Standing`; s the state before, p the part in it, d what the instant did, ws the call's inputs, r running when the visit begins.
use mathlib.Core.Path.{◌≡◌, refl, sym, ap, ap₂, ◌∙◌, subst}
use mathlib.Core.Bool.{true}
use mathlib.Core.List.{List, ◌++◌}
use Prim.Native.Nat.{ℕ, suc, ◌+◌, ◌≤◌}
use native.Mathlib.Omega.{arith}
use lib.ListN.{length, take, drop, length-append}
use lib.Seq.{take_all, take_at}
use Rattle.listing.specs.Listing.{Listing, Call, fork, end}
use Rattle.walk.specs.State.{Variable, Node, node, Forest, empty, more, ◌⊕◌, State, Running, Turn, Result, ok, ◌>>=◌, frame}
use Rattle.walk.specs.Walk.{instruction_at, enter, in_turn, resume, visit, visit_forest}
use Rattle.walk.specs.Instant.{due_writes, due_in_forest, Write, apply_inputs, unmarked, unmarked_forest, due_of_variables, due_of_node, due_of_forest, next_due, written_from, written_outputs, Done, finish, environment_size, instant, at_instant}
use Rattle.walk.specs.Calls.{inputs_rise}
use Rattle.walk.specs.Events.{events_at}
use Rattle.walk_halves.specs.Halves.{only_of}
use Rattle.walk_laws.proofs.AtRest.{length_unmarked}
use Rattle.walk_laws.proofs.Shape.{length-due_writes}
use Rattle.walk_halves.proofs.Due.{NotBefore, nothing_due, both_not_before, neither_before, append_not_before, due_writes_leave_later, due_in_both, not_before_in_either, unmarked_twice, unmarking_keeps_due}
use Rattle.walk_halves.proofs.Twin.{Has, AllAsleep, none_asleep}
use Rattle.walk_halves.proofs.Inputs.{due_writes-append, length_inputs, inputs_not_before, inputs_append}
use Rattle.walk_halves.proofs.Lent.{lent, length_lent, take_lent, due_lent, unmarked_lent, later_lent, reports_lent, own_writes, only_events, inputs_lent}
use Rattle.walk_halves.proofs.Turns.{ok_same, in_sequence, beside_nobody, visits_in_turn}
use Rattle.walk_halves.proofs.Part.{Grower, args, size, floor, mine, its, Part, next_of, seen, trim, Whole, part_after, reports_after, Turned}
use Rattle.walk_halves.proofs.Children.{theirs, anyone, TheirTurn, MyTurn, Children, children, visited_alone}
use Rattle.walk_halves.proofs.Standing.{MainRests, main_rests, Place, main_ended, main_lives, Standing, trim_not_before, trim_ended, standing_after, reports_after_lem}

-- ── what an instant leaves ────────────────────────────────────────────────────────────────────────
pub record Leaves (listing : Listing) (t : ℕ) (x : Turn) (d : Done) : Type 0 where
  pub state : d.state ≡ record { now = t; environment = unmarked x.running.memory; tree = unmarked_forest x.tree }
  pub listed : d.listed ≡ written_outputs listing x.running.memory

pub finished : (listing : Listing) (t allowance : ℕ) (x : Turn) (d : Done) → finish listing t allowance x ≡ ok d → Leaves listing t x d
unfolding finish
finished listing t allowance x d e =
    let same = ok_same _ d e in
    record { state = sym (ap (λ (a : Done). a.state) same); listed = sym (ap (λ (a : Done). a.listed) same) }

-- What is running when the visit begins.
unfoldable running_at : State → ℕ → List Write → ℕ → Running
running_at s t ws allowance = at_instant s t ws allowance

-- Main's visit: its children's, and then its own turn.
record MainVisited (listing : Listing) (t : ℕ) (names : List ℕ) (own : List Variable) (f : Forest) (r : Running) (x : Turn) : Type 0 where
  y : Turn
  visited : visit_forest listing t (due_in_forest f t) 1 (enter (due_writes t own) r) ≡ ok y
  rests : MainRests names (length r.memory) y x

module _ (listing : Listing) (t : ℕ) (growers : List Call) (at_fork : instruction_at listing 0 0 ≡ fork growers)
    (then_ends : instruction_at listing 0 1 ≡ end) where
  main_turn : (names : List ℕ) (base : ℕ) (y x : Turn) → resume listing t (instruction_at listing 0 0) (frame 0 0 0 names base) y.tree y.running ≡ ok x →
      MainRests names base y x
  unfolding resume
  main_turn names base y x e = main_rests listing t names base then_ends _ y x (rw at_fork at e)

  main_visited : (names : List ℕ) (own : List Variable) (f : Forest) (r : Running) (x : Turn) →
      visit_forest listing t (due_in_forest (more (node 0 0 names own f) empty) t) 0 r ≡ ok x → MainVisited listing t names own f r x
  unfolding visit_forest due_in_forest ◌>>=◌
  main_visited names own f r x e =
      let q = in_sequence (visit listing t (node 0 0 names (due_writes t own) (due_in_forest f t)) 0 r) _ x e in
      let same : q.a ≡ x = ap (λ k. record { running = q.a.running; tree = k }) (sym (beside_nobody q.a.tree)) ∙ ok_same _ x q.rest in
      let v = in_sequence (visit_forest listing t (due_in_forest f t) 1 (enter (due_writes t own) r)) _ q.a q.came in
      let rests = main_turn names (length r.memory) v.a q.a v.rest in
      record { y = v.a; visited = v.came; rests = subst (λ z. MainRests names (length r.memory) v.a z) same rests }

-- ── the grower's part in an instant ───────────────────────────────────────────────────────────────
-- What is known of the listing: main forks once and ends, its inputs are the model's, and so are the grower's routines.
pub record Setting (g : Grower) (listing : Listing) : Type 0 where
  pub growers : List Call
  pub at_fork : instruction_at listing 0 0 ≡ fork growers
  pub then_ends : instruction_at listing 0 1 ≡ end
  pub inputs : listing.inputs ≡ g.model.inputs
  pub has : Has (its g) listing

module _ (g : Grower) (listing : Listing) where
  pub record Stepped (t : ℕ) (ws : List Write) (p : Part) (d : Done) : Type 0 where
    pub part : Part
    pub turned : Turned g t (own_writes (args g) ws) p part (only_of g.field (events_at t d.listed))
    pub standing : Standing g listing d.state part
    pub now : d.state.now ≡ t

  whole_of : (f : Forest) (n : ℕ) → n ≡ floor g → Whole g f n
  whole_of empty n e = tt
  whole_of (more m f) n e = e

  module _ (setting : Setting g listing) where
    inputs_fit : listing.inputs ≤ size g
    unfolding environment_size
    inputs_fit = omega (arith, setting.inputs)

    -- What the grower sees when its turn comes.
    shown_in_main : (f : Forest) (t : ℕ) (ws : List Write) (environment own : List Variable) → length environment ≡ size g →
        inputs_rise listing.inputs 0 ws ≡ true →
        trim g f (lent (args g) (apply_inputs t ws (due_writes t environment) ++ due_writes t own)) ≡
        apply_inputs t (own_writes (args g) ws) (due_writes t (trim g f (lent (args g) (environment ++ own))))
    unfolding trim
    shown_in_main empty t ws environment own l rise =
        take_lent (args g) (size g) _ ∙
        ap (lent (args g)) (take_at _ (due_writes t own) (size g) (length_inputs t ws _ ∙ length-due_writes t environment ∙ l)) ∙
        inputs_lent (args g) t ws (due_writes t environment) ∙
        ap (apply_inputs t (own_writes (args g) ws)) (due_lent (args g) t environment ∙
        ap (due_writes t) (ap (lent (args g)) (sym (take_at environment own (size g) l)) ∙ sym (take_lent (args g) (size g) (environment ++ own))))
    shown_in_main (more n f) t ws environment own l rise =
        ap (lent (args g)) (inputs_append t listing.inputs 0 ws (due_writes t environment) (due_writes t own) rise
        (omega (arith, length-due_writes t environment, inputs_fit)) ∙ ap (apply_inputs t ws) (sym (due_writes-append t environment own))) ∙
        inputs_lent (args g) t ws (due_writes t (environment ++ own)) ∙ ap (apply_inputs t (own_writes (args g) ws)) (due_lent (args g) t (environment ++ own))

    module _ (s : State) (p : Part) (t : ℕ) (ws : List Write) (r : Running) (d : Done) (st : Standing g listing s p) (late : NotBefore t (next_due s))
        (memory : r.memory ≡ apply_inputs t ws (due_writes t s.environment)) where
      environment_late : NotBefore t (due_of_variables s.environment)
      unfolding next_due
      environment_late = (neither_before t (due_of_variables s.environment) (due_of_forest s.tree) late).0

      tree_late : NotBefore t (due_of_forest s.tree)
      unfolding next_due
      tree_late = (neither_before t (due_of_variables s.environment) (due_of_forest s.tree) late).1

      memory_later : NotBefore (suc t) (due_of_variables r.memory)
      memory_later = rw memory (inputs_not_before t (suc t) ws _ (due_writes_leave_later t s.environment environment_late))

      memory_long : length r.memory ≡ size g
      memory_long = ap length memory ∙ length_inputs t ws _ ∙ length-due_writes t s.environment ∙ st.sized

      -- ── main has ended: due writes and inputs alone reach the environment's variables ───────────
      all_lent : take (size g) (lent (args g) r.memory) ≡ lent (args g) r.memory
      all_lent = take_all (size g) _ (omega (arith, length_lent (args g) r.memory, memory_long))

      nobody : Turn
      nobody = record { running = r; tree = empty }

      ended_turned : p.tree ≡ empty → p.variables ≡ lent (args g) s.environment → Leaves listing t nobody d →
          Turned g t (own_writes (args g) ws) p (part_after g nobody) (only_of g.field (events_at t d.listed))
      unfolding nobody seen next_of due_of_forest visit_forest due_in_forest written_outputs reports_after
      ended_turned no-tree variables left = record {
        listing = listing;
        has = setting.has;
        s = r;
        a = nobody;
        shown = trim_ended g listing p.tree _ no-tree ∙ all_lent ∙ ap (lent (args g)) memory ∙ inputs_lent (args g) t ws _ ∙
            ap (apply_inputs t (own_writes (args g) ws)) (due_lent (args g) t s.environment ∙ ap (due_writes t) (sym variables));
        whole = rw no-tree tt;
        later = memory_later;
        none_missed = both_not_before t _ _ (rw variables (later_lent (args g) t s.environment environment_late)) (rw no-tree nothing_due);
        asleep = st.asleep;
        unmarked_variables = st.unmarked_variables;
        unmarked_tree = st.unmarked_tree;
        turn = rw no-tree;
        part = refl;
        reports = ap (λ l. only_of g.field (events_at t l)) left.listed ∙ only_events g.field t _ ∙
            ap (events_at t) (rw setting.inputs (reports_lent (args g) g.model.inputs r.memory ∙
            ap (λ l. written_from g.model.inputs (drop g.model.inputs l)) (sym all_lent)));
      }

      ended_standing : Standing g listing (record { now = t; environment = unmarked r.memory; tree = unmarked_forest empty }) (part_after g nobody)
      unfolding nobody part_after trim next_of due_of_forest unmarked_forest
      ended_standing = record {
        sized = length_unmarked r.memory ∙ memory_long;
        asleep = none_asleep;
        unmarked_variables = unmarked_twice _;
        unmarked_tree = refl;
        later = both_not_before (suc t) _ _
            (rw (all_lent, unmarking_keeps_due (lent (args g) r.memory)) (later_lent (args g) (suc t) r.memory memory_later)) nothing_due;
        place = main_ended refl refl (ap unmarked all_lent ∙ sym (unmarked_lent (args g) r.memory));
      }

      step_ended : p.tree ≡ empty → p.variables ≡ lent (args g) s.environment → Leaves listing t nobody d → Stepped t ws p d
      unfolding nobody
      step_ended no-tree variables left = record {
        part = part_after g nobody;
        turned = ended_turned no-tree variables left;
        standing = rw left.state ended_standing;
        now = ap (λ (x : State). x.now) left.state;
      }

      -- ── main lives ──────────────────────────────────────────────────────────────────────────────
      module _ (rise : inputs_rise listing.inputs 0 ws ≡ true) (names : List ℕ) (own : List Variable) (f₁ f₂ : Forest)
          (tree : s.tree ≡ more (node 0 0 names own (f₁ ⊕ (p.tree ⊕ f₂))) empty) (l : size g + length own ≡ floor g)
          (before : AllAsleep (theirs g) (anyone listing) f₁) (after : AllAsleep (theirs g) (anyone listing) f₂)
          (variables : p.variables ≡ trim g p.tree (lent (args g) (s.environment ++ own))) where
        -- Nothing of main's, nor of its children's, is due before t.
        main_late : NotBefore t (due_of_variables own) × NotBefore t (due_of_forest (f₁ ⊕ (p.tree ⊕ f₂)))
        unfolding due_of_forest
        main_late =
            let all : NotBefore t (due_of_forest (more (node 0 0 names own (f₁ ⊕ (p.tree ⊕ f₂))) empty)) = rw tree at tree_late in
            neither_before t _ _ (neither_before t (due_of_node (node 0 0 names own (f₁ ⊕ (p.tree ⊕ f₂)))) (due_of_forest empty) all).0

        before_late : NotBefore t (due_of_forest f₁)
        before_late = (not_before_in_either t f₁ (p.tree ⊕ f₂) main_late.1).0

        mine_late : NotBefore t (due_of_forest p.tree)
        mine_late = (not_before_in_either t p.tree f₂ (not_before_in_either t f₁ (p.tree ⊕ f₂) main_late.1).1).0

        after_late : NotBefore t (due_of_forest f₂)
        after_late = (not_before_in_either t p.tree f₂ (not_before_in_either t f₁ (p.tree ⊕ f₂) main_late.1).1).1

        -- What is running when the first child has its turn.
        entered : Running
        entered = enter (due_writes t own) r

        entered_long : length entered.memory ≡ floor g
        unfolding entered enter
        entered_long = length-append r.memory (due_writes t own) ∙ ap₂ ◌+◌ memory_long (length-due_writes t own) ∙ l

        entered_later : NotBefore (suc t) (due_of_variables entered.memory)
        unfolding entered enter
        entered_later = append_not_before (suc t) r.memory (due_writes t own) memory_later (due_writes_leave_later t own main_late.0)

        visit_of : Node → Running → Result Turn
        visit_of n u = visit listing t n 1 u

        their_turn : (f : Forest) → AllAsleep (theirs g) (anyone listing) f → NotBefore t (due_of_forest f) → (u : Running) (a : Turn) →
            length u.memory ≡ floor g → NotBefore (suc t) (due_of_variables u.memory) → in_turn visit_of (due_in_forest f t) u ≡ ok a →
            TheirTurn g listing t u a
        unfolding visit_of
        their_turn f k h u a long later e =
            visited_alone (theirs g) (anyone listing) t listing (λ x i. refl) f 1 u a k h long later
            (visits_in_turn listing t (due_in_forest f t) 1 u ∙ e)

        my_turn : (u : Running) (b : Turn) → length u.memory ≡ floor g → NotBefore (suc t) (due_of_variables u.memory) →
            in_turn visit_of (due_in_forest p.tree t) u ≡ ok b → MyTurn g listing t u b
        unfolding visit_of
        my_turn u b long later e =
            visited_alone (mine g) (its g) t listing setting.has p.tree 1 u b st.asleep mine_late long later
            (visits_in_turn listing t (due_in_forest p.tree t) 1 u ∙ e)

        all_turns : (y : Turn) → visit_forest listing t (due_in_forest (f₁ ⊕ (p.tree ⊕ f₂)) t) 1 entered ≡ ok y →
            Children g listing t visit_of (due_in_forest p.tree t) entered.memory y
        unfolding visit_of
        all_turns y e =
            let beside = due_in_both f₁ (p.tree ⊕ f₂) t ∙ ap (λ f. due_in_forest f₁ t ⊕ f) (due_in_both p.tree f₂ t) in
            children g listing t visit_of (due_in_forest f₁ t) (due_in_forest p.tree t) (due_in_forest f₂ t) entered y entered_long entered_later
            (λ a h. their_turn f₁ before before_late entered a entered_long entered_later h) my_turn (their_turn f₂ after after_late)
            (ap (λ f. in_turn visit_of f entered) (sym beside) ∙ sym (visits_in_turn listing t (due_in_forest (f₁ ⊕ (p.tree ⊕ f₂)) t) 1 entered) ∙ e)

        lives_turned : (x y : Turn) (all : Children g listing t visit_of (due_in_forest p.tree t) entered.memory y) →
            MainRests names (size g) y x → Leaves listing t x d →
            Turned g t (own_writes (args g) ws) p (part_after g all.b) (only_of g.field (events_at t d.listed))
        unfolding entered enter seen next_of visit_of
        lives_turned x y all rests left = record {
          listing = listing;
          has = setting.has;
          s = all.s;
          a = all.b;
          shown = ap (trim g p.tree) (all.shown ∙ ap (λ m. lent (args g) (m ++ due_writes t own)) memory) ∙
              shown_in_main p.tree t ws s.environment own st.sized rise ∙
              ap (λ m. apply_inputs t (own_writes (args g) ws) (due_writes t m)) (sym variables);
          whole = whole_of p.tree _ all.long;
          later = all.later;
          none_missed = both_not_before t _ _ (rw variables (trim_not_before g listing t p.tree _
              (later_lent (args g) t _ (append_not_before t s.environment own environment_late main_late.0)))) mine_late;
          asleep = st.asleep;
          unmarked_variables = st.unmarked_variables;
          unmarked_tree = st.unmarked_tree;
          turn = visits_in_turn listing t (due_in_forest p.tree t) 1 all.s ∙ all.turn;
          part = refl;
          reports = ap (λ l. only_of g.field (events_at t l)) left.listed ∙
              reports_after_lem g listing t _ _ _ y names all x setting.inputs rests;
        }

        lives_stepped : (x y : Turn) → Children g listing t visit_of (due_in_forest p.tree t) entered.memory y →
            MainRests names (size g) y x → Leaves listing t x d → Stepped t ws p d
        lives_stepped x y all rests left = record {
          part = part_after g all.b;
          turned = lives_turned x y all rests left;
          standing = subst (λ z. Standing g listing z (part_after g all.b)) (sym left.state)
              (standing_after g listing t _ _ _ y names all x rests);
          now = ap (λ (z : State). z.now) left.state;
        }

        step_lives : (x : Turn) → visit_forest listing t (due_in_forest s.tree t) 0 r ≡ ok x → Leaves listing t x d → Stepped t ws p d
        unfolding entered
        step_lives x e left =
            let main = main_visited listing t setting.growers setting.at_fork setting.then_ends names own (f₁ ⊕ (p.tree ⊕ f₂)) r x
            (rw tree at e) in
            lives_stepped x main.y (all_turns main.y main.visited) (rw memory_long at main.rests) left

    -- ── any state ─────────────────────────────────────────────────────────────────────────────────
    step_by_place : (s : State) (p : Part) (t : ℕ) (ws : List Write) (allowance : ℕ) (d : Done) (x : Turn) → Standing g listing s p →
        NotBefore t (next_due s) →
        inputs_rise listing.inputs 0 ws ≡ true → visit_forest listing t (due_in_forest s.tree t) 0 (running_at s t ws allowance) ≡ ok x →
        Leaves listing t x d → Place g listing s.environment s.tree p → Stepped t ws p d
    unfolding running_at visit_forest due_in_forest nobody
    step_by_place s p t ws allowance d x st late rise e left (main_ended no_main no-tree variables) =
        let r = running_at s t ws allowance in
        let came : visit_forest listing t (due_in_forest empty t) 0 r ≡ ok x = subst (λ f. visit_forest listing t (due_in_forest f t) 0 r ≡ ok x) no_main e in
        step_ended s p t ws r d st late refl no-tree variables (subst (λ z. Leaves listing t z d) (sym (ok_same _ x came)) left)
    step_by_place s p t ws allowance d x st late rise e left (main_lives names own f₁ f₂ tree l before after variables) =
        step_lives s p t ws (running_at s t ws allowance) d st late refl rise names own f₁ f₂ tree l before after variables x e left

    pub instant_steps : (s : State) (p : Part) (t : ℕ) (ws : List Write) (allowance : ℕ) (d : Done) → Standing g listing s p → NotBefore t (next_due s) →
        inputs_rise listing.inputs 0 ws ≡ true → instant listing s t ws allowance ≡ ok d → Stepped t ws p d
    unfolding instant running_at
    instant_steps s p t ws allowance d st late rise e =
        let q = in_sequence (visit_forest listing t (due_in_forest s.tree t) 0 (running_at s t ws allowance)) (finish listing t allowance) d e in
        step_by_place s p t ws allowance d q.a st late rise q.came (finished listing t allowance q.a d q.rest) st.place
