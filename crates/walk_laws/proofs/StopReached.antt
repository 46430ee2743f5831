-- Where the walk stops with k, it has reached an instruction at which question k is the first no.
-- Letters as in the walk: `me` is the routine's frame, s what is running, k a question's number, n a node,
-- cs child fields; a is the turn that an outcome holds.
use mathlib.Core.Path.{◌≡◌, refl, sym, ◌∙◌}
use mathlib.Core.Bool.{Bool, true, false}
use mathlib.Core.List.{List}
use mathlib.Core.Option.{Option, none, some}
use Prim.Native.Nat.{ℕ, zero, suc, ◌+◌, ◌≤◌}
use lib.Dec.{eqb, ltb, leb}
use lib.ListN.{length}
use borrow.Author.Tests.{ltb-false, leb-true, leb-false}
use native.Mathlib.Nat.{le_refl, le_trans}
use native.Mathlib.Omega.{arith}
use native.Mathlib.Decide.{dec_le}
use Rattle.words.specs.Words.{is_positive}
use Rattle.words.specs.Moments.{moment_range}
use Rattle.listing.specs.Listing.{Listing, Piece, Call, Instruction, assign, schedule, branch, jump, wait, fork, end}
use Rattle.walk.specs.State.{Variable, Node, node, Forest, empty, more, ◌⊕◌, Running, Turn, Result, stop, ok, ◌>>=◌, with_memory, Frame, go_to, next, frame}
use Rattle.walk.specs.Memory.{write_at, schedule_at, address_of, any_written, named_in, evaluate}
use Rattle.walk.specs.Walk.{branch_place, instruction_at, instruction_of, new_routines, child_count, enter, sleep, leave, goes_to, forks, asking, with_value, move, in_turn, begin, join, carry_out, execute, run, passed_wait, wake, resume, visit, visit_forest}
use Rattle.walk_laws.specs.Stops.{DividesByZero, FirstNo, no_step, no_room, too_deep, zero_in_value, zero_in_condition, zero_in_delay, zero_in_later_value, no_delay, too_late, step_taken, forked, full_run, Forks, RunReaches, here, onward, in_child, after_children, NewReach, first, later, VisitReaches, in_children, woken, joined, ForestReaches, first_visited, later_visited}
use Rattle.walk_laws.proofs.Steps.{in_turn-within, begin_within}
use Rattle.walk_laws.proofs.Failing.{fails_exactly_if}
use Rattle.walk_laws.proofs.FullRun.{left_by, full_frugal, full_without_steps, full_takes_step}

-- ── outcomes ──────────────────────────────────────────────────────────────────────────────────────
pub ok_is_not_stop : {A B : Type 0} {k : ℕ} {a : A} → ok a ≡ stop k → B
ok_is_not_stop e = absurd (let z : ◌≡◌ {A = ℕ} 0 1 = cc in let impossible : ⊥ = omega arith in impossible)

-- One part after another stops: the first does, or it answers and the second does.
pub data ThenStops {A B : Type 0} (k : ℕ) (x : Result A) (f : A → Result B) : Type 0 where
  at_once : x ≡ stop k → ThenStops k x f
  afterwards : (a : A) → x ≡ ok a → f a ≡ stop k → ThenStops k x f

pub then_stops : {A B : Type 0} (k : ℕ) (x : Result A) (f : A → Result B) → (x >>= f) ≡ stop k → ThenStops k x f
unfolding ◌>>=◌
then_stops k (stop j) f e = at_once cc
then_stops k (ok a) f e = afterwards a refl e

-- What only puts the answer in another form does not stop.
pub formed_stops : {A B : Type 0} (k : ℕ) (x : Result A) (f : A → B) → (x >>= λ (a : A). ok (f a)) ≡ stop k → x ≡ stop k
unfolding ◌>>=◌
formed_stops k (stop j) f e = cc
formed_stops k (ok a) f e = ok_is_not_stop e

module _ (listing : Listing) (now k : ℕ) where
  abbrev Reaches : Frame → Running → Type 0
  Reaches me s = RunReaches listing now (FirstNo now k) me s

  -- Every stop of a run with at most so many steps left has its cause.
  abbrev Caused : ℕ → Type 0
  Caused bound = (me : Frame) (s : Running) → s.left ≤ bound → full_run listing now me s ≡ stop k → Reaches me s

  stops_here : (me : Frame) (s : Running) (number : ℕ) (i : Instruction) → instruction_of listing me ≡ i →
      FirstNo now number me s i → ◌≡◌ {A = Result Turn} (stop number) (stop k) → Reaches me s
  stops_here me s number i at q e =
      let same : number ≡ k = cc in
      let q' : FirstNo now k me s i = rw same at q in
      here {me = me} {s = s} (rw at q')

  -- ── new routines ────────────────────────────────────────────────────────────────────────────────
  module _ (bound : ℕ) (caused : Caused bound) where
    begin_caused : (level : ℕ) (n : Node) (ns : Forest) (s : Running) → s.left ≤ bound → begin (full_run listing now) level n s ≡ stop k →
        NewReach listing now (FirstNo now k) level (more n ns) s
    unfolding begin enter
    begin_caused level (node r place names own children) ns s l e = first (caused (frame level r place names (length s.memory)) (enter own s) l e)

    more_caused : (level : ℕ) (n : Node) (ns : Forest) (s : Running) → s.left ≤ bound →
        ((u : Running) → u.left ≤ bound → in_turn (begin (full_run listing now) level) ns u ≡ stop k → NewReach listing now (FirstNo now k) level ns u) →
        ThenStops {B = Turn} k (begin (full_run listing now) level n s) (λ (a : Turn). in_turn (begin (full_run listing now) level) ns a.running >>= λ (b : Turn).
        ok (record { running = b.running; tree = a.tree ⊕ b.tree })) → NewReach listing now (FirstNo now k) level (more n ns) s
    more_caused level n ns s l others (at_once e) = begin_caused level n ns s l e
    more_caused level n ns s l others (afterwards a e f) = later e (others a.running few (formed_stops k _ _ f))
      where
        few : a.running.left ≤ bound
        few = le_trans (left_by a (begin_within (full_run listing now) (full_frugal listing now) level n s) e) l

    new_caused : (level : ℕ) (f : Forest) (s : Running) → s.left ≤ bound → in_turn (begin (full_run listing now) level) f s ≡ stop k →
        NewReach listing now (FirstNo now k) level f s
    unfolding in_turn
    new_caused level empty s l e = ok_is_not_stop e
    new_caused level (more n ns) s l e = more_caused level n ns s l (λ u m g. new_caused level ns u m g) (then_stops k _ _ e)

    -- ── one instruction ───────────────────────────────────────────────────────────────────────────
    -- The routine is at this instruction, with a step left.
    module _ (me : Frame) (s : Running) (step : 1 ≤ s.left) (l : s.left ≤ suc bound) where
      -- It leads on to another of the same routine.
      goes_on : (to : ℕ) (memory : List Variable) → move now (instruction_of listing me) me s.live s.memory ≡ goes_to to memory →
          carry_out listing now (full_run listing now) (goes_to to memory) me (step_taken s) ≡ stop k → Reaches me s
      unfolding carry_out
      goes_on to memory leads e = onward step leads (caused (go_to me to) (with_memory (step_taken s) memory) (omega arith) e)

      join_caused : (cs : List Call) (a : Turn) → Forks listing me s cs →
          in_turn (begin (full_run listing now) (suc me.level)) (new_routines listing now s.memory me.names cs) (forked cs s) ≡ ok a →
          (t : Forest) → a.tree ≡ t → join (full_run listing now) me t a.running ≡ stop k → Reaches me s
      unfolding join sleep
      join_caused cs a f e empty t g =
          after_children f e t (caused (next me) a.running
          (le_trans (left_by a (in_turn-within _ (begin_within (full_run listing now) (full_frugal listing now) (suc me.level)) _ _) e) (omega arith)) g)
      join_caused cs a f e (more n ns) t g = ok_is_not_stop g

      children_caused : (cs : List Call) → Forks listing me s cs →
          carry_out listing now (full_run listing now) (forks cs) me (step_taken s) ≡ stop k → Reaches me s
      unfolding carry_out
      children_caused cs f e = by_children (then_stops k _ _ e)
        where
          by_children : ThenStops k (in_turn (begin (full_run listing now) (suc me.level)) (new_routines listing now s.memory me.names cs) (forked cs s))
              (λ (a : Turn). join (full_run listing now) me a.tree a.running) → Reaches me s
          by_children (at_once g) = in_child f (new_caused (suc me.level) _ (forked cs s) (omega arith) g)
          by_children (afterwards a g h) = join_caused cs a f g a.tree refl h

      fork_caused : (cs : List Call) → instruction_of listing me ≡ fork cs → (fits shallow : Bool) →
          leb (s.live + child_count cs) 64 ≡ fits → leb me.level 9 ≡ shallow →
          carry_out listing now (full_run listing now) (asking 14 fits (asking 15 shallow (forks cs))) me (step_taken s) ≡ stop k → Reaches me s
      unfolding asking carry_out
      fork_caused cs i false shallow x y e = stops_here me s 14 (fork cs) i (no_room step (leb-false _ 64 x)) e
      fork_caused cs i true false x y e = stops_here me s 15 (fork cs) i (too_deep step (leb-true _ 64 x) (leb-false me.level 9 y)) e
      fork_caused cs i true true x y e =
          children_caused cs (record { at = i; step = step; room = leb-true _ 64 x; shallow = leb-true me.level 9 y }) e

      none_by_zero : (e : List Piece) → evaluate now s.memory me.names e ≡ none → DividesByZero now me s e
      unfolding evaluate
      none_by_zero e z = (fails_exactly_if now (named_in s.memory me.names) e).0 z

      -- `S` and `U`: 18 is asked of one expression.
      one_caused : (i : Instruction) (e : List Piece) (leads : ℕ → ℕ) (leaves : ℕ → List Variable) → instruction_of listing me ≡ i →
          (DividesByZero now me s e → FirstNo now 18 me s i) → (r : Option ℕ) → evaluate now s.memory me.names e ≡ r →
          move now i me s.live s.memory ≡ with_value r (λ v. goes_to (leads v) (leaves v)) →
          carry_out listing now (full_run listing now) (with_value r (λ v. goes_to (leads v) (leaves v))) me (step_taken s) ≡ stop k → Reaches me s
      unfolding with_value carry_out
      one_caused i e leads leaves at cause none x m g = stops_here me s 18 i at (cause (none_by_zero e x)) g
      one_caused i e leads leaves at cause (some v) x m g = goes_on (leads v) (leaves v) (rw at m) g

      asked_caused : (n : ℕ) (d e : List Piece) (delay v : ℕ) → evaluate now s.memory me.names d ≡ some delay →
          evaluate now s.memory me.names e ≡ some v → instruction_of listing me ≡ schedule n d e → (positive fits : Bool) →
          is_positive delay ≡ positive → ltb (now + delay) moment_range ≡ fits → (memory : List Variable) →
          move now (schedule n d e) me s.live s.memory ≡ asking 16 positive (asking 17 fits (goes_to (suc me.place) memory)) →
          carry_out listing now (full_run listing now) (asking 16 positive (asking 17 fits (goes_to (suc me.place) memory))) me (step_taken s) ≡ stop k →
          Reaches me s
      unfolding asking carry_out
      asked_caused n d e delay v h u i false fits x y memory m g = stops_here me s 16 (schedule n d e) i (no_delay step h u x) g
      asked_caused n d e delay v h u i true false x y memory m g =
          stops_here me s 17 (schedule n d e) i (too_late step h u x (ltb-false _ moment_range y)) g
      asked_caused n d e delay v h u i true true x y memory m g = goes_on (suc me.place) memory (rw i m) g

      schedule_caused : (n : ℕ) (d e : List Piece) → instruction_of listing me ≡ schedule n d e → (q r : Option ℕ) →
          evaluate now s.memory me.names d ≡ q → evaluate now s.memory me.names e ≡ r →
          move now (schedule n d e) me s.live s.memory ≡ with_value q (λ delay. with_value r (λ v.
          asking 16 (is_positive delay) (asking 17 (ltb (now + delay) moment_range)
          (goes_to (suc me.place) (schedule_at s.memory (address_of me.names n) (now + delay) v))))) →
          carry_out listing now (full_run listing now) (with_value q (λ delay. with_value r (λ v.
          asking 16 (is_positive delay) (asking 17 (ltb (now + delay) moment_range)
          (goes_to (suc me.place) (schedule_at s.memory (address_of me.names n) (now + delay) v)))))) me (step_taken s) ≡ stop k →
          Reaches me s
      unfolding with_value carry_out
      schedule_caused n d e i none r x y m g = stops_here me s 18 (schedule n d e) i (zero_in_delay step (none_by_zero d x)) g
      schedule_caused n d e i (some delay) none x y m g = stops_here me s 18 (schedule n d e) i (zero_in_later_value step x (none_by_zero e y)) g
      schedule_caused n d e i (some delay) (some v) x y m g = asked_caused n d e delay v x y i _ _ refl refl _ m g

      execute_caused : (i : Instruction) → instruction_of listing me ≡ i →
          execute listing now (full_run listing now) i me (step_taken s) ≡ stop k → Reaches me s
      unfolding execute move carry_out sleep leave
      execute_caused (assign n e) i g =
          one_caused (assign n e) e (λ v. suc me.place) (λ v. write_at now s.memory (address_of me.names n) v) i (zero_in_value step) _ refl refl g
      execute_caused (schedule n d e) i g = schedule_caused n d e i _ _ refl refl refl g
      execute_caused (branch e to) i g =
          one_caused (branch e to) e (λ v. branch_place (eqb v 0) to (suc me.place)) (λ v. s.memory) i (zero_in_condition step) _ refl refl g
      execute_caused (jump to) i g = goes_on _ _ (rw i) g
      execute_caused (wait ns) i g = ok_is_not_stop g
      execute_caused (fork cs) i g = fork_caused cs i _ _ refl refl g
      execute_caused end i g = ok_is_not_stop g

  -- ── a routine's run ─────────────────────────────────────────────────────────────────────────────
  caused_without_steps : (me : Frame) (s : Running) → s.left ≡ 0 → full_run listing now me s ≡ stop k → Reaches me s
  caused_without_steps me s z e =
      let stopped : ◌≡◌ {A = Result Turn} (stop 13) (stop k) = sym (full_without_steps listing now me s z) ∙ e in
      stops_here me s 13 (instruction_of listing me) refl (no_step z) stopped

  caused_up_to : (bound : ℕ) → Caused bound
  caused_up_to zero me s l e = caused_without_steps me s (omega arith) e
  caused_up_to (suc bound) me s l e = by_steps (caused_up_to bound) (dec_le 1 s.left)
    where
      by_steps : Caused bound → Dec (1 ≤ s.left) → Reaches me s
      by_steps fewer (yes step) =
          execute_caused bound fewer me s step l (instruction_of listing me) refl (sym (full_takes_step listing now me s step) ∙ e)
      by_steps fewer (no h) = caused_without_steps me s (omega (arith, h)) e

  pub run_reaches : (me : Frame) (s : Running) → full_run listing now me s ≡ stop k → RunReaches listing now (FirstNo now k) me s
  run_reaches me s e = caused_up_to s.left me s (le_refl _) e

  pub new_reaches : (level : ℕ) (n : Node) (ns : Forest) (s : Running) → begin (full_run listing now) level n s ≡ stop k →
      NewReach listing now (FirstNo now k) level (more n ns) s
  new_reaches level n ns s e = begin_caused s.left (caused_up_to s.left) level n ns s (le_refl _) e

  -- ── the visit ───────────────────────────────────────────────────────────────────────────────────
  -- The stop 0, which stands for a routine asleep at neither `W` nor `F`, is left out.
  module _ (some-question : 1 ≤ k) where
    not_0 : {A : Type 0} → ◌≡◌ {A = Result Turn} (stop 0) (stop k) → A
    not_0 e = absurd (let z : 0 ≡ k = cc in let impossible : ⊥ = omega arith in impossible)

    module _ (r place : ℕ) (names : List ℕ) (own : List Variable) (children : Forest) (level : ℕ) (s : Running) where
      -- Its live children visited, which left a, the routine stops in its own turn.
      module _ (a : Turn) (visited : visit_forest listing now children (suc level) (enter own s) ≡ ok a) where
        wake_reached : (ns : List ℕ) → instruction_at listing r place ≡ wait ns → (written : Bool) → any_written a.running.memory names ns ≡ written →
            wake listing now written (frame level r place names (length s.memory)) a.running ≡ stop k →
            VisitReaches listing now (FirstNo now k) (node r place names own children) level s
        unfolding wake passed_wait sleep
        wake_reached ns i true w e = woken visited i w (run_reaches (frame level r (suc place) names (length s.memory)) (passed_wait a.running) e)
        wake_reached ns i false w e = ok_is_not_stop e

        join_reached : (cs : List Call) → instruction_at listing r place ≡ fork cs → (t : Forest) → a.tree ≡ t →
            join (run listing now a.running.left) (frame level r place names (length s.memory)) t a.running ≡ stop k →
            VisitReaches listing now (FirstNo now k) (node r place names own children) level s
        unfolding join sleep
        join_reached cs i empty t e = joined visited i t (run_reaches (frame level r (suc place) names (length s.memory)) a.running e)
        join_reached cs i (more n ns) t e = ok_is_not_stop e

        resume_reached : (i : Instruction) → instruction_at listing r place ≡ i →
            resume listing now i (frame level r place names (length s.memory)) a.tree a.running ≡ stop k →
            VisitReaches listing now (FirstNo now k) (node r place names own children) level s
        unfolding resume
        resume_reached (wait ns) i e = wake_reached ns i _ refl e
        resume_reached (fork cs) i e = join_reached cs i a.tree refl e
        resume_reached (assign n d) i e = not_0 e
        resume_reached (schedule n d v) i e = not_0 e
        resume_reached (branch d to) i e = not_0 e
        resume_reached (jump to) i e = not_0 e
        resume_reached end i e = not_0 e

      node_reached : (visit_forest listing now children (suc level) (enter own s) ≡ stop k → ForestReaches listing now (FirstNo now k) children (suc level) (enter own s)) →
          ThenStops k (visit_forest listing now children (suc level) (enter own s))
          (λ (a : Turn). resume listing now (instruction_at listing r place) (frame level r place names (length s.memory)) a.tree a.running) →
          VisitReaches listing now (FirstNo now k) (node r place names own children) level s
      node_reached below (at_once e) = in_children (below e)
      node_reached below (afterwards a e g) = resume_reached a e (instruction_at listing r place) refl g

    forest_reached : (n : Node) (ns : Forest) (level : ℕ) (s : Running) →
        (visit listing now n level s ≡ stop k → VisitReaches listing now (FirstNo now k) n level s) →
        ((u : Running) → visit_forest listing now ns level u ≡ stop k → ForestReaches listing now (FirstNo now k) ns level u) →
        ThenStops {B = Turn} k (visit listing now n level s) (λ (a : Turn). visit_forest listing now ns level a.running >>= λ (b : Turn).
        ok (record { running = b.running; tree = a.tree ⊕ b.tree })) → ForestReaches listing now (FirstNo now k) (more n ns) level s
    forest_reached n ns level s this others (at_once e) = first_visited (this e)
    forest_reached n ns level s this others (afterwards a e g) = later_visited e (others a.running (formed_stops k _ _ g))

    mutual
      unfolding visit_forest

      pub visit_reaches : (n : Node) (level : ℕ) (s : Running) → visit listing now n level s ≡ stop k → VisitReaches listing now (FirstNo now k) n level s
      visit_reaches (node r place names own children) level s e =
          node_reached r place names own children level s (λ g. visit_forest_reaches children (suc level) (enter own s) g) (then_stops k _ _ e)

      pub visit_forest_reaches : (f : Forest) (level : ℕ) (s : Running) → visit_forest listing now f level s ≡ stop k →
          ForestReaches listing now (FirstNo now k) f level s
      visit_forest_reaches empty level s e = ok_is_not_stop e
      visit_forest_reaches (more n ns) level s e =
          forest_reached n ns level s (λ g. visit_reaches n level s g) (λ u g. visit_forest_reaches ns level u g) (then_stops k _ _ e)
