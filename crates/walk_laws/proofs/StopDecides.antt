-- Where the walk reaches an instruction at which question k is the first no, it stops with k.
-- Letters as in the walk: `me` is the routine's frame, s what is running, k a question's number, i an instruction, n a node.
use mathlib.Core.Path.{◌≡◌, refl, ◌∙◌}
use mathlib.Core.List.{List}
use mathlib.Core.Option.{none}
use Prim.Native.Nat.{ℕ, suc, ◌+◌, ◌≤◌}
use lib.ListN.{length}
use borrow.Author.Tests.{le-ltb, le-leb, lt-leb}
use Rattle.words.specs.Moments.{moment_range}
use Rattle.listing.specs.Listing.{Listing, Piece, Call, Instruction}
use Rattle.walk.specs.State.{Node, Forest, empty, Running, Turn, Result, stop, ok, ◌>>=◌, Frame, next, frame, go_to, with_memory, Variable}
use Rattle.walk.specs.Memory.{named_in, evaluate}
use Rattle.walk.specs.Walk.{instruction_of, new_routines, goes_to, asking, with_value, move, Runner, in_turn, begin, join, carry_out, execute, run, passed_wait, wake, resume, visit, visit_forest}
use Rattle.walk_laws.specs.Stops.{DividesByZero, FirstNo, no_step, no_room, too_deep, zero_in_value, zero_in_condition, zero_in_delay, zero_in_later_value, no_delay, too_late, step_taken, forked, full_run, Forks, RunReaches, here, onward, in_child, after_children, NewReach, first, later, VisitReaches, in_children, woken, joined, ForestReaches, first_visited, later_visited}
use Rattle.walk_laws.proofs.Failing.{fails_exactly_if}
use Rattle.walk_laws.proofs.FullRun.{full_without_steps, full_takes_step}

pub then_stop : {A B : Type 0} {k : ℕ} (x : Result A) (f : A → Result B) → x ≡ stop k → (x >>= f) ≡ stop k
unfolding ◌>>=◌
then_stop x f e = rw e

then_goes_on : {A B : Type 0} {a : A} (x : Result A) (f : A → Result B) → x ≡ ok a → (x >>= f) ≡ f a
unfolding ◌>>=◌
then_goes_on x f e = rw e

module _ (listing : Listing) (now k : ℕ) where
  -- ── one instruction ─────────────────────────────────────────────────────────────────────────────
  by_zero_none : (me : Frame) (s : Running) (e : List Piece) → DividesByZero now me s e → evaluate now s.memory me.names e ≡ none
  unfolding evaluate
  by_zero_none me s e z = (fails_exactly_if now (named_in s.memory me.names) e).1 z

  first_no_stops : (number : ℕ) (me : Frame) (s : Running) (i : Instruction) → FirstNo now number me s i →
      instruction_of listing me ≡ i → full_run listing now me s ≡ stop number
  unfolding execute move asking with_value carry_out
  first_no_stops _ me s _ (no_step e) at = full_without_steps listing now me s e
  first_no_stops _ me s _ (no_room {cs = cs} l m) at = full_takes_step listing now me s l ∙ rw (at, lt-leb _ 64 m)
  first_no_stops _ me s _ (too_deep l m d) at = full_takes_step listing now me s l ∙ rw (at, le-leb _ 64 m, lt-leb _ 9 d)
  first_no_stops _ me s _ (zero_in_value {e = e} l z) at = full_takes_step listing now me s l ∙ rw (at, by_zero_none me s e z)
  first_no_stops _ me s _ (zero_in_condition {e = e} l z) at = full_takes_step listing now me s l ∙ rw (at, by_zero_none me s e z)
  first_no_stops _ me s _ (zero_in_delay {d = d} l z) at = full_takes_step listing now me s l ∙ rw (at, by_zero_none me s d z)
  first_no_stops _ me s _ (zero_in_later_value {e = e} l h z) at = full_takes_step listing now me s l ∙ rw (at, h, by_zero_none me s e z)
  first_no_stops _ me s _ (no_delay l h v d) at = full_takes_step listing now me s l ∙ rw (at, h, v, d)
  first_no_stops _ me s _ (too_late {delay = delay} l h v p m) at =
      full_takes_step listing now me s l ∙ rw (at, h, v, p, le-ltb (now + delay) moment_range m)

  leads_on : (me : Frame) (s : Running) (to : ℕ) (memory : List Variable) → 1 ≤ s.left →
      move now (instruction_of listing me) me s.live s.memory ≡ goes_to to memory →
      full_run listing now me s ≡ full_run listing now (go_to me to) (with_memory (step_taken s) memory)
  unfolding execute carry_out
  leads_on me s to memory l e = full_takes_step listing now me s l ∙ rw e

  fork_runs_children : (me : Frame) (s : Running) (cs : List Call) → Forks listing me s cs →
      full_run listing now me s ≡
      (in_turn (begin (full_run listing now) (suc me.level)) (new_routines listing now s.memory me.names cs) (forked cs s) >>= λ (a : Turn).
      join (full_run listing now) me a.tree a.running)
  unfolding execute move asking carry_out
  fork_runs_children me s cs f =
      full_takes_step listing now me s f.step ∙ rw (f.at, le-leb _ 64 f.room, le-leb me.level 9 f.shallow)

  join_goes_on : (go : Runner) (me : Frame) (f : Forest) (s : Running) → f ≡ empty → join go me f s ≡ go (next me) s
  unfolding join
  join_goes_on go me f s e = rw e

  -- ── a routine's run ─────────────────────────────────────────────────────────────────────────────
  mutual
    unfolding in_turn begin

    pub run_stops : {me : Frame} {s : Running} → RunReaches listing now (FirstNo now k) me s → full_run listing now me s ≡ stop k
    run_stops (here {me = me} {s = s} q) = first_no_stops _ me s _ q refl
    run_stops (onward {me = me} {s = s} {k = to} {memory = memory} l e p) = leads_on me s to memory l e ∙ run_stops p
    run_stops (in_child {me = me} {s = s} {cs = cs} f p) = fork_runs_children me s cs f ∙ then_stop _ _ (new_stops p)
    run_stops (after_children {me = me} {s = s} {cs = cs} {a = a} f e t p) =
        fork_runs_children me s cs f ∙ (then_goes_on _ _ e ∙ (join_goes_on (full_run listing now) me a.tree a.running t ∙ run_stops p))

    pub new_stops : {level : ℕ} {f : Forest} {s : Running} → NewReach listing now (FirstNo now k) level f s →
        in_turn (begin (full_run listing now) level) f s ≡ stop k
    new_stops (first p) = then_stop _ _ (run_stops p)
    new_stops (later e p) = then_goes_on _ _ e ∙ then_stop _ _ (new_stops p)

  -- ── the visit ───────────────────────────────────────────────────────────────────────────────────
  mutual
    unfolding visit_forest resume wake passed_wait

    pub visit_stops : {n : Node} {level : ℕ} {s : Running} → VisitReaches listing now (FirstNo now k) n level s → visit listing now n level s ≡ stop k
    visit_stops (in_children p) = then_stop _ _ (visit_forest_stops p)
    visit_stops (woken e at w p) = then_goes_on _ _ e ∙ rw (at, w) (run_stops p)
    visit_stops (joined {r = r} {place = place} {names = names} {level = level} {s = s} {a = a} e at t p) =
        then_goes_on _ _ e ∙ rw at (join_goes_on (run listing now a.running.left) (frame level r place names (length s.memory)) a.tree a.running t ∙ run_stops p)

    pub visit_forest_stops : {f : Forest} {level : ℕ} {s : Running} → ForestReaches listing now (FirstNo now k) f level s →
        visit_forest listing now f level s ≡ stop k
    visit_forest_stops (first_visited p) = then_stop _ _ (visit_stops p)
    visit_forest_stops (later_visited e p) = then_goes_on _ _ e ∙ then_stop _ _ (visit_forest_stops p)
