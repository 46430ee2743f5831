-- The counter of live routines is their true number. Said of a part of the tree: if the counter is the number of the part's
-- routines and of the `others` outside it (callers, siblings visited and to be visited) when the part has its turn, then so it is
-- after the turn, whatever ended or forked meanwhile. So question 14 is asked of the routines that live then, and room freed by
-- an end serves the next fork.
-- Nothing is asked of the listing, nor of what variables hold; only that the tree has the shape of a state's (question 7).
-- Letters: `me` is the frame of a routine, s what is running, f a forest, cs child fields, t a moment.
use mathlib.Core.Path.{◌≡◌, refl, ap}
use mathlib.Core.Bool.{Bool, true, false}
use mathlib.Core.List.{List, [], ◌∷◌}
use Prim.Native.Nat.{ℕ, zero, suc, ◌+◌, ◌-◌}
use lib.Dec.{leb}
use native.Mathlib.Omega.{arith}
use Rattle.listing.specs.Listing.{Listing, Call, Instruction, fork}
use Rattle.walk.specs.State.{Variable, Node, node, Forest, empty, more, ◌⊕◌, live_in_node, live_in_forest, State, Running, Turn, Result, stop, ok, ◌>>=◌, Frame, go_to, next}
use Rattle.walk.specs.Walk.{new_routine, new_routines, child_count, enter, sleep, leave, Runner, in_turn, begin, join, Move, goes_to, sleeps, forks, ends, stops, asking, move, carry_out, execute, step, run, passed_wait, wake, resume, visit, visit_forest, instruction_of}
use Rattle.walk.specs.Instant.{Write, Done, unmarked_forest, finish, start, instant, start_turn, instant_turn}
use Rattle.walk.specs.Question7.{Asleep, waits, joins, LiveChildren, no_more, ended, lives, IsState}
use Rattle.walk_laws.specs.LiveCount.{Counted, TrueCount}
use Rattle.walk_laws.proofs.Results.{IfOk, stopped, answered, stop_is_not_ok, holds_of_answer, then_if_ok}
use Rattle.walk_laws.proofs.Shape.{live_in_both, due_writes_keep_shape, unmarking_keeps_live}

-- A runner that counts the one routine that it runs, with whatever children it makes.
abbrev CountsRoutine : Runner → Type 0
CountsRoutine go = (me : Frame) (s : Running) (others : ℕ) → s.live ≡ suc others →
    IfOk (Counted others) (go me s)

-- ── sleeping, ending, going on ────────────────────────────────────────────────────────────────────
sleep_counts : (me : Frame) (f : Forest) (s : Running) (others : ℕ) → s.live ≡ suc others + live_in_forest f →
    IfOk (Counted others) (sleep me f s)
unfolding sleep live_in_forest
sleep_counts me f s others e =
    let total : s.live ≡ others + (suc (live_in_forest f) + 0) = omega arith in answered (record { counted = total })

leave_counts : (me : Frame) (s : Running) (others : ℕ) → s.live ≡ suc others → IfOk (Counted others) (leave me s)
unfolding leave live_in_forest
leave_counts me s others e = let total : s.live - 1 ≡ others + 0 = omega arith in answered (record { counted = total })

module _ (go : Runner) (counts : CountsRoutine go) where
  join_counts : (me : Frame) (f : Forest) (s : Running) (others : ℕ) → s.live ≡ suc others + live_in_forest f →
      IfOk (Counted others) (join go me f s)
  unfolding join live_in_forest
  join_counts me empty s others e = counts (next me) s others (omega arith)
  join_counts me (more n f) s others e = sleep_counts me (more n f) s others e

  begin_counts : (level : ℕ) (n : Node) (s : Running) (others : ℕ) → s.live ≡ suc others → IfOk (Counted others) (begin go level n s)
  unfolding begin enter
  begin_counts level (node r place names own children) s others e = counts _ _ others e

-- One part after another.
both_count : (others : ℕ) (a b : Turn) → Counted (others + live_in_forest a.tree) b → Counted others (record { running = b.running; tree = a.tree ⊕ b.tree })
both_count others a b h = record { counted = rw (live_in_both a.tree b.tree) (omega arith) }

module _ (listing : Listing) (now : ℕ) where
  module _ (go : Runner) (counts : CountsRoutine go) where
    children_count : (level : ℕ) (memory : List Variable) (names : List ℕ) (cs : List Call) (s : Running) (others : ℕ) → s.live ≡ others + child_count cs →
        IfOk (Counted others) (in_turn (begin go level) (new_routines listing now memory names cs) s)
    unfolding in_turn new_routines child_count live_in_forest
    children_count level memory names [] s others e = answered (record { counted = e })
    children_count level memory names (c ∷ cs) s others e =
        then_if_ok _ (begin_counts go counts level (new_routine listing now memory names c) s (others + child_count cs) (omega arith)) λ a h.
        then_if_ok _ (children_count level memory names cs a.running (others + live_in_forest a.tree) (omega arith)) λ b k.
        answered (both_count others a b k)

    carry_out-counts : (m : Move) → CountsRoutine (carry_out listing now go m)
    unfolding carry_out live_in_forest
    carry_out-counts (goes_to k memory) me s others e = counts (go_to me k) _ others e
    carry_out-counts sleeps me s others e = sleep_counts me empty s others (omega arith)
    carry_out-counts (forks cs) me s others e =
        then_if_ok _ (children_count (suc me.level) s.memory me.names cs _ (suc others) (omega arith)) λ a h.
        join_counts go counts me a.tree a.running others h.counted
    carry_out-counts ends me s others e = leave_counts me s others e
    carry_out-counts (stops k) me s others e = stopped

    execute_counts : (i : Instruction) → CountsRoutine (execute listing now go i)
    unfolding execute
    execute_counts i me s others e = carry_out-counts _ me s others e

  -- "14 At `F`: live routines plus new children at most 64?": this routine, the others, and the new ones.
  pub fork_asks_true_count : (go : Runner) (me : Frame) (cs : List Call) (s : Running) (others : ℕ) → s.live ≡ suc others →
      execute listing now go (fork cs) me s ≡
      carry_out listing now go (asking 14 (leb (suc others + child_count cs) 64) (asking 15 (leb me.level 9) (forks cs))) me s
  unfolding execute move
  fork_asks_true_count go me cs s others e = rw e

  step_counts : (f : Running → Result Turn) (k : ℕ) (s : Running) (others : ℕ) → s.live ≡ suc others →
      ((u : Running) → u.live ≡ suc others → IfOk (Counted others) (f u)) → IfOk (Counted others) (step f k s)
  unfolding step
  step_counts f zero s others e h = stopped
  step_counts f (suc k) s others e h = h _ e

  run_counts : (bound : ℕ) → CountsRoutine (run listing now bound)
  unfolding run
  run_counts zero me s others e = stopped
  run_counts (suc bound) me s others e =
      step_counts _ s.left s others e λ u l.
      execute_counts (run listing now bound) (run_counts bound) (instruction_of listing me) me u others l

  -- ── the visit ───────────────────────────────────────────────────────────────────────────────────
  wake_counts : (written : Bool) (me : Frame) (s : Running) (others : ℕ) → s.live ≡ suc others →
      IfOk (Counted others) (wake listing now written me s)
  unfolding wake passed_wait live_in_forest
  wake_counts true me s others e = run_counts s.left (next me) _ others e
  wake_counts false me s others e = sleep_counts me empty s others (omega arith)

  module _ {rest : List Variable → Bool} where
    mutual
      unfolding visit_forest resume enter live_in_forest ◌>>=◌

      visit_counts : {level base : ℕ} {names : List ℕ} {c : Call} {n : Node} → Asleep listing rest level base names c n →
          (s : Running) (others : ℕ) → s.live ≡ others + live_in_node n → IfOk (Counted others) (visit listing now n level s)
      visit_counts (waits {level = level} {r = r} {place = place} {names = names} m i) s others e =
          rw i (wake_counts _ _ _ others (omega arith))
      visit_counts (joins {level = level} {r = r} {place = place} {names = names} {own = own} m i d a k) s others e =
          then_if_ok _ (visit_forest_counts k (enter own s) (suc others) (omega arith)) λ u h.
          rw i (join_counts _ (run_counts u.running.left) _ u.tree u.running others h.counted)

      visit_forest_counts : {level base : ℕ} {names : List ℕ} {cs : List Call} {f : Forest} → LiveChildren listing rest level base names cs f →
          (s : Running) (others : ℕ) → s.live ≡ others + live_in_forest f → IfOk (Counted others) (visit_forest listing now f level s)
      visit_forest_counts no_more s others e = answered (record { counted = e })
      visit_forest_counts (ended k) s others e = visit_forest_counts k s others e
      visit_forest_counts (lives {n = n} {f = f} a k) s others e =
          then_if_ok _ (visit_counts a s (others + live_in_forest f) (omega arith)) λ u h.
          then_if_ok _ (visit_forest_counts k u.running (others + live_in_forest u.tree) (omega arith)) λ v l.
          answered (both_count others u v l)

  -- If the counter is true before the visit of a forest, so it is after it.
  pub count_true_after_visit : {rest : List Variable → Bool} {level base : ℕ} {names : List ℕ} {cs : List Call} {f : Forest} →
      LiveChildren listing rest level base names cs f → (s : Running) (others : ℕ) → s.live ≡ others + live_in_forest f →
      (turn : Turn) → visit_forest listing now f level s ≡ ok turn → turn.running.live ≡ others + live_in_forest turn.tree
  count_true_after_visit k s others e turn went = (holds_of_answer turn (visit_forest_counts k s others e) went).counted

-- ── the end of an instant ─────────────────────────────────────────────────────────────────────────
finish_keeps_count : (listing : Listing) (t allowance : ℕ) (x : Result Turn) (d : Done) → IfOk (Counted 0) x → x >>= finish listing t allowance ≡ ok d → TrueCount x d
unfolding ◌>>=◌ finish
finish_keeps_count listing t allowance _ d stopped e = stop_is_not_ok e
finish_keeps_count listing t allowance _ d (answered {a = turn} h) e =
    let same : unmarked_forest turn.tree ≡ d.state.tree = ap (λ (x : Result Done). tree_of x) e in
    record { turn = turn; went = refl; counted = omega (arith, h.counted, unmarking_keeps_live turn.tree, ap live_in_forest same) }
  where
    tree_of : Result Done → Forest
    tree_of (stop k) = empty
    tree_of (ok done) = done.state.tree

pub turn_at_start_counts : (listing : Listing) (allowance : ℕ) → IfOk (Counted 0) (start_turn listing allowance)
turn_at_start_counts listing allowance = begin_counts (run listing 0 allowance) (run_counts listing 0 allowance) 0 _ _ 0 refl

pub turn_at_instant_counts : (listing : Listing) (s : State) (t : ℕ) (inputs : List Write) (allowance : ℕ) → IsState listing s →
    IfOk (Counted 0) (instant_turn listing s t inputs allowance)
turn_at_instant_counts listing s t inputs allowance h = visit_forest_counts listing t (due_writes_keep_shape t h.tree) _ 0 (omega arith)

pub count_true_after_start : (listing : Listing) (allowance : ℕ) (d : Done) → start listing allowance ≡ ok d → TrueCount (start_turn listing allowance) d
unfolding start
count_true_after_start listing allowance d e = finish_keeps_count listing 0 allowance _ d (turn_at_start_counts listing allowance) e

pub count_true_after_instant : (listing : Listing) (s : State) (t : ℕ) (inputs : List Write) (allowance : ℕ) (d : Done) → IsState listing s →
    instant listing s t inputs allowance ≡ ok d → TrueCount (instant_turn listing s t inputs allowance) d
unfolding instant
count_true_after_instant listing s t inputs allowance d h e =
    finish_keeps_count listing t allowance _ d (turn_at_instant_counts listing s t inputs allowance h) e
