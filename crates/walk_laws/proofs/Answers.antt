-- The walk always answers: the start on any listing, and an instant from any state of the walk, go through or stop with one of
-- the numbers that stop a machine. The stop 0 that stands for a routine asleep at neither `W` nor `F` never comes, since question 7
-- leaves no such routine. Nothing is asked of the listing: past the end of a routine's code stands an `E`.
-- Letters: `me` is the frame of a routine, s what is running, f a forest, cs child fields, t a moment.
use mathlib.Core.Path.{◌≡◌, refl}
use mathlib.Core.Bool.{Bool, true, false}
use mathlib.Core.List.{List}
use mathlib.Core.Option.{Option, none, some}
use Prim.Native.Nat.{ℕ, zero, suc, ◌≤◌, ◌<◌}
use lib.Dec.{leb}
use borrow.Author.Tests.{leb-true}
use native.Mathlib.Omega.{arith}
use Rattle.listing.specs.Listing.{Listing, Call, Instruction, assign, schedule, branch, jump, wait, fork, end}
use Rattle.walk.specs.State.{Variable, Node, node, Forest, empty, more, State, Running, Turn, Result, stop, ok, ◌>>=◌, Frame, go_to, next}
use Rattle.walk.specs.Walk.{new_routines, sleep, leave, Runner, in_turn, begin, join, Move, goes_to, sleeps, forks, ends, stops, asking, with_value, move, carry_out, execute, step, run, wake, resume, visit, visit_forest, instruction_of}
use Rattle.walk.specs.Instant.{Write, finish, start, instant}
use Rattle.walk.specs.Question7.{Asleep, waits, joins, LiveChildren, no_more, ended, lives, IsState}
use Rattle.walk_laws.proofs.Booleans.{and_left, and_right}
use Rattle.walk_laws.proofs.Shape.{due_writes_keep_shape}
use Rattle.walk.specs.Calls.{is_stop}

pub data Answered {A : Type 0} : Result A → Type 0 where
  done : {a : A} → Answered (ok a)
  stopped : (k : ℕ) → is_stop k ≡ true → Answered (stop k)

-- No stop is numbered 0, and each number is a word.
pub stop_is_not_0 : (k : ℕ) → is_stop k ≡ true → 1 ≤ k
unfolding is_stop
stop_is_not_0 k e = let low : 13 ≤ k = leb-true 13 k (and_left (leb 13 k) _ e) in omega arith

pub stop_is_word : (k : ℕ) → is_stop k ≡ true → k < 4294967296
unfolding is_stop
stop_is_word k e = let most : k ≤ 18 = leb-true k 18 (and_right (leb 13 k) _ e) in omega arith

then_answers : {A B : Type 0} {x : Result A} (f : A → Result B) → Answered x → ((a : A) → Answered (f a)) → Answered (x >>= f)
unfolding ◌>>=◌
then_answers f (done {a = a}) g = g a
then_answers f (stopped k h) g = stopped k h

-- A runner that always answers.
abbrev Answers : Runner → Type 0
Answers go = (me : Frame) (s : Running) → Answered (go me s)

-- ── a routine's run ───────────────────────────────────────────────────────────────────────────────
sleep_answers : (me : Frame) (f : Forest) (s : Running) → Answered (sleep me f s)
unfolding sleep
sleep_answers me f s = done

module _ (go : Runner) (answers : Answers go) where
  join_answers : (me : Frame) (f : Forest) (s : Running) → Answered (join go me f s)
  unfolding join
  join_answers me empty s = answers (next me) s
  join_answers me (more n f) s = sleep_answers me (more n f) s

  begin_answers : (level : ℕ) (n : Node) (s : Running) → Answered (begin go level n s)
  unfolding begin
  begin_answers level (node r place names own children) s = answers _ _

  in_turn_answers : (level : ℕ) (f : Forest) (s : Running) → Answered (in_turn (begin go level) f s)
  unfolding in_turn
  in_turn_answers level empty s = done
  in_turn_answers level (more n f) s =
      then_answers _ (begin_answers level n s) λ a. then_answers _ (in_turn_answers level f a.running) λ b. done

-- A move whose stop, if it is one, is one of these.
data Asked : Move → Type 0 where
  goes_on : {k : ℕ} {memory : List Variable} → Asked (goes_to k memory)
  falls_asleep : Asked sleeps
  makes_children : {cs : List Call} → Asked (forks cs)
  comes_to_an_end : Asked ends
  asked : (k : ℕ) → is_stop k ≡ true → Asked (stops k)

asking_asked : (k : ℕ) → is_stop k ≡ true → (yes : Bool) (m : Move) → Asked m → Asked (asking k yes m)
unfolding asking
asking_asked k e true m h = h
asking_asked k e false m h = asked k e

with_value_asked : (r : Option ℕ) (m : ℕ → Move) → ((v : ℕ) → Asked (m v)) → Asked (with_value r m)
unfolding with_value is_stop
with_value_asked none m h = asked 18 refl
with_value_asked (some v) m h = h v

move_asked : (now : ℕ) (i : Instruction) (me : Frame) (live : ℕ) (memory : List Variable) → Asked (move now i me live memory)
unfolding move is_stop
move_asked now (assign n e) me live memory = with_value_asked _ _ (λ v. goes_on)
move_asked now (schedule n d e) me live memory =
    with_value_asked _ _ (λ delay. with_value_asked _ _ (λ v. asking_asked 16 refl _ _ (asking_asked 17 refl _ _ goes_on)))
move_asked now (branch e k) me live memory = with_value_asked _ _ (λ v. goes_on)
move_asked now (jump k) me live memory = goes_on
move_asked now (wait ns) me live memory = falls_asleep
move_asked now (fork cs) me live memory =
    asking_asked 14 refl _ _ (asking_asked 15 refl _ _ makes_children)
move_asked now end me live memory = comes_to_an_end

module _ (listing : Listing) (now : ℕ) where
  module _ (go : Runner) (answers : Answers go) where
    carry_out-answers : (m : Move) → Asked m → Answers (carry_out listing now go m)
    unfolding carry_out leave
    carry_out-answers _ (goes_on {k = k}) me s = answers (go_to me k) _
    carry_out-answers _ falls_asleep me s = sleep_answers me empty s
    carry_out-answers _ (makes_children {cs = cs}) me s =
        then_answers _ (in_turn_answers go answers (suc me.level) (new_routines listing now s.memory me.names cs) _) λ a.
        join_answers go answers me a.tree a.running
    carry_out-answers _ comes_to_an_end me s = done
    carry_out-answers _ (asked k e) me s = stopped k e

    execute_answers : (i : Instruction) → Answers (execute listing now go i)
    unfolding execute
    execute_answers i me s = carry_out-answers _ (move_asked now i me s.live s.memory) me s

  step_answers : (f : Running → Result Turn) (k : ℕ) (s : Running) → ((u : Running) → Answered (f u)) → Answered (step f k s)
  unfolding step
  step_answers f zero s h = stopped 13 (unfold is_stop in refl)
  step_answers f (suc k) s h = h _

  run_answers : (bound : ℕ) → Answers (run listing now bound)
  unfolding run
  run_answers zero me s = stopped 13 (unfold is_stop in refl)
  run_answers (suc bound) me s =
      step_answers _ s.left s λ u. execute_answers (run listing now bound) (run_answers bound) (instruction_of listing me) me u

  -- ── the visit ───────────────────────────────────────────────────────────────────────────────────
  wake_answers : (written : Bool) (me : Frame) (s : Running) →
      Answered (wake listing now written me s)
  unfolding wake
  wake_answers true me s = run_answers s.left (next me) _
  wake_answers false me s = sleep_answers me empty s

  module _ {rest : List Variable → Bool} where
    mutual
      unfolding visit_forest resume

      visit_answers : {level base : ℕ} {names : List ℕ} {c : Call} {n : Node} → Asleep listing rest level base names c n →
          (s : Running) → Answered (visit listing now n level s)
      visit_answers (waits {level = level} {r = r} {place = place} {names = names} m i) s =
          then_answers _ done λ u. rw i (wake_answers _ _ u.running)
      visit_answers (joins {level = level} {r = r} {place = place} {names = names} {own = own} m i l a k) s =
          then_answers _ (visit_forest_answers k _) λ u.
          rw i (join_answers (run listing now u.running.left) (run_answers u.running.left) _ u.tree u.running)

      visit_forest_answers : {level base : ℕ} {names : List ℕ} {cs : List Call} {f : Forest} → LiveChildren listing rest level base names cs f →
          (s : Running) → Answered (visit_forest listing now f level s)
      visit_forest_answers no_more s = done
      visit_forest_answers (ended k) s = visit_forest_answers k s
      visit_forest_answers (lives a k) s =
          then_answers _ (visit_answers a s) λ u. then_answers _ (visit_forest_answers k u.running) λ v. done

-- ── the theorems ──────────────────────────────────────────────────────────────────────────────────
finish_answers : (listing : Listing) (t allowance : ℕ) (turn : Turn) → Answered (finish listing t allowance turn)
unfolding finish
finish_answers listing t allowance turn = done

pub start_answers : (listing : Listing) (allowance : ℕ) → Answered (start listing allowance)
unfolding start
start_answers listing allowance =
    then_answers _ (begin_answers (run listing 0 allowance) (run_answers listing 0 allowance) 0 _ _) (finish_answers listing 0 allowance)

pub instant_answers : (listing : Listing) (s : State) (t : ℕ) (inputs : List Write) (allowance : ℕ) → IsState listing s →
    Answered (instant listing s t inputs allowance)
unfolding instant
instant_answers listing s t inputs allowance h =
    then_answers _ (visit_forest_answers listing t (due_writes_keep_shape t h.tree) _) (finish_answers listing t allowance)
