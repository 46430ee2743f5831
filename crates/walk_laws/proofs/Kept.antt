-- The walk keeps question 7's condition: what a routine's turn leaves of the tree is asleep as its caller's `F` made it, or gone,
-- and the variables in reach are steady again. Assumed: the literals of the listing are words.
-- Letters: level, base and place as in a frame; callerNames and c the names of the caller and the child field that made
-- the routine; s what is running, f and g forests, own a routine's own variables.
use mathlib.Core.Path.{◌≡◌, refl, ap, ◌∙◌}
use mathlib.Core.Bool.{Bool, true, false}
use mathlib.Core.List.{List, [], ◌∷◌}
use mathlib.Core.Option.{Option, none, some}
use Prim.Native.Nat.{ℕ, zero, suc, ◌+◌, ◌-◌, ◌<◌, ◌≤◌, min}
use lib.Dec.{ltb, leb}
use lib.ListN.{length, take, drop, length-set, length-append, length-take, length-drop}
use borrow.Author.Tests.{ltb-true, leb-true}
use native.Mathlib.Omega.{arith}
use Rattle.words.specs.Words.{is_positive}
use Rattle.words.specs.Moments.{moment_range}
use Rattle.listing.specs.Listing.{Listing, Call, Instruction, assign, schedule, branch, jump, wait, fork, end}
use Rattle.walk.specs.State.{Variable, Node, Forest, empty, more, ◌⊕◌, Running, Turn, Result, ◌>>=◌, with_memory, Frame, frame}
use Rattle.walk.specs.Memory.{write_at, schedule_at, address_of, own_variables, named_in}
use Rattle.walk.specs.Walk.{routine_at, instruction_at, new_routine, new_routines, child_count, enter, sleep, leave, Runner, in_turn, begin, join, Move, goes_to, sleeps, forks, ends, stops, asking, with_value, move, carry_out, execute, step, run, passed_wait, wake, resume, visit, visit_forest}
use Rattle.walk.specs.Question7.{owned_by, bound_names, MadeBy, Asleep, waits, joins, LiveChildren, no_more, ended, lives, some_alive}
use Rattle.walk_laws.proofs.Booleans.{and_left, and_right}
use Rattle.walk_laws.proofs.Results.{IfOk, stopped, answered, then_if_ok, weaken_if_ok}
use Rattle.walk_laws.proofs.AtRest.{all_steady, append_steady, take_steady, drop_steady, write_steady, schedule_steady, own_steady, length_own, evaluate_gives_word, expression_in_words, instruction_in_words, LiteralsAreWords, value_is_word}

-- ── what is kept ──────────────────────────────────────────────────────────────────────────────────
-- While an instant at `now` runs: so many variables in reach, all steady, and room for the live routines.
pub record InOrder (now size : ℕ) (s : Running) : Type 0 where
  pub long : length s.memory ≡ size
  pub steadied : all_steady now s.memory ≡ true
  pub few : s.live ≤ 64

-- After a turn: the variables before `base` are in reach, and the tree is as `Tree` says.
pub record Leaves (now base : ℕ) (Tree : Forest → Type 0) (turn : Turn) : Type 0 where
  pub order : InOrder now base turn.running
  pub left : Tree turn.tree

-- What child field c made is asleep, or gone.
pub data AsleepOrGone (listing : Listing) (now level base : ℕ) (callerNames : List ℕ) (c : Call) : Forest → Type 0 where
  gone : AsleepOrGone listing now level base callerNames c empty
  asleep : {n : Node} → Asleep listing (all_steady now) level base callerNames c n → AsleepOrGone listing now level base callerNames c (more n empty)

in_front : (listing : Listing) (now level base : ℕ) (callerNames : List ℕ) (c : Call) (cs : List Call) (f g : Forest) →
    AsleepOrGone listing now level base callerNames c f → LiveChildren listing (all_steady now) level base callerNames cs g →
    LiveChildren listing (all_steady now) level base callerNames (c ∷ cs) (f ⊕ g)
unfolding ◌⊕◌
in_front listing now level base callerNames c cs _ g gone k = ended k
in_front listing now level base callerNames c cs _ g (asleep a) k = lives a k

-- The frame of a routine that child field c of such a caller made.
abbrev called_by : Listing → ℕ → ℕ → List ℕ → Call → ℕ → Frame
called_by listing level base callerNames c place = frame level c.callee place (bound_names listing base callerNames c) base

-- A runner that keeps the order with any routine that some child field made.
abbrev KeepsOrder : Listing → ℕ → Runner → Type 0
KeepsOrder listing now go = (level base : ℕ) (callerNames : List ℕ) (c : Call) (place : ℕ) (s : Running) → InOrder now (base + owned_by listing c.callee) s →
    IfOk (Leaves now base (AsleepOrGone listing now level base callerNames c)) (go (called_by listing level base callerNames c place) s)

-- ── a routine's own variables ─────────────────────────────────────────────────────────────────────
length_of_own : (base n : ℕ) (xs : List Variable) → length xs ≡ base + n → length (drop base xs) ≡ n
length_of_own base n xs e = simp length-drop (omega arith)

length_of_reach : (base n : ℕ) (xs : List Variable) → length xs ≡ base + n → length (take base xs) ≡ base
length_of_reach base n xs e = length-take base xs ∙ (let shorter : min base (length xs) ≡ base = omega arith in shorter)

same_length : (now size : ℕ) (s : Running) (memory : List Variable) → InOrder now size s → length memory ≡ length s.memory → all_steady now memory ≡ true →
    InOrder now size (with_memory s memory)
same_length now size s memory h e k = record { long = e ∙ h.long; steadied = k; few = h.few }

out_of_reach : (now base n : ℕ) (s : Running) → InOrder now (base + n) s → InOrder now base (with_memory s (take base s.memory))
out_of_reach now base n s h =
    record { long = length_of_reach base n s.memory h.long; steadied = take_steady now base s.memory h.steadied; few = h.few }

into_reach : (now base : ℕ) (own : List Variable) (s : Running) → InOrder now base s → all_steady now own ≡ true → InOrder now (base + length own) (enter own s)
unfolding enter
into_reach now base own s h k =
    record { long = length-append s.memory own ∙ ap (λ n. n + length own) h.long; steadied = append_steady now s.memory own h.steadied k; few = h.few }

module _ (listing : Listing) (now : ℕ) where
  made_by_field : (base : ℕ) (callerNames : List ℕ) (c : Call) (s : Running) → InOrder now (base + owned_by listing c.callee) s →
      MadeBy listing (all_steady now) base callerNames c c.callee (bound_names listing base callerNames c) (drop base s.memory)
  made_by_field base callerNames c s h =
      record { number = refl; bound = refl; owned = length_of_own base _ s.memory h.long; resting = drop_steady now base s.memory h.steadied }

  -- ── sleeping, ending, going on ──────────────────────────────────────────────────────────────────
  wait_keeps : (level base : ℕ) (callerNames : List ℕ) (c : Call) (place : ℕ) (ns : List ℕ) (s : Running) → InOrder now (base + owned_by listing c.callee) s →
      instruction_at listing c.callee place ≡ wait ns →
      IfOk (Leaves now base (AsleepOrGone listing now level base callerNames c)) (sleep (called_by listing level base callerNames c place) empty s)
  unfolding sleep
  wait_keeps level base callerNames c place ns s h i =
      answered (record { order = out_of_reach now base _ s h; left = asleep (waits (made_by_field base callerNames c s h) i) })

  leave_keeps : (level base : ℕ) (callerNames : List ℕ) (c : Call) (place : ℕ) (s : Running) → InOrder now (base + owned_by listing c.callee) s →
      IfOk (Leaves now base (AsleepOrGone listing now level base callerNames c)) (leave (called_by listing level base callerNames c place) s)
  unfolding leave
  leave_keeps level base callerNames c place s h =
      let kept = out_of_reach now base _ s h in
      let fewer : s.live - 1 ≤ 64 = omega (arith, h.few) in
      answered (record { order = record { long = kept.long; steadied = kept.steadied; few = fewer }; left = gone })

  module _ (go : Runner) (keeps : KeepsOrder listing now go) where
    join_keeps : (level base : ℕ) (callerNames : List ℕ) (c : Call) (place : ℕ) (cs : List Call) (f : Forest) (s : Running) →
        InOrder now (base + owned_by listing c.callee) s → instruction_at listing c.callee place ≡ fork cs → level ≤ 9 →
        LiveChildren listing (all_steady now) (suc level) (length s.memory) (bound_names listing base callerNames c) cs f →
        IfOk (Leaves now base (AsleepOrGone listing now level base callerNames c)) (join go (called_by listing level base callerNames c place) f s)
    unfolding join sleep some_alive
    join_keeps level base callerNames c place cs empty s h i l k = keeps level base callerNames c (suc place) s h
    join_keeps level base callerNames c place cs (more n f) s h i l k =
        let whole : base + length (drop base s.memory) ≡ length s.memory = simp length-drop (omega (arith, h.long)) in
        answered (record {
          order = out_of_reach now base _ s h;
          left = asleep (joins {f = more n f} (made_by_field base callerNames c s h) i l refl (rw whole k));
        })

    -- ── new routines ──────────────────────────────────────────────────────────────────────────────
    pub begin_keeps : (level base : ℕ) (callerNames : List ℕ) (c : Call) (memory : List Variable) (s : Running) →
        length memory ≡ base → all_steady now memory ≡ true → InOrder now base s →
        IfOk (Leaves now base (AsleepOrGone listing now level base callerNames c)) (begin go level (new_routine listing now memory callerNames c) s)
    unfolding begin new_routine bound_names owned_by
    begin_keeps level base callerNames c memory s e k h =
        let called = routine_at listing c.callee in
        let name = named_in memory callerNames in
        let own = own_variables now called.kinds c.arguments called.locals name in
        rw (e, h.long) (keeps level base callerNames c 0 (enter own s)
        (rw (length_own now called.kinds _ called.locals name) at
        (into_reach now base own s h (own_steady now called.kinds _ called.locals name (λ n. value_is_word now memory _ k)))))

    children_keep : (level base : ℕ) (callerNames : List ℕ) (cs : List Call) (memory : List Variable) (s : Running) →
        length memory ≡ base → all_steady now memory ≡ true → InOrder now base s →
        IfOk (Leaves now base (LiveChildren listing (all_steady now) level base callerNames cs)) (in_turn (begin go level) (new_routines listing now memory callerNames cs) s)
    unfolding in_turn new_routines
    children_keep level base callerNames [] memory s e k h = answered (record { order = h; left = no_more })
    children_keep level base callerNames (c ∷ cs) memory s e k h =
        then_if_ok _ (begin_keeps level base callerNames c memory s e k h) λ a l.
        then_if_ok _ (children_keep level base callerNames cs memory a.running e k l.order) λ b m.
        answered (record { order = m.order; left = in_front listing now level base callerNames c cs _ _ l.left m.left })

    -- ── one instruction ───────────────────────────────────────────────────────────────────────────
    -- The routine is at it, and the order holds.
    module _ (level base : ℕ) (callerNames : List ℕ) (c : Call) (place : ℕ) (s : Running) (h : InOrder now (base + owned_by listing c.callee) s) where
      -- A move that keeps the order.
      data Orderly : Move → Type 0 where
        goes_on : {k : ℕ} {memory : List Variable} → length memory ≡ length s.memory → all_steady now memory ≡ true → Orderly (goes_to k memory)
        falls_asleep : {ns : List ℕ} → instruction_at listing c.callee place ≡ wait ns → Orderly sleeps
        makes_children : {cs : List Call} → instruction_at listing c.callee place ≡ fork cs → s.live + child_count cs ≤ 64 → level ≤ 9 → Orderly (forks cs)
        comes_to_an_end : Orderly ends
        is_stopped : {k : ℕ} → Orderly (stops k)

      carry_out-keeps : (m : Move) → Orderly m →
          IfOk (Leaves now base (AsleepOrGone listing now level base callerNames c)) (carry_out listing now go m (called_by listing level base callerNames c place) s)
      unfolding carry_out
      carry_out-keeps _ (goes_on {k = k} e w) = keeps level base callerNames c k _ (same_length now _ s _ h e w)
      carry_out-keeps _ (falls_asleep {ns = ns} i) = wait_keeps level base callerNames c place ns s h i
      carry_out-keeps _ (makes_children {cs = cs} i room shallow) =
          then_if_ok _ (children_keep (suc level) (length s.memory) (bound_names listing base callerNames c) cs s.memory _ refl h.steadied
          (record { long = refl; steadied = h.steadied; few = room })) λ a l.
          let order = l.order in
          join_keeps level base callerNames c place cs a.tree a.running
          (record { long = order.long ∙ h.long; steadied = order.steadied; few = order.few }) i shallow (rw order.long l.left)
      carry_out-keeps _ comes_to_an_end = leave_keeps level base callerNames c place s h
      carry_out-keeps _ is_stopped = stopped

      fork_orderly : (cs : List Call) (room shallow : Bool) → instruction_at listing c.callee place ≡ fork cs →
          leb (s.live + child_count cs) 64 ≡ room → leb level 9 ≡ shallow → Orderly (asking 14 room (asking 15 shallow (forks cs)))
      unfolding asking
      fork_orderly cs false shallow i p q = is_stopped
      fork_orderly cs true false i p q = is_stopped
      fork_orderly cs true true i p q = makes_children i (leb-true _ _ p) (leb-true _ _ q)

      schedule_orderly : (k a d v : ℕ) (positive fits : Bool) → is_positive d ≡ positive → ltb (now + d) moment_range ≡ fits → v < 4294967296 →
          Orderly (asking 16 positive (asking 17 fits (goes_to k (schedule_at s.memory a (now + d) v))))
      unfolding asking schedule_at
      schedule_orderly k a d v false fits p q l = is_stopped
      schedule_orderly k a d v true false p q l = is_stopped
      schedule_orderly k a d v true true p q l =
          let one : 1 ≤ d = leb-true _ _ (and_left (leb 1 d) _ p) in
          goes_on (length-set s.memory a _) (schedule_steady now s.memory a (now + d) v h.steadied (omega arith) (ltb-true _ _ q) l)

      valued_orderly : (r : Option ℕ) (m : ℕ → Move) → ((v : ℕ) → r ≡ some v → Orderly (m v)) → Orderly (with_value r m)
      unfolding with_value
      valued_orderly none m h = is_stopped
      valued_orderly (some v) m h = h v refl

      move_orderly : (i : Instruction) → instruction_in_words i ≡ true → instruction_at listing c.callee place ≡ i →
          Orderly (move now i (called_by listing level base callerNames c place) s.live s.memory)
      unfolding move instruction_in_words write_at
      move_orderly (assign n e) l i =
          valued_orderly _ _ λ v g.
          goes_on (length-set s.memory _ _) (write_steady now s.memory _ _ h.steadied (evaluate_gives_word now s.memory _ e h.steadied l v g))
      move_orderly (schedule n d e) l i =
          let names = bound_names listing base callerNames c in
          valued_orderly _ _ λ delay f. valued_orderly _ _ λ v g.
          schedule_orderly (suc place) (address_of names n) delay v _ _ refl refl
          (evaluate_gives_word now s.memory names e h.steadied (and_right (expression_in_words d) _ l) v g)
      move_orderly (branch e k) l i = valued_orderly _ _ λ v g. goes_on refl h.steadied
      move_orderly (jump k) l i = goes_on refl h.steadied
      move_orderly (wait ns) l i = falls_asleep i
      move_orderly (fork cs) l i = fork_orderly cs _ _ i refl refl
      move_orderly end l i = comes_to_an_end

    execute_keeps : (i : Instruction) (level base : ℕ) (callerNames : List ℕ) (c : Call) (place : ℕ) (s : Running) → instruction_in_words i ≡ true →
        instruction_at listing c.callee place ≡ i → InOrder now (base + owned_by listing c.callee) s →
        IfOk (Leaves now base (AsleepOrGone listing now level base callerNames c)) (execute listing now go i (called_by listing level base callerNames c place) s)
    unfolding execute
    execute_keeps i level base callerNames c place s l e h =
        carry_out-keeps level base callerNames c place s h _ (move_orderly level base callerNames c place s h i l e)

  step_keeps : {P : Turn → Type 0} {size : ℕ} (f : Running → Result Turn) (k : ℕ) (s : Running) → InOrder now size s →
      ((u : Running) → InOrder now size u → IfOk P (f u)) → IfOk P (step f k s)
  unfolding step
  step_keeps f zero s h g = stopped
  step_keeps f (suc k) s h g = g _ (record { long = h.long; steadied = h.steadied; few = h.few })

module _ (listing : Listing) (now : ℕ) (words : LiteralsAreWords listing) where
  pub run_keeps : (bound : ℕ) → KeepsOrder listing now (run listing now bound)
  unfolding run
  run_keeps zero level base callerNames c place s h = stopped
  run_keeps (suc bound) level base callerNames c place s h =
      step_keeps listing now _ s.left s h λ u k.
      execute_keeps listing now (run listing now bound) (run_keeps bound) (instruction_at listing c.callee place) level base callerNames c place u
      (words c.callee place) refl k

  -- ── the visit ───────────────────────────────────────────────────────────────────────────────────
  wake_keeps : (written : Bool) (level base : ℕ) (callerNames : List ℕ) (c : Call) (place : ℕ) (ns : List ℕ) (s : Running) →
      instruction_at listing c.callee place ≡ wait ns → InOrder now (base + owned_by listing c.callee) s →
      IfOk (Leaves now base (AsleepOrGone listing now level base callerNames c))
      (wake listing now written (called_by listing level base callerNames c place) s)
  unfolding wake passed_wait
  wake_keeps true level base callerNames c place ns s i h =
      run_keeps s.left level base callerNames c (suc place) _ (record { long = h.long; steadied = h.steadied; few = h.few })
  wake_keeps false level base callerNames c place ns s i h = wait_keeps listing now level base callerNames c place ns s h i

  mutual
    unfolding visit_forest resume ◌>>=◌

    visit_keeps : {level base : ℕ} {callerNames : List ℕ} {c : Call} {n : Node} → Asleep listing (all_steady now) level base callerNames c n →
        (s : Running) → InOrder now base s → IfOk (Leaves now base (AsleepOrGone listing now level base callerNames c)) (visit listing now n level s)
    visit_keeps (waits {level = level} {base = base} {callerNames = callerNames} {c = c} {place = place} {own = own} {ns = ns} m i) s h =
        let there = rw m.number at i in
        rw (m.number, m.bound, h.long, there)
        (wake_keeps _ level base callerNames c place ns (enter own s) there (rw m.owned at (into_reach now base own s h m.resting)))
    visit_keeps (joins {level = level} {base = base} {callerNames = callerNames} {c = c} {place = place} {own = own} {cs = cs} m i l a k) s h =
        let there = rw m.number at i in
        then_if_ok _ (visit_forest_keeps k (enter own s) (into_reach now base own s h m.resting)) λ u g.
        let order = g.order in
        rw (m.number, m.bound, h.long, there)
        (join_keeps listing now (run listing now u.running.left) (run_keeps u.running.left) level base callerNames c place cs u.tree u.running
        (rw m.owned at order) there l (rw (order.long, ← m.bound) g.left))

    -- The visit of live children leaves live children, of the same child fields.
    pub visit_forest_keeps : {level base : ℕ} {names : List ℕ} {cs : List Call} {f : Forest} → LiveChildren listing (all_steady now) level base names cs f →
        (s : Running) → InOrder now base s → IfOk (Leaves now base (LiveChildren listing (all_steady now) level base names cs)) (visit_forest listing now f level s)
    visit_forest_keeps no_more s h = answered (record { order = h; left = no_more })
    visit_forest_keeps (ended k) s h =
        weaken_if_ok (visit_forest_keeps k s h) λ u g. record { order = g.order; left = ended g.left }
    visit_forest_keeps (lives {level = level} {base = base} {names = names} {c = c} {cs = cs} a k) s h =
        then_if_ok _ (visit_keeps a s h) λ u g.
        then_if_ok _ (visit_forest_keeps k u.running g.order) λ v l.
        answered (record { order = l.order; left = in_front listing now level base names c cs _ _ g.left l.left })
