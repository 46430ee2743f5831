-- "A waiting routine is woken at most once in an instant": a running routine passes no wait, and the visit of a part of the tree passes at
-- most one for each routine of it that waited when the instant began; so one routine at a `W`, whose part is itself alone, passes at most one.
-- Letters as in the walk; n is how many waits were passed before.
use mathlib.Core.Path.{◌≡◌, refl, ap, ap₂}
use mathlib.Core.Bool.{Bool, true, false}
use mathlib.Core.List.{List, [], ◌∷◌}
use Prim.Native.Nat.{ℕ, zero, suc, ◌+◌, ◌≤◌}
use native.Mathlib.Omega.{arith}
use Rattle.listing.specs.Listing.{Listing, Call, Instruction, assign, schedule, branch, jump, wait, fork, end}
use Rattle.walk.specs.State.{Variable, Node, node, Forest, empty, more, State, Running, Turn, Result, stop, ok, ◌>>=◌, Frame, go_to, next}
use Rattle.walk.specs.Walk.{instruction_at, new_routine, new_routines, enter, sleep, leave, Runner, in_turn, begin, join, Move, goes_to, sleeps, forks, ends, stops, carry_out, execute, step, run, passed_wait, wake, resume, visit, visit_forest, instruction_of}
use Rattle.walk.specs.Instant.{Write, Done, due_in_node, due_in_forest, finish, instant, instant_turn}
use Rattle.walk_laws.specs.Wakings.{waits_at, waiting_in_node, waiting_in_forest}
use Rattle.walk_laws.proofs.Results.{IfOk, stopped, answered, stop_is_not_ok, holds_of_answer, then_if_ok, weaken_if_ok}

-- The waits passed by the end of a turn: n, or at most n.
record Woken (n : ℕ) (turn : Turn) : Type 0 where
  woken : turn.running.woken ≡ n

record AtMost (n : ℕ) (turn : Turn) : Type 0 where
  most : turn.running.woken ≤ n

-- ── a running routine passes no wait ──────────────────────────────────────────────────────────────
abbrev PassesNone : Runner → Type 0
PassesNone go = (me : Frame) (s : Running) (n : ℕ) → s.woken ≡ n → IfOk (Woken n) (go me s)

sleep_passes : (me : Frame) (f : Forest) (s : Running) (n : ℕ) → s.woken ≡ n → IfOk (Woken n) (sleep me f s)
unfolding sleep
sleep_passes me f s n e = answered (record { woken = e })

leave_passes : (me : Frame) (s : Running) (n : ℕ) → s.woken ≡ n → IfOk (Woken n) (leave me s)
unfolding leave
leave_passes me s n e = answered (record { woken = e })

module _ (go : Runner) (none : PassesNone go) where
  join_passes : (me : Frame) (f : Forest) (s : Running) (n : ℕ) → s.woken ≡ n →
      IfOk (Woken n) (join go me f s)
  unfolding join
  join_passes me empty s n e = none (next me) s n e
  join_passes me (more m f) s n e = sleep_passes me (more m f) s n e

  begin_passes : (level : ℕ) (m : Node) (s : Running) (n : ℕ) → s.woken ≡ n → IfOk (Woken n) (begin go level m s)
  unfolding begin enter
  begin_passes level (node r place names own children) s n e = none _ _ n e

module _ (listing : Listing) (now : ℕ) where
  module _ (go : Runner) (none : PassesNone go) where
    children_pass : (level : ℕ) (memory : List Variable) (names : List ℕ) (cs : List Call) (s : Running) (n : ℕ) → s.woken ≡ n →
        IfOk (Woken n) (in_turn (begin go level) (new_routines listing now memory names cs) s)
    unfolding in_turn new_routines
    children_pass level memory names [] s n e = answered (record { woken = e })
    children_pass level memory names (c ∷ cs) s n e =
        then_if_ok _ (begin_passes go none level (new_routine listing now memory names c) s n e) λ a h.
        then_if_ok _ (children_pass level memory names cs a.running n h.woken) λ b k. answered (record { woken = k.woken })

    carry_out-passes : (m : Move) → PassesNone (carry_out listing now go m)
    unfolding carry_out
    carry_out-passes (goes_to k memory) me s n e = none (go_to me k) _ n e
    carry_out-passes sleeps me s n e = sleep_passes me empty s n e
    carry_out-passes (forks cs) me s n e =
        then_if_ok _ (children_pass (suc me.level) s.memory me.names cs _ n e) λ a h. join_passes go none me a.tree a.running n h.woken
    carry_out-passes ends me s n e = leave_passes me s n e
    carry_out-passes (stops k) me s n e = stopped

    execute_passes : (i : Instruction) → PassesNone (execute listing now go i)
    unfolding execute
    execute_passes i me s n e = carry_out-passes _ me s n e

  step_passes : (f : Running → Result Turn) (k : ℕ) (s : Running) (n : ℕ) → s.woken ≡ n →
      ((u : Running) → u.woken ≡ n → IfOk (Woken n) (f u)) → IfOk (Woken n) (step f k s)
  unfolding step
  step_passes f zero s n e h = stopped
  step_passes f (suc k) s n e h = h _ e

  run_passes : (bound : ℕ) → PassesNone (run listing now bound)
  unfolding run
  run_passes zero me s n e = stopped
  run_passes (suc bound) me s n e =
      step_passes _ s.left s n e λ u l. execute_passes (run listing now bound) (run_passes bound) (instruction_of listing me) me u n l

  -- ── the visit passes at most one wait for each routine that waits ───────────────────────────────
  at_most : {n m : ℕ} {x : Result Turn} → IfOk (Woken n) x → n ≤ m → IfOk (AtMost m) x
  at_most h l = weaken_if_ok h λ a w. record { most = (let e = w.woken in omega (arith, e, l)) }

  wake_passes : (written : Bool) (me : Frame) (s : Running) (n : ℕ) → s.woken ≤ n →
      IfOk (AtMost (1 + n)) (wake listing now written me s)
  unfolding wake passed_wait
  wake_passes true me s n e = at_most (run_passes s.left (next me) _ (suc s.woken) refl) (omega arith)
  wake_passes false me s n e = at_most (sleep_passes me empty s s.woken refl) (omega arith)

  resume_passes : (i : Instruction) (me : Frame) (f : Forest) (s : Running) (n : ℕ) → s.woken ≤ n →
      IfOk (AtMost (waits_at i + n)) (resume listing now i me f s)
  unfolding resume waits_at
  resume_passes (assign m v) me f s n e = stopped
  resume_passes (schedule m d v) me f s n e = stopped
  resume_passes (branch v k) me f s n e = stopped
  resume_passes (jump k) me f s n e = stopped
  resume_passes (wait ns) me f s n e = wake_passes _ me s n e
  resume_passes (fork cs) me f s n e =
      at_most (join_passes _ (run_passes s.left) me f s s.woken refl) (omega arith)
  resume_passes end me f s n e = stopped

  mutual
    unfolding visit_forest enter waiting_in_forest

    visit_passes : (m : Node) (level : ℕ) (s : Running) (n : ℕ) → s.woken ≤ n → IfOk (AtMost (waiting_in_node listing m + n)) (visit listing now m level s)
    visit_passes (node r place names own children) level s n e =
        then_if_ok _ (visit_forest_passes children (suc level) (enter own s) n e) λ u h.
        weaken_if_ok (resume_passes (instruction_at listing r place) _ u.tree u.running (waiting_in_forest listing children + n) h.most)
        λ a w. record { most = (let l = w.most in omega (arith, l)) }

    visit_forest_passes : (f : Forest) (level : ℕ) (s : Running) (n : ℕ) → s.woken ≤ n →
        IfOk (AtMost (waiting_in_forest listing f + n)) (visit_forest listing now f level s)
    visit_forest_passes empty level s n e = answered (record { most = (let most : s.woken ≤ 0 + n = omega arith in most) })
    visit_forest_passes (more m f) level s n e =
        then_if_ok _ (visit_passes m level s n e) λ u h.
        then_if_ok _ (visit_forest_passes f level u.running (waiting_in_node listing m + n) h.most) λ v l.
        answered (record { most = (let k = l.most in omega (arith, k)) })

  -- Of one routine with those below it: its visit passes at most one wait for each of them that waits.
  pub visit_wakes_at_most_once : (m : Node) (level : ℕ) (s : Running) (turn : Turn) → visit listing now m level s ≡ ok turn →
      turn.running.woken ≤ waiting_in_node listing m + s.woken
  visit_wakes_at_most_once m level s turn e = (holds_of_answer turn (visit_passes m level s s.woken (omega arith)) e).most

-- ── the whole instant ─────────────────────────────────────────────────────────────────────────────
-- due writes move nobody
module _ (listing : Listing) where
  mutual
    unfolding waiting_in_forest due_in_forest

    node_waits_still : (m : Node) (t : ℕ) → waiting_in_node listing (due_in_node m t) ≡ waiting_in_node listing m
    node_waits_still (node r place names own children) t = ap (λ k. waits_at (instruction_at listing r place) + k) (forest_waits_still children t)

    forest_waits_still : (f : Forest) (t : ℕ) → waiting_in_forest listing (due_in_forest f t) ≡ waiting_in_forest listing f
    forest_waits_still empty t = refl
    forest_waits_still (more m f) t = ap₂ (λ j k. j + k) (node_waits_still m t) (forest_waits_still f t)

finished : (listing : Listing) (t allowance n : ℕ) (x : Result Turn) (d : Done) → IfOk (AtMost n) x → x >>= finish listing t allowance ≡ ok d → d.woken ≤ n
unfolding ◌>>=◌ finish
finished listing t allowance n _ d stopped e = stop_is_not_ok e
finished listing t allowance n _ d (answered {a = turn} h) e =
    let same : turn.running.woken ≡ d.woken = ap (λ (x : Result Done). woken_of x) e in let l = h.most in omega (arith, same, l)
  where
    woken_of : Result Done → ℕ
    woken_of (stop k) = 0
    woken_of (ok done) = done.woken

pub instant_wakes_at_most_once : (listing : Listing) (s : State) (t : ℕ) (inputs : List Write) (allowance : ℕ) (d : Done) →
    instant listing s t inputs allowance ≡ ok d → d.woken ≤ waiting_in_forest listing s.tree
unfolding instant
instant_wakes_at_most_once listing s t inputs allowance d e =
    let still = forest_waits_still listing s.tree t in
    let most = finished listing t allowance _ (instant_turn listing s t inputs allowance) d (visit_forest_passes listing t (due_in_forest s.tree t) 0 _ 0 (omega arith)) e in
    omega (arith, still, most)
