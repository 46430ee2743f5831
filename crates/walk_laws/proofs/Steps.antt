-- The steps used never exceed the allowance: no part of the walk leaves more steps than it was given.
-- Said first of any runner `go` of which it holds, then of `run`, of the visit, and at the end of the two calls.
-- Letters as in the walk: `me` is the frame of a routine, s what is running, k a number of steps,
-- o an outcome; a and b are the turns that outcomes hold, d is a call's answer.
use mathlib.Core.Path.{◌≡◌, refl, ap}
use mathlib.Core.Bool.{Bool, true, false}
use mathlib.Core.List.{List}
use Prim.Native.Nat.{ℕ, zero, suc, ◌+◌, ◌-◌, ◌≤◌}
use native.Mathlib.Nat.{le_refl, le_trans}
use native.Mathlib.Omega.{arith}
use Rattle.listing.specs.Listing.{Listing, Instruction, assign, schedule, branch, jump, wait, fork, end}
use Rattle.walk.specs.State.{Node, node, Forest, empty, more, State, Frame, go_to, next, Running, Turn, Result, stop, ok, ◌>>=◌}
use Rattle.walk.specs.Walk.{enter, sleep, leave, Runner, in_turn, begin, join, Move, goes_to, sleeps, forks, ends, stops, carry_out, execute, step, run, passed_wait, wake, resume, visit, visit_forest}
use Rattle.walk.specs.Instant.{Write, Done, finish, start, instant, start_turn, instant_turn}

-- ── outcomes ──────────────────────────────────────────────────────────────────────────────────────
-- A stop, or a turn that leaves at most k steps.
pub data Within (k : ℕ) : Result Turn → Type 0 where
  stopped : {n : ℕ} → Within k (stop n)
  leaves : {a : Turn} → a.running.left ≤ k → Within k (ok a)

pub then_within : (k : ℕ) (o : Result Turn) (f : Turn → Result Turn) → Within k o →
    ((a : Turn) → a.running.left ≤ k → Within k (f a)) → Within k (o >>= f)
unfolding ◌>>=◌
then_within k _ f stopped g = stopped
then_within k _ f (leaves {a = a} h) g = g a h

pub within_more : (j k : ℕ) (o : Result Turn) → j ≤ k → Within j o → Within k o
within_more j k _ h stopped = stopped
within_more j k _ h (leaves w) = leaves (le_trans w h)

pub ok_injective : {A : Type 0} {x y : A} → ok x ≡ ok y → x ≡ y
ok_injective e = cc

pub stop_is_not_ok : {A : Type 0} {n : ℕ} {x : A} → ◌≡◌ {A = Result A} (stop n) (ok x) → ⊥
stop_is_not_ok e = let z : ◌≡◌ {A = ℕ} 0 1 = cc in omega arith

-- ── runners ───────────────────────────────────────────────────────────────────────────────────────
-- A runner that never leaves more steps than it was given.
abbrev pub Frugal : Runner → Type 0
Frugal go = (me : Frame) (s : Running) → Within s.left (go me s)

pub in_turn-within : (f : Node → Running → Result Turn) → ((n : Node) (s : Running) → Within s.left (f n s)) →
    (ns : Forest) (s : Running) → Within s.left (in_turn f ns s)
unfolding in_turn
in_turn-within f h empty s = leaves (le_refl _)
in_turn-within f h (more n ns) s =
    then_within _ _ _ (h n s) λ a wa.
    then_within _ _ _ (within_more _ _ _ wa (in_turn-within f h ns a.running)) λ b wb. leaves wb

pub begin_within : (go : Runner) → Frugal go → (level : ℕ) (n : Node) (s : Running) → Within s.left (begin go level n s)
unfolding begin enter
begin_within go h level (node r place names own children) s = h _ _

pub join_within : (go : Runner) → Frugal go → (children : Forest) → Frugal (λ me s. join go me children s)
unfolding join sleep
join_within go h empty me s = h (next me) s
join_within go h (more n ns) me s = leaves (le_refl _)

module _ (listing : Listing) (now : ℕ) where
  carry_out-within : (go : Runner) → Frugal go → (m : Move) → Frugal (carry_out listing now go m)
  unfolding carry_out sleep leave
  carry_out-within go h (goes_to k memory) me s = h (go_to me k) _
  carry_out-within go h sleeps me s = leaves (le_refl _)
  carry_out-within go h (forks cs) me s =
      then_within _ _ _ (in_turn-within _ (begin_within go h (suc me.level)) _ _) λ a wa.
      within_more _ _ _ wa (join_within go h a.tree me a.running)
  carry_out-within go h ends me s = leaves (le_refl _)
  carry_out-within go h (stops k) me s = stopped

  pub execute_within : (go : Runner) → Frugal go → (i : Instruction) → Frugal (execute listing now go i)
  unfolding execute
  execute_within go h i me s = carry_out-within go h _ me s

  -- ── the run and the visit ───────────────────────────────────────────────────────────────────────
  step_within : (f : Running → Result Turn) → ((s : Running) → Within s.left (f s)) → (k : ℕ) (s : Running) →
      Within k (step f k s)
  unfolding step
  step_within f h zero s = stopped
  step_within f h (suc k) s = within_more k (suc k) _ (omega arith) (h _)

  pub run_within : (bound : ℕ) → Frugal (run listing now bound)
  unfolding run
  run_within zero me s = stopped
  run_within (suc bound) me s =
      step_within _ (λ u. execute_within (run listing now bound) (run_within bound) _ me u) s.left s

  wake_within : (woken : Bool) → Frugal (wake listing now woken)
  unfolding wake passed_wait sleep
  wake_within true me s = run_within s.left (next me) _
  wake_within false me s = leaves (le_refl _)

  pub resume_within : (i : Instruction) (children : Forest) →
      Frugal (λ me s. resume listing now i me children s)
  unfolding resume
  resume_within (wait ns) children me s = wake_within _ me s
  resume_within (fork cs) children me s = join_within _ (run_within s.left) children me s
  resume_within (assign n e) children me s = stopped
  resume_within (schedule n d e) children me s = stopped
  resume_within (branch e k) children me s = stopped
  resume_within (jump k) children me s = stopped
  resume_within end children me s = stopped

  mutual
    unfolding visit enter

    pub visit_within : (n : Node) (level : ℕ) (s : Running) → Within s.left (visit listing now n level s)
    visit_within (node r place names own children) level s =
        then_within _ _ _ (visit_forest-within children (suc level) _) λ a wa.
        within_more _ _ _ wa (resume_within _ a.tree _ a.running)

    pub visit_forest-within : (f : Forest) (level : ℕ) (s : Running) → Within s.left (visit_forest listing now f level s)
    visit_forest-within empty level s = leaves (le_refl _)
    visit_forest-within (more n ns) level s =
        then_within _ _ _ (visit_within n level s) λ a wa.
        then_within _ _ _ (within_more _ _ _ wa (visit_forest-within ns level a.running)) λ b wb. leaves wb

-- ── the calls ─────────────────────────────────────────────────────────────────────────────────────
pub start_turn-within : (listing : Listing) (allowance : ℕ) → Within allowance (start_turn listing allowance)
start_turn-within listing allowance = begin_within _ (run_within listing 0 allowance) 0 _ _

pub instant_turn-within : (listing : Listing) (s : State) (t : ℕ) (inputs : List Write) (allowance : ℕ) →
    Within allowance (instant_turn listing s t inputs allowance)
instant_turn-within listing s t inputs allowance = visit_forest-within listing t _ 0 _

-- The turn behind an answer: the steps used and those left make up the allowance.
pub record Accounted (allowance : ℕ) (o : Result Turn) (d : Done) : Type 0 where
  pub turn : Turn
  pub came : o ≡ ok turn
  pub sum : d.steps + turn.running.left ≡ allowance

pub finish_accounts : (listing : Listing) (t allowance : ℕ) (o : Result Turn) (d : Done) → Within allowance o →
    (o >>= finish listing t allowance) ≡ ok d → Accounted allowance o d
unfolding ◌>>=◌ finish
finish_accounts listing t allowance _ d stopped e = absurd (stop_is_not_ok e)
finish_accounts listing t allowance _ d (leaves {a = a} h) e =
    let same : allowance - a.running.left ≡ d.steps = ap (λ (x : Done). x.steps) (ok_injective e) in
    record { turn = a; came = refl; sum = omega arith }

-- "the result gives the steps used": those of the allowance that are not left.
pub start_accounts : (listing : Listing) (allowance : ℕ) (d : Done) → start listing allowance ≡ ok d →
    Accounted allowance (start_turn listing allowance) d
unfolding start
start_accounts listing allowance d e = finish_accounts listing 0 allowance _ d (start_turn-within listing allowance) e

pub instant_accounts : (listing : Listing) (s : State) (t : ℕ) (inputs : List Write) (allowance : ℕ) (d : Done) →
    instant listing s t inputs allowance ≡ ok d → Accounted allowance (instant_turn listing s t inputs allowance) d
unfolding instant
instant_accounts listing s t inputs allowance d e =
    finish_accounts listing t allowance _ d (instant_turn-within listing s t inputs allowance) e

-- The steps used never exceed the allowance.
pub start_steps : (listing : Listing) (allowance : ℕ) (d : Done) → start listing allowance ≡ ok d → d.steps ≤ allowance
start_steps listing allowance d e = omega (arith, (start_accounts listing allowance d e).sum)

pub instant_steps : (listing : Listing) (s : State) (t : ℕ) (inputs : List Write) (allowance : ℕ) (d : Done) →
    instant listing s t inputs allowance ≡ ok d → d.steps ≤ allowance
instant_steps listing s t inputs allowance d e = omega (arith, (instant_accounts listing s t inputs allowance d e).sum)
