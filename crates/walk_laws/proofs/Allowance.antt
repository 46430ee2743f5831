-- What an allowance decides: whether the steps suffice, and nothing else. An allowance that suffices and every other
-- that is at least the steps used give the same answer; a stop other than 13 stays under a larger allowance.
-- The outcome with some steps left is compared with the outcome of the same walk with d more of them: first for any
-- runner `go` of which it holds, then for `run`, for the visit, and at the end for the two calls.
-- Letters as in the walk: `me` is the frame of a routine, s what is running, k a number of steps,
-- o and o' outcomes with fewer and with more steps; a and b are the turns that outcomes hold. In the part on the calls
-- k and k' are allowances and d is an answer.
use mathlib.Core.Path.{◌≡◌, refl, sym, ap, subst, ◌∙◌}
use mathlib.Core.Bool.{Bool, true, false}
use mathlib.Core.List.{List}
use mathlib.Core.Logic.{◌≢◌}
use Prim.Native.Nat.{ℕ, zero, suc, ◌+◌, ◌-◌, ◌≤◌, ◌<◌}
use native.Mathlib.Nat.{le_refl, zero-add, suc-add, add-sub_of_le}
use native.Mathlib.Omega.{arith}
use native.Mathlib.Decide.{dec_le}
use Rattle.listing.specs.Listing.{Listing, Instruction, assign, schedule, branch, jump, wait, fork, end}
use Rattle.walk.specs.State.{Node, node, Forest, empty, more, State, Frame, go_to, next, Running, Turn, Result, stop, ok, ◌>>=◌, with_left}
use Rattle.walk.specs.Walk.{enter, sleep, leave, Runner, in_turn, begin, join, Move, goes_to, sleeps, forks, ends, stops, carry_out, execute, step, run, passed_wait, wake, resume, visit, visit_forest}
use Rattle.walk.specs.Instant.{Write, Done, finish, start, instant, start_turn, instant_turn}
use Rattle.walk_laws.proofs.Steps.{Within, stopped, leaves, then_within, within_more, ok_injective, stop_is_not_ok, Frugal, in_turn-within, begin_within, join_within, execute_within, run_within, resume_within, visit_within, visit_forest-within, start_turn-within, instant_turn-within, Accounted, finish_accounts}
use Rattle.walk_laws.proofs.Bound.{SameUpTo, begin_same, join_same, run_same}

-- ── outcomes ──────────────────────────────────────────────────────────────────────────────────────
-- d more steps left, and all else as it is.
abbrev pub with_more : ℕ → Running → Running
with_more d s = with_left s (s.left + d)

abbrev pub turn_with_more : ℕ → Turn → Turn
turn_with_more d a = record { running = with_more d a.running; tree = a.tree }

-- The outcome of a walk against the outcome of the same walk with d more steps: the steps were too few, and the longer
-- walk stops or uses some of the d; or both stop alike; or both end alike, and the d are left.
pub data Longer (d : ℕ) : Result Turn → Result Turn → Type 0 where
  short : {k : ℕ} {o : Result Turn} → k < d → Within k o → Longer d (stop 13) o
  same_stop : {n : ℕ} → Longer d (stop n) (stop n)
  same_turn : {a b : Turn} → b ≡ turn_with_more d a → Longer d (ok a) (ok b)

pub then_longer : (d k : ℕ) (o o' : Result Turn) (f f' : Turn → Result Turn) → Longer d o o' → Within k o →
    ((a : Turn) → Within a.running.left (f' a)) →
    ((a : Turn) → a.running.left ≤ k → Longer d (f a) (f' (turn_with_more d a))) → Longer d (o >>= f) (o' >>= f')
unfolding ◌>>=◌
then_longer d k _ o' f f' (short {k = j} l w) wo w' h = short l (then_within j o' f' w λ a wa. within_more _ _ _ wa (w' a))
then_longer d k _ _ f f' same_stop wo w' h = same_stop
then_longer d k _ _ f f' (same_turn {a = a} e) (leaves l) w' h = rw e (h a l)

-- ── runners ───────────────────────────────────────────────────────────────────────────────────────
-- d more steps make a longer walk of what the runner does, while there are at most k in all.
abbrev pub Extends : ℕ → ℕ → Runner → Type 0
Extends d k go = (me : Frame) (s : Running) → s.left + d ≤ k →
    Longer d (go me s) (go me (with_more d s))

-- The same without a limit, of a runner that takes the steps left for the bound of its recursion.
abbrev pub Lengthens : ℕ → Runner → Type 0
Lengthens d go = (me : Frame) (s : Running) →
    Longer d (go me s) (go me (with_more d s))

module _ (d k : ℕ) where
  in_turn-longer : (f : Node → Running → Result Turn) → ((n : Node) (s : Running) → Within s.left (f n s)) →
      ((n : Node) (s : Running) → s.left + d ≤ k → Longer d (f n s) (f n (with_more d s))) →
      (ns : Forest) (s : Running) → s.left + d ≤ k → Longer d (in_turn f ns s) (in_turn f ns (with_more d s))
  unfolding in_turn
  in_turn-longer f w h empty s l = same_turn refl
  in_turn-longer f w h (more n ns) s l =
      then_longer d s.left _ _ _ _ (h n s l) (w n s)
      (λ a. then_within _ _ _ (in_turn-within f w ns a.running) λ b wb. leaves wb)
      λ a wa.
      then_longer d a.running.left _ _ _ _ (in_turn-longer f w h ns a.running (omega arith)) (in_turn-within f w ns a.running)
      (λ b. leaves (le_refl _)) λ b wb. same_turn refl

  begin_longer : (go : Runner) → Extends d k go → (level : ℕ) (n : Node) (s : Running) → s.left + d ≤ k →
      Longer d (begin go level n s) (begin go level n (with_more d s))
  unfolding begin enter
  begin_longer go h level (node r place names own children) s l = h _ _ l

  join_longer : (go : Runner) → Extends d k go → (children : Forest) →
      Extends d k (λ me s. join go me children s)
  unfolding join sleep
  join_longer go h empty me s l = h (next me) s l
  join_longer go h (more n ns) me s l = same_turn refl

  module _ (listing : Listing) (now : ℕ) where
    carry_out-longer : (go : Runner) → Frugal go → Extends d k go → (m : Move) → Extends d k (carry_out listing now go m)
    unfolding carry_out sleep leave
    carry_out-longer go w h (goes_to to memory) me s l = h (go_to me to) _ l
    carry_out-longer go w h sleeps me s l = same_turn refl
    carry_out-longer go w h (forks cs) me s l =
        then_longer d s.left _ _ _ _ (in_turn-longer _ (begin_within go w (suc me.level)) (begin_longer go h (suc me.level)) _ _ l)
        (in_turn-within _ (begin_within go w (suc me.level)) _ _)
        (λ a. join_within go w a.tree me a.running)
        λ a wa. join_longer go h a.tree me a.running (omega arith)
    carry_out-longer go w h ends me s l = same_turn refl
    carry_out-longer go w h (stops number) me s l = same_stop

    execute_longer : (go : Runner) → Frugal go → Extends d k go → (i : Instruction) → Extends d k (execute listing now go i)
    unfolding execute
    execute_longer go w h i me s l = carry_out-longer go w h _ me s l

-- ── the run and the visit ─────────────────────────────────────────────────────────────────────────
module _ (listing : Listing) (now d : ℕ) where
  -- Without a step left there is a stop; with n, a walk that leaves fewer than n.
  step_without : (n : ℕ) (f : Running → Result Turn) → ((s : Running) → Within s.left (f s)) → (s : Running) →
      Longer n (stop 13) (step f n s)
  unfolding step
  step_without zero f w s = same_stop
  step_without (suc n) f w s = short (le_refl _) (w _)

  step_longer : (k : ℕ) (f : Running → Result Turn) → ((s : Running) → Within s.left (f s)) →
      ((s : Running) → s.left + d ≤ k → Longer d (f s) (f (with_more d s))) →
      (j : ℕ) (s : Running) → j + d ≤ suc k → Longer d (step f j s) (step f (j + d) (with_more d s))
  unfolding step
  step_longer k f w h zero s l = rw (zero-add d) (step_without d f w _)
  step_longer k f w h (suc j) s l = rw (suc-add j d) (h _ (omega arith))

  pub run_longer : (bound : ℕ) → Extends d bound (run listing now bound)
  unfolding run
  run_longer zero me s l = same_stop
  run_longer (suc bound) me s l =
      let w : Frugal (run listing now bound) = run_within listing now bound in
      step_longer bound _ (λ u. execute_within listing now (run listing now bound) w _ me u)
      (λ u lu. execute_longer d bound listing now (run listing now bound) w (run_longer bound) _ me u lu)
      s.left s l

  -- The bound may be the larger number of steps on both sides.
  bound_with_more : (s : Running) → SameUpTo s.left (run listing now s.left) (run listing now (s.left + d))
  bound_with_more s = run_same listing now s.left (s.left + d) s.left (le_refl _) (omega arith)

  wake_longer : (woken : Bool) → Lengthens d (wake listing now woken)
  unfolding wake passed_wait sleep
  wake_longer true me s =
      rw (bound_with_more s (next me) (passed_wait s) (le_refl _))
      (run_longer (s.left + d) (next me) (passed_wait s) (le_refl _))
  wake_longer false me s = same_turn refl

  resume_longer : (i : Instruction) (children : Forest) →
      Lengthens d (λ me s. resume listing now i me children s)
  unfolding resume
  resume_longer (wait ns) children me s = wake_longer _ me s
  resume_longer (fork cs) children me s =
      rw (join_same s.left _ _ (bound_with_more s) children me s (le_refl _))
      (join_longer d (s.left + d) _ (run_longer (s.left + d)) children me s (le_refl _))
  resume_longer (assign n e) children me s = same_stop
  resume_longer (schedule n e v) children me s = same_stop
  resume_longer (branch e k) children me s = same_stop
  resume_longer (jump k) children me s = same_stop
  resume_longer end children me s = same_stop

  mutual
    unfolding visit enter

    pub visit_longer : (n : Node) (level : ℕ) (s : Running) →
        Longer d (visit listing now n level s) (visit listing now n level (with_more d s))
    visit_longer (node r place names own children) level s =
        then_longer d s.left _ _ _ _ (visit_forest-longer children (suc level) _) (visit_forest-within listing now children (suc level) _)
        (λ a. resume_within listing now _ a.tree _ a.running)
        λ a wa. resume_longer _ a.tree _ a.running

    pub visit_forest-longer : (f : Forest) (level : ℕ) (s : Running) →
        Longer d (visit_forest listing now f level s) (visit_forest listing now f level (with_more d s))
    visit_forest-longer empty level s = same_turn refl
    visit_forest-longer (more n ns) level s =
        then_longer d s.left _ _ _ _ (visit_longer n level s) (visit_within listing now n level s)
        (λ a. then_within _ _ _ (visit_forest-within listing now ns level a.running) λ b wb. leaves wb)
        λ a wa.
        then_longer d a.running.left _ _ _ _ (visit_forest-longer ns level a.running) (visit_forest-within listing now ns level a.running)
        (λ b. leaves (le_refl _)) λ b wb. same_turn refl

-- ── the calls ─────────────────────────────────────────────────────────────────────────────────────
-- An answer by allowance, `answer`, in which the allowance decides only whether the steps suffice.
pub record DecidesOnlyEnough (answer : ℕ → Result Done) : Type 0 where
  -- Where one allowance suffices, every allowance of at least the steps used gives the same answer,
  pub enough : (allowance : ℕ) (d : Done) → answer allowance ≡ ok d → (other : ℕ) → d.steps ≤ other → answer other ≡ ok d
  -- and every smaller one stops with 13.
  pub too_few_lem : (allowance : ℕ) (d : Done) → answer allowance ≡ ok d → (other : ℕ) → other < d.steps → answer other ≡ stop 13
  -- A stop for another reason stays under every larger allowance.
  pub other_stop : (allowance n : ℕ) → n ≢ 13 → answer allowance ≡ stop n → (larger : ℕ) → allowance ≤ larger → answer larger ≡ stop n

-- Two allowances that both suffice give one answer.
pub two_answers_are_equal : (answer : ℕ → Result Done) → DecidesOnlyEnough answer → (k k' : ℕ) (d d' : Done) →
    answer k ≡ ok d → answer k' ≡ ok d' → d ≡ d'
two_answers_are_equal answer h k k' d d' e e' = by_order (dec_le d.steps k')
  where
    by_order : Dec (d.steps ≤ k') → d ≡ d'
    by_order (yes l) = ok_injective (sym (h.enough k d e k' l) ∙ e')
    by_order (no few) = absurd (stop_is_not_ok (sym (h.too_few_lem k d e k' (omega arith)) ∙ e'))

-- What the outcome with fewer steps says of the one with d more, and the other way round.
turn_stays : (d : ℕ) (o o' : Result Turn) (a : Turn) → Longer d o o' → o ≡ ok a → o' ≡ ok (turn_with_more d a)
turn_stays d _ o' a (short l w) e = absurd (stop_is_not_ok e)
turn_stays d _ _ a same_stop e = absurd (stop_is_not_ok e)
turn_stays d _ _ a (same_turn z) e = ap ok (z ∙ ap (turn_with_more d) (ok_injective e))

other_stop_stays : (d n : ℕ) (o o' : Result Turn) → Longer d o o' → n ≢ 13 → o ≡ stop n → o' ≡ stop n
other_stop_stays d n _ o' (short l w) ne e = let z : n ≡ 13 = cc in absurd (ne z)
other_stop_stays d n _ _ same_stop ne e = e
other_stop_stays d n _ _ (same_turn z) ne e = absurd (stop_is_not_ok (sym e))

turn_was : (d : ℕ) (o o' : Result Turn) (b : Turn) → Longer d o o' → o' ≡ ok b → d ≤ b.running.left →
    (a : Turn) × (o ≡ ok a) × (b ≡ turn_with_more d a)
turn_was d _ _ b (short l stopped) e le = absurd (stop_is_not_ok e)
turn_was d _ _ b (short l (leaves w)) e le = absurd (omega (arith, ap (λ (x : Turn). x.running.left) (ok_injective e)))
turn_was d _ _ b same_stop e le = absurd (stop_is_not_ok e)
turn_was d _ _ b (same_turn {a = a} z) e le = (a, refl, sym (ok_injective e) ∙ z)

steps_were_short : (d : ℕ) (o o' : Result Turn) (b : Turn) → Longer d o o' → o' ≡ ok b → b.running.left < d → o ≡ stop 13
steps_were_short d _ _ b (short l w) e lt = refl
steps_were_short d _ _ b same_stop e lt = absurd (stop_is_not_ok e)
steps_were_short d _ _ b (same_turn {a = a} z) e lt =
    absurd (omega (arith, ap (λ (x : Turn). x.running.left) (sym (ok_injective e) ∙ z)))

module _ (listing : Listing) (t : ℕ) where
  finish_longer : (k k' : ℕ) (a : Turn) → k ≤ k' → finish listing t k' (turn_with_more (k' - k) a) ≡ finish listing t k a
  unfolding finish
  finish_longer k k' a l =
      let same : k' - (a.running.left + (k' - k)) ≡ k - a.running.left = omega arith in
      rw same

  finish_stops : (k n : ℕ) (o : Result Turn) → (o >>= finish listing t k) ≡ stop n → o ≡ stop n
  unfolding ◌>>=◌ finish
  finish_stops k n (stop m) e = let same : m ≡ n = cc in ap stop same
  finish_stops k n (ok a) e = absurd (stop_is_not_ok (sym e))

  -- A call's turn by allowance, under a smaller one, k, and a larger one, k'.
  module _ (turn : ℕ → Result Turn) (within : (k : ℕ) → Within k (turn k)) (lengthens : (k d : ℕ) → Longer d (turn k) (turn (k + d))) where
    abbrev answer : ℕ → Result Done
    answer k = turn k >>= finish listing t k

    longer : (k k' : ℕ) → k ≤ k' → Longer (k' - k) (turn k) (turn k')
    longer k k' l = rw (add-sub_of_le l) at (lengthens k (k' - k))

    accounted : (k : ℕ) (d : Done) → answer k ≡ ok d → Accounted k (turn k) d
    accounted k d e = finish_accounts listing t k (turn k) d (within k) e

    larger_gives_the_same : (k k' : ℕ) (d : Done) → k ≤ k' → answer k ≡ ok d → answer k' ≡ ok d
    unfolding ◌>>=◌
    larger_gives_the_same k k' d l e =
        let c = accounted k d e in
        rw (turn_stays _ _ _ c.turn (longer k k' l) c.came) (finish_longer k k' c.turn l ∙ (rw c.came at e))

    smaller_gives_the_same : (k k' : ℕ) (d : Done) → k ≤ k' → d.steps ≤ k → answer k' ≡ ok d → answer k ≡ ok d
    unfolding ◌>>=◌
    smaller_gives_the_same k k' d l le e =
        let c = accounted k' d e in
        let w = turn_was _ _ _ c.turn (longer k k' l) c.came (omega (arith, c.sum)) in
        rw w.1 (sym (finish_longer k k' w.0 l) ∙ (rw (c.came, w.2) at e))

    too_few_stop_with_13 : (k k' : ℕ) (d : Done) → k < d.steps → answer k' ≡ ok d → answer k ≡ stop 13
    unfolding ◌>>=◌
    too_few_stop_with_13 k k' d lt e =
        let c = accounted k' d e in
        let l : k ≤ k' = omega (arith, c.sum) in
        rw (steps_were_short _ _ _ c.turn (longer k k' l) c.came (omega (arith, c.sum)))

    other_stop_is_the_same : (k k' n : ℕ) → n ≢ 13 → k ≤ k' → answer k ≡ stop n → answer k' ≡ stop n
    unfolding ◌>>=◌
    other_stop_is_the_same k k' n ne l e = rw (other_stop_stays _ n _ _ (longer k k' l) ne (finish_stops k n _ e))

    enough_gives_the_same : (k k' : ℕ) (d : Done) → Dec (k ≤ k') → d.steps ≤ k' → answer k ≡ ok d → answer k' ≡ ok d
    enough_gives_the_same k k' d (yes l) le e = larger_gives_the_same k k' d l e
    enough_gives_the_same k k' d (no ne) le e = smaller_gives_the_same k' k d (omega arith) le e

    decides_only_enough : DecidesOnlyEnough answer
    decides_only_enough = record {
      enough = λ k d e k' le. enough_gives_the_same k k' d (dec_le k k') le e;
      too_few_lem = λ k d e k' lt. too_few_stop_with_13 k' k d lt e;
      other_stop = λ k n ne e k' l. other_stop_is_the_same k k' n ne l e;
    }

start_turn-longer : (listing : Listing) (k d : ℕ) → Longer d (start_turn listing k) (start_turn listing (k + d))
start_turn-longer listing k d =
    subst (λ (o : Result Turn). Longer d o (start_turn listing (k + d)))
    (sym (begin_same k _ _ (run_same listing 0 k (k + d) k (le_refl _) (omega arith)) 0 _ _ (le_refl _)))
    (begin_longer d (k + d) _ (run_longer listing 0 d (k + d)) 0 _ _ (le_refl _))

instant_turn-longer : (listing : Listing) (s : State) (t : ℕ) (inputs : List Write) (k d : ℕ) →
    Longer d (instant_turn listing s t inputs k) (instant_turn listing s t inputs (k + d))
instant_turn-longer listing s t inputs k d = visit_forest-longer listing t d _ 0 _

pub start_decides_only_enough : (listing : Listing) → DecidesOnlyEnough (start listing)
unfolding start
start_decides_only_enough listing = decides_only_enough listing 0 (start_turn listing) (start_turn-within listing) (start_turn-longer listing)

pub instant_decides_only_enough : (listing : Listing) (s : State) (t : ℕ) (inputs : List Write) →
    DecidesOnlyEnough (instant listing s t inputs)
unfolding instant
instant_decides_only_enough listing s t inputs =
    decides_only_enough listing t (instant_turn listing s t inputs)
    (instant_turn-within listing s t inputs) (instant_turn-longer listing s t inputs)
