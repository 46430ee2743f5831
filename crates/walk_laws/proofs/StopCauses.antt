-- Each stop has one cause: the start, and an instant from a state of the walk, stop with k exactly if the walk reaches an instruction
-- at which question k is the first no. Letters: k a question's number, s a state, t a moment.
use mathlib.Core.Path.{◌≡◌, sym, ◌∙◌}
use mathlib.Core.List.{List}
use mathlib.Core.Logic.{◌↔◌}
use Prim.Native.Nat.{ℕ, ◌≤◌}
use native.Mathlib.Nat.{le_refl}
use native.Mathlib.Omega.{arith}
use Rattle.listing.specs.Listing.{Listing}
use Rattle.walk.specs.State.{Node, empty, more, ◌⊕◌, State, Running, Turn, Result, stop, ok, ◌>>=◌}
use Rattle.walk.specs.Walk.{in_turn, begin, run}
use Rattle.walk.specs.Instant.{Write, finish, start, instant}
use Rattle.walk.specs.Question7.{IsState}
use Rattle.walk_laws.specs.Stops.{full_run, StartStops, InstantStops}
use Rattle.walk_laws.proofs.Bound.{begin_same}
use Rattle.walk_laws.proofs.Answers as Answers
use Rattle.walk_laws.proofs.Answers.{stop_is_not_0, instant_answers}
use Rattle.walk_laws.proofs.FullRun.{bound_is_full}
use Rattle.walk_laws.proofs.StopDecides.{then_stop, new_stops, visit_forest_stops}
use Rattle.walk_laws.proofs.StopReached.{ok_is_not_stop, ThenStops, at_once, afterwards, then_stops, new_reaches, visit_forest_reaches}

-- The end of an instant does not stop.
finish_goes_through : {A : Type 0} (listing : Listing) (t allowance k : ℕ) (a : Turn) → finish listing t allowance a ≡ stop k → A
unfolding finish
finish_goes_through listing t allowance k a e = ok_is_not_stop e

before_finish : (listing : Listing) (t allowance k : ℕ) (x : Result Turn) → x >>= finish listing t allowance ≡ stop k → x ≡ stop k
before_finish listing t allowance k x e = only (then_stops k x _ e)
  where
    only : ThenStops k x (finish listing t allowance) → x ≡ stop k
    only (at_once g) = g
    only (afterwards a g h) = finish_goes_through listing t allowance k a h

-- One new routine by itself.
one_in_turn : (listing : Listing) (now k level : ℕ) (n : Node) (s : Running) → in_turn (begin (full_run listing now) level) (more n empty) s ≡ stop k →
    begin (full_run listing now) level n s ≡ stop k
unfolding in_turn ◌>>=◌
one_in_turn listing now k level n s e = only (then_stops k _ _ e)
  where
    only : ThenStops {B = Turn} k (begin (full_run listing now) level n s) (λ (a : Turn). ok (record { running = a.running; tree = a.tree ⊕ empty })) →
        begin (full_run listing now) level n s ≡ stop k
    only (at_once g) = g
    only (afterwards a g h) = ok_is_not_stop h

-- ── the start ─────────────────────────────────────────────────────────────────────────────────────
pub start_stops_exactly_if : (listing : Listing) (allowance k : ℕ) → (start listing allowance ≡ stop k) ↔ StartStops listing allowance k
unfolding start
start_stops_exactly_if listing allowance k = (
  (λ e. new_reaches listing 0 k 0 _ empty _ (sym (full _ _ (le_refl _)) ∙ before_finish listing 0 allowance k _ e)),
  (λ c. then_stop _ _ (full _ _ (le_refl _) ∙ one_in_turn listing 0 k 0 _ _ (new_stops listing 0 k c))),
)
  where
    full : (n : Node) (s : Running) → s.left ≤ allowance → begin (run listing 0 allowance) 0 n s ≡ begin (full_run listing 0) 0 n s
    full n s l = begin_same allowance (run listing 0 allowance) (full_run listing 0) (bound_is_full listing 0 allowance) 0 n s l

-- ── an instant ────────────────────────────────────────────────────────────────────────────────────
stop_numbered : {A : Type 0} {x : Result A} (k : ℕ) → Answers.Answered x → x ≡ stop k → 1 ≤ k
stop_numbered k Answers.done e = ok_is_not_stop e
stop_numbered k (Answers.stopped j h) e = let same : j ≡ k = cc in let positive = stop_is_not_0 j h in omega arith

pub instant_stops_exactly_if : (listing : Listing) (s : State) → IsState listing s → (t : ℕ) (inputs : List Write) (allowance k : ℕ) →
    (instant listing s t inputs allowance ≡ stop k) ↔ InstantStops listing s t inputs allowance k
unfolding instant
instant_stops_exactly_if listing s h t inputs allowance k = (
  (λ e. visit_forest_reaches listing t k (stop_numbered k (instant_answers listing s t inputs allowance h) e) _ 0 _
      (before_finish listing t allowance k _ e)),
  (λ c. then_stop _ _ (visit_forest_stops listing t k c)),
)
