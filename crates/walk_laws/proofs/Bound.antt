-- The bound on the recursion of `run` does not matter where it is at least the steps left.
-- Said first of any two runners `go` and `go'` that agree, then of `run` with two bounds.
-- Letters as in the walk: `me` is the frame of a routine, s what is running, k a number of steps,
-- o an outcome, a the turn that it holds.
use mathlib.Core.Path.{◌≡◌, refl, sym, ◌∙◌}
use Prim.Native.Nat.{ℕ, zero, suc, ◌≤◌}
use native.Mathlib.Nat.{le_trans}
use native.Mathlib.Omega.{arith}
use Rattle.listing.specs.Listing.{Listing, Instruction}
use Rattle.walk.specs.State.{Node, node, Forest, empty, more, Frame, go_to, next, Running, Turn, Result, stop, ◌>>=◌}
use Rattle.walk.specs.Walk.{enter, Runner, in_turn, begin, join, Move, goes_to, sleeps, forks, ends, stops, carry_out, execute, step, run, instruction_of}
use Rattle.walk_laws.proofs.Steps.{Within, stopped, leaves, Frugal, in_turn-within, begin_within, run_within}

pub then_same : (k : ℕ) {o o' : Result Turn} (f g : Turn → Result Turn) → o ≡ o' → Within k o →
    ((a : Turn) → a.running.left ≤ k → f a ≡ g a) → (o >>= f) ≡ (o' >>= g)
unfolding ◌>>=◌
then_same k f g e stopped h = rw (← e)
then_same k f g e (leaves {a = a} w) h = rw (← e) (h a w)

-- Two runners that give the same wherever at most k steps are left.
abbrev pub SameUpTo : ℕ → Runner → Runner → Type 0
SameUpTo k go go' = (me : Frame) (s : Running) → s.left ≤ k →
    go me s ≡ go' me s

pub in_turn-same : (k : ℕ) (f g : Node → Running → Result Turn) → ((n : Node) (s : Running) → Within s.left (f n s)) →
    ((n : Node) (s : Running) → s.left ≤ k → f n s ≡ g n s) → (ns : Forest) (s : Running) → s.left ≤ k → in_turn f ns s ≡ in_turn g ns s
unfolding in_turn
in_turn-same k f g w h empty s l = refl
in_turn-same k f g w h (more n ns) s l =
    then_same s.left _ _ (h n s l) (w n s) λ a wa. rw (in_turn-same k f g w h ns a.running (le_trans wa l))

pub begin_same : (k : ℕ) (go go' : Runner) → SameUpTo k go go' → (level : ℕ) (n : Node) (s : Running) → s.left ≤ k →
    begin go level n s ≡ begin go' level n s
unfolding begin enter
begin_same k go go' h level (node r place names own children) s l = h _ _ l

pub join_same : (k : ℕ) (go go' : Runner) → SameUpTo k go go' → (children : Forest) →
    SameUpTo k (λ me s. join go me children s)
    (λ me s. join go' me children s)
unfolding join
join_same k go go' h empty me s l = h (next me) s l
join_same k go go' h (more n ns) me s l = refl

module _ (listing : Listing) (now : ℕ) where
  carry_out-same : (k : ℕ) (go go' : Runner) → Frugal go → SameUpTo k go go' → (m : Move) →
      SameUpTo k (carry_out listing now go m) (carry_out listing now go' m)
  unfolding carry_out
  carry_out-same k go go' w h (goes_to to memory) me s l = h (go_to me to) _ l
  carry_out-same k go go' w h sleeps me s l = refl
  carry_out-same k go go' w h (forks cs) me s l =
      then_same s.left _ _ (in_turn-same k _ _ (begin_within go w (suc me.level)) (begin_same k go go' h (suc me.level)) _ _ l)
      (in_turn-within _ (begin_within go w (suc me.level)) _ _)
      λ a wa. join_same k go go' h a.tree me a.running (le_trans wa l)
  carry_out-same k go go' w h ends me s l = refl
  carry_out-same k go go' w h (stops number) me s l = refl

  pub execute_same : (k : ℕ) (go go' : Runner) → Frugal go → SameUpTo k go go' → (i : Instruction) →
      SameUpTo k (execute listing now go i) (execute listing now go' i)
  unfolding execute
  execute_same k go go' w h i me s l = carry_out-same k go go' w h _ me s l

  step_same : (f g : Running → Result Turn) (k j : ℕ) (s : Running) → j ≤ suc k → ((u : Running) → u.left ≤ k → f u ≡ g u) →
      step f j s ≡ step g j s
  unfolding step
  step_same f g k zero s l h = refl
  step_same f g k (suc j) s l h = h _ (omega arith)

  pub run_without_steps : (bound : ℕ) (me : Frame) (s : Running) → s.left ≡ 0 →
      run listing now bound me s ≡ stop 13
  unfolding run step
  run_without_steps zero me s e = refl
  run_without_steps (suc bound) me s e = rw e

  -- Any two bounds of at least k give the same wherever at most k steps are left.
  pub run_same : (bound bound' k : ℕ) → k ≤ bound → k ≤ bound' → SameUpTo k (run listing now bound) (run listing now bound')
  unfolding run
  run_same zero bound' k p q me s l = sym (run_without_steps bound' me s (omega arith))
  run_same (suc bound) zero k p q me s l = run_without_steps (suc bound) me s (omega arith)
  run_same (suc bound) (suc bound') zero p q me s l =
      run_without_steps (suc bound) me s (omega arith) ∙
      sym (run_without_steps (suc bound') me s (omega arith))
  run_same (suc bound) (suc bound') (suc k) p q me s l =
      step_same _ _ k s.left s l λ u lu.
      execute_same k (run listing now bound) (run listing now bound') (run_within listing now bound)
      (run_same bound bound' k (omega arith) (omega arith)) (instruction_of listing me) me u lu
