-- A routine's run with the steps left as the bound of its recursion (`full_run`): without a step it stops with 13; otherwise it takes
-- a step and executes the instruction that it is at. Letters as in the walk: `me` is the frame of a routine, s what is running.
use mathlib.Core.Path.{◌≡◌, ◌∙◌}
use Prim.Native.Nat.{ℕ, suc, ◌-◌, ◌≤◌}
use native.Mathlib.Nat.{le_refl}
use native.Mathlib.Omega.{arith}
use Rattle.listing.specs.Listing.{Listing}
use Rattle.walk.specs.State.{Running, Turn, Result, stop, ok, with_left, Frame}
use Rattle.walk.specs.Walk.{execute, step, run, instruction_of}
use Rattle.walk_laws.specs.Stops.{step_taken, full_run}
use Rattle.walk_laws.proofs.Steps.{Within, stopped, leaves, Frugal, run_within, stop_is_not_ok}
use Rattle.walk_laws.proofs.Bound.{SameUpTo, execute_same, run_without_steps, run_same}

-- The steps left by a turn that came.
pub left_by : {k : ℕ} {o : Result Turn} (a : Turn) → Within k o → o ≡ ok a → a.running.left ≤ k
left_by a stopped e = absurd (stop_is_not_ok e)
left_by {k} a (leaves {a = b} h) e = let same : b ≡ a = cc in rw same at h

module _ (listing : Listing) (now : ℕ) where
  pub full_frugal : Frugal (full_run listing now)
  full_frugal me s = run_within listing now s.left me s

  -- Any bound of at least the steps left will do.
  pub bound_is_full : (bound : ℕ) → SameUpTo bound (run listing now bound) (full_run listing now)
  bound_is_full bound me s l = run_same listing now bound s.left s.left l (le_refl _) me s (le_refl _)

  pub full_without_steps : (me : Frame) (s : Running) → s.left ≡ 0 →
      full_run listing now me s ≡ stop 13
  full_without_steps me s e = run_without_steps listing now s.left me s e

  run_takes_step : (bound : ℕ) (me : Frame) (s : Running) → s.left ≡ suc bound →
      run listing now s.left me s ≡
      execute listing now (run listing now bound) (instruction_of listing me) me
      (with_left s bound)
  unfolding run step
  run_takes_step bound me s e = rw e

  pub full_takes_step : (me : Frame) (s : Running) → 1 ≤ s.left →
      full_run listing now me s ≡
      execute listing now (full_run listing now) (instruction_of listing me) me (step_taken s)
  full_takes_step me s l =
      run_takes_step (s.left - 1) me s (omega arith) ∙
      execute_same listing now (s.left - 1) (run listing now (s.left - 1)) (full_run listing now) (run_within listing now (s.left - 1))
      (bound_is_full (s.left - 1)) (instruction_of listing me) me (step_taken s) (le_refl _)
