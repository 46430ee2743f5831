-- Runs by computation: where `start_of` or `told` is unfolded, `refl` plays a run and tells what is a grower's in it.
use mathlib.Core.List.{List, [], ◌∷◌}
use Prim.Native.Nat.{ℕ}
use Rattle.listing.specs.Lists as Lists
use Rattle.listing.specs.Listing.{Call}
use Rattle.walk.specs.State as State
use Rattle.walk.specs.Instant.{Done}
use Rattle.walk.specs.Evaluation.{calls_quoted}
use Rattle.walk.specs.Calls.{Outcome, refused, stopped, done, outcome_number, start_on}
use Rattle.walk.specs.Events.{Event}
use Rattle.walk.specs.Runs.{Run, Answered, answers, accepted_inputs, reported_writes, time_of}
use Rattle.walk_halves.specs.Halves as Halves
use Rattle.walk_halves.specs.Halves.{only_of}

-- What a start did; of one that was refused or stopped, nothing.
unfoldable pub done_of : Outcome → Done
done_of (refused k) = record { state = record { now = 0; environment = []; tree = State.empty }; steps = 0; listed = []; woken = 0 }
done_of (stopped k) = record { state = record { now = 0; environment = []; tree = State.empty }; steps = 0; listed = []; woken = 0 }
done_of (done d) = d

unfoldable pub start_of : Run → Done
unfolding calls_quoted Lists.all Halves.among Halves.share_none Halves.all_apart_lem Halves.called_by_reference Halves.kept_if Halves.only_of done_of
start_of run = done_of (start_on run.listing run.allowance)

unfoldable pub numbers_of : List Answered → List ℕ
numbers_of [] = []
numbers_of (a ∷ xs) = outcome_number a.outcome ∷ numbers_of xs

-- What is told of a run for the grower with child field c: the numbers of its calls, the grower's accepted inputs, the run's time and
-- the grower's reported writes.
pub record Told : Type 0 where
  pub numbers : List ℕ
  pub accepted : List Event
  pub time : ℕ
  pub reports : List Event

unfoldable pub told : Call → Run → Told
unfolding start_of numbers_of
told c run = record {
  numbers = numbers_of (answers run (start_of run));
  accepted = only_of c (accepted_inputs run (start_of run));
  time = time_of run (start_of run);
  reports = only_of c (reported_writes run (start_of run));
}
