-- Demand 3 is not empty: two runs with different second halves, moments, allowances, refused and idle calls meet it, with a list that
-- is not empty; all by evaluation (specs Examples has the runs).
use mathlib.Core.Path.{◌≡◌, refl, sym, ap, ◌∙◌}
use mathlib.Core.Bool.{true, false}
use mathlib.Core.List.{List, [], ◌∷◌}
use Prim.Native.Nat.{ℕ}
use Rattle.listing.specs.Text.{text_of}
use Rattle.listing.specs.Load.{Loads}
use Rattle.listing.specs.Evaluation.{load, write}
use Rattle.walk.specs.Walk.{routine_at}
use Rattle.walk.specs.Runs.{Unstopped, no_call, refused_call, done_call, answers, accepted_inputs, time_of}
use Rattle.walk_halves.specs.Examples.{first, second, one_listing, other_listing, one_run, other_run, opened, closed, pressed, one_numbers, other_numbers, one_second, other_second}
use Rattle.walk_halves.specs.Halves.{RunOfHalves, only_of, RoutineOf, Agree, SameReports}
use Rattle.walk_halves.proofs.Routines.{callees_in, forks_in, code_in, closed_in, all_among, in_common}
use Rattle.walk_halves.proofs.Evaluation.{start_of, Told, told}
use Rattle.walk_halves.proofs.Demand3.{two_halves}

-- ── they meet the hypotheses ──────────────────────────────────────────────────────────────────────
pub one_loads : Loads (text_of one_listing) one_listing
unfolding load write
one_loads = refl

pub other_loads : Loads (text_of other_listing) other_listing
unfolding load write
other_loads = refl

pub one_run_lem : RunOfHalves first second one_run (start_of one_run)
unfolding start_of
one_run_lem = record { let_to = record { main = refl; references = refl; apart = refl }; text = text_of one_listing; loads = one_loads; starts = refl }

pub other_run_lem : RunOfHalves first second other_run (start_of other_run)
unfolding start_of
other_run_lem = record { let_to = record { main = refl; references = refl; apart = refl }; text = text_of other_listing; loads = other_loads; starts = refl }

-- Idle calls, calls for the second half alone, refused calls in the one run and not in the other; the first's lists are not empty.
pub one_told : told first one_run ≡ record {
  numbers = one_numbers;
  accepted = pressed ∷ [];
  time = 200;
  reports = opened ∷ closed ∷ [];
}
unfolding told
one_told = refl

pub other_told : told first other_run ≡ record {
  numbers = other_numbers;
  accepted = pressed ∷ [];
  time = 200;
  reports = opened ∷ closed ∷ [];
}
unfolding told
other_told = refl

one_unstopped : Unstopped (answers one_run (start_of one_run))
unfolding start_of
one_unstopped = done_call (done_call (refused_call (refused_call (done_call (done_call (done_call (refused_call (done_call (done_call no_call)))))))))

other_unstopped : Unstopped (answers other_run (start_of other_run))
unfolding start_of
other_unstopped = done_call (done_call (refused_call (refused_call (refused_call (done_call (done_call (done_call no_call)))))))

-- The first's routines are 1 and 3, which the two listings have in common.
pub its_routines : (r : ℕ) → RoutineOf one_listing first r → routine_at one_listing r ≡ routine_at other_listing r
unfolding start_of callees_in forks_in code_in closed_in
its_routines r i = in_common one_listing other_listing (1 ∷ 3 ∷ []) r (refl, (refl, tt)) (all_among one_listing first (1 ∷ 3 ∷ []) refl refl r i)

same_accepted : only_of first (accepted_inputs one_run (start_of one_run)) ≡ only_of first (accepted_inputs other_run (start_of other_run))
unfolding told
same_accepted = ap (λ (x : Told). x.accepted) one_told ∙ sym (ap (λ (x : Told). x.accepted) other_told)

same_time : time_of one_run (start_of one_run) ≡ time_of other_run (start_of other_run)
unfolding told
same_time = ap (λ (x : Told). x.time) one_told ∙ sym (ap (λ (x : Told). x.time) other_told)

they_agree : Agree first one_run other_run (start_of one_run) (start_of other_run)
unfolding routine_at
they_agree = record {
  listings = record { inputs = refl; outputs = refl; main = refl; routines = its_routines };
  accepted = same_accepted;
  time = same_time;
}

-- ── so the first's lists are equal; the second's are not ──────────────────────────────────────────
they_report_the_same : SameReports first one_run other_run (start_of one_run) (start_of other_run)
they_report_the_same =
    two_halves first second one_run other_run (start_of one_run) (start_of other_run) one_run_lem other_run_lem one_unstopped other_unstopped they_agree

pub second_differs : ((told second one_run).reports ≡ one_second) ×
    ((told second other_run).reports ≡ other_second)
unfolding told
second_differs = (refl, refl)
