-- Two runs for demand 3, with different second halves, moments, allowances, refused and idle calls: what they are, and what is told of them.
-- In the other run main ends, and its variables with it; in the one the second half keeps it alive, and with it a waiting write of the
-- first's on a variable of main's, for which a call at 200 is refused with 10 in that run only.
use Rattle.std.specs.Prelude.{true, false, List, [], ◌∷◌, ℕ}
use Rattle.listing.specs.Listing.{Listing, Routine, Kind, by_reference, Call, literal, value_of, assign, schedule, jump, wait, fork, end}
use Rattle.walk.specs.Instant.{Write}
use Rattle.walk.specs.Events.{Event}
use Rattle.walk.specs.Runs.{InstantCall, Run}

-- ── the two listings ──────────────────────────────────────────────────────────────────────────────
-- Two inputs, two outputs, two variables of main's own; each half has one of each.
abbrev pub first : Call
first = record { callee = 1; arguments = 0 ∷ 2 ∷ 4 ∷ [] }

abbrev pub second : Call
second = record { callee = 2; arguments = 1 ∷ 3 ∷ 5 ∷ [] }

abbrev pub main : Routine
main = record { kinds = by_reference ∷ by_reference ∷ by_reference ∷ by_reference ∷ []; locals = 2; code = fork (first ∷ second ∷ []) ∷ end ∷ [] }

abbrev pub three : List Kind
three = by_reference ∷ by_reference ∷ by_reference ∷ []

-- The first waits for its input and forks a routine that opens the valve, waits 5 milliseconds by main's variable, has the valve
-- closed after 10 more, and leaves a late write waiting on main's variable.
abbrev pub press : Routine
press = record { kinds = three; locals = 0; code = wait (0 ∷ []) ∷ fork (record { callee = 3; arguments = 0 ∷ 1 ∷ 2 ∷ [] } ∷ []) ∷ end ∷ [] }

abbrev pub water : Routine
water = record {
  kinds = three;
  locals = 0;
  code = assign 1 (value_of 0 ∷ []) ∷ schedule 2 (literal 5 ∷ []) (literal 1 ∷ []) ∷ wait (2 ∷ []) ∷
      schedule 1 (literal 10 ∷ []) (literal 0 ∷ []) ∷ schedule 2 (literal 100 ∷ []) (literal 1 ∷ []) ∷ end ∷ [];
}

-- One second half never ends, the other ends after its first input.
abbrev pub steady : Routine
steady = record { kinds = three; locals = 0; code = wait (0 ∷ []) ∷ assign 1 (literal 7 ∷ []) ∷ jump 0 ∷ [] }

abbrev pub once : Routine
once = record { kinds = three; locals = 0; code = wait (0 ∷ []) ∷ fork (record { callee = 4; arguments = 0 ∷ 1 ∷ 2 ∷ [] } ∷ []) ∷ end ∷ [] }

abbrev pub echo : Routine
echo = record { kinds = three; locals = 1; code = schedule 1 (literal 3 ∷ []) (value_of 0 ∷ []) ∷ wait (1 ∷ []) ∷ end ∷ [] }

abbrev pub one_listing : Listing
one_listing = record { inputs = 2; outputs = 2; routines = main ∷ press ∷ steady ∷ water ∷ [] }

abbrev pub other_listing : Listing
other_listing = record { inputs = 2; outputs = 2; routines = main ∷ press ∷ once ∷ water ∷ echo ∷ [] }

-- ── the two runs ──────────────────────────────────────────────────────────────────────────────────
abbrev pub at : ℕ → List Write → ℕ → InstantCall
at t inputs allowance = record { long_enough = true; time = t; inputs = inputs; allowance = allowance }

abbrev pub input : ℕ → ℕ → Write
input n v = record { number = n; value = v }

abbrev pub one_run : Run
one_run = record {
  listing = one_listing;
  allowance = 100;
  calls =
      at 3 (input 1 8 ∷ []) 100
      ∷ at 5 (input 0 3 ∷ []) 50
      ∷ at 4 [] 50
      ∷ at 12 (input 0 1 ∷ []) 50
      ∷ at 7 [] 1
      ∷ at 10 [] 50
      ∷ at 20 (input 1 2 ∷ []) 60
      ∷ at 200 [] 50
      ∷ at 110 [] 50
      ∷ at 200 [] 50 ∷ [];
}

abbrev pub other_run : Run
other_run = record {
  listing = other_listing;
  allowance = 1000;
  calls =
      at 5 (input 0 3 ∷ input 1 6 ∷ []) 1000
      ∷ at 8 [] 10
      ∷ record { long_enough = false; time = 9; inputs = []; allowance = 10 }
      ∷ at 10 (input 2 1 ∷ []) 5
      ∷ at 10 [] 0
      ∷ at 10 [] 20
      ∷ at 20 [] 20
      ∷ at 200 [] 9 ∷ [];
}

-- ── what is told of them ──────────────────────────────────────────────────────────────────────────
-- Idle calls, calls for the second half alone, refused calls in the one run and not in the other; the first's lists are not empty.
abbrev pub opened : Event
opened = record { moment = 5; number = 2; value = 3 }

abbrev pub closed : Event
closed = record { moment = 20; number = 2; value = 0 }

abbrev pub pressed : Event
pressed = record { moment = 5; number = 0; value = 3 }

-- The numbers of the calls.
abbrev pub one_numbers : List ℕ
one_numbers = 0 ∷ 0 ∷ 9 ∷ 10 ∷ 0 ∷ 0 ∷ 0 ∷ 10 ∷ 0 ∷ 0 ∷ []

abbrev pub other_numbers : List ℕ
other_numbers = 0 ∷ 0 ∷ 1 ∷ 11 ∷ 12 ∷ 0 ∷ 0 ∷ 0 ∷ []

-- The second's writes.
abbrev pub one_second : List Event
one_second = record { moment = 3; number = 3; value = 7 } ∷ record { moment = 20; number = 3; value = 7 } ∷ []

abbrev pub other_second : List Event
other_second = record { moment = 8; number = 3; value = 6 } ∷ []
