-- What demand 3 asks is needed: pairs of runs that differ in one thing it asks for, and whose first halves report differently; by
-- evaluation. Five conditions: names apart, the time, the accepted inputs, the first's routines, the first line. (Two others the proof
-- never uses: that the children's arguments are all `r`, and that neither run was stopped.) All listings here load.
use mathlib.Core.Path.{◌≡◌, refl}
use mathlib.Core.Bool.{false}
use mathlib.Core.List.{List, [], ◌∷◌}
use Rattle.listing.specs.Text.{text_of}
use Rattle.listing.specs.Load.{Loads}
use Rattle.listing.specs.Evaluation.{load, write}
use Rattle.listing.specs.Listing.{Listing, Routine, Call, literal, assign, fork, end}
use Rattle.walk.specs.Runs.{InstantCall, Run}
use Rattle.walk_halves.specs.Halves.{all_apart_lem}
use Rattle.walk_halves.proofs.Evaluation.{start_of, told}
use Rattle.walk_halves.specs.Examples.{first, main, three, press, water, steady, one_listing, at, input, opened, closed, pressed}

abbrev run : Listing → List InstantCall → Run
run listing calls = record { listing = listing; allowance = 100; calls = calls }

-- ── "no name of main stands in both child fields" ─────────────────────────────────────────────────
-- The second half has the first's output too.
abbrev sharing : Call
sharing = record { callee = 2; arguments = 1 ∷ 2 ∷ 5 ∷ [] }

abbrev sharing_listing : Listing
sharing_listing = record {
  inputs = 2;
  outputs = 2;
  routines = record {
    kinds = main.kinds;
    locals = 2;
    code = fork (first ∷ sharing ∷ []) ∷ end ∷ [];
  } ∷ press ∷ steady ∷ water ∷ [];
}

sharing_loads : Loads (text_of sharing_listing) sharing_listing
unfolding load write
sharing_loads = refl

not_apart : all_apart_lem (first ∷ sharing ∷ []) ≡ false
unfolding start_of
not_apart = refl

name_in_both : (told first (run sharing_listing (at 5 (input 0 3 ∷ []) 50 ∷ [])) ≡
    record { numbers = 0 ∷ []; accepted = pressed ∷ []; time = 5; reports = opened ∷ [] }) ×
    (told first (run sharing_listing (at 5 (input 0 3 ∷ input 1 8 ∷ []) 50 ∷ [])) ≡
    record { numbers = 0 ∷ []; accepted = pressed ∷ []; time = 5; reports = record { moment = 5; number = 2; value = 7 } ∷ [] })
unfolding told
name_in_both = (refl, refl)

-- ── "and in the time" ─────────────────────────────────────────────────────────────────────────────
another_time : (told first (run one_listing (at 5 (input 0 3 ∷ []) 50 ∷ [])) ≡
    record { numbers = 0 ∷ []; accepted = pressed ∷ []; time = 5; reports = opened ∷ [] }) ×
    (told first (run one_listing (at 5 (input 0 3 ∷ []) 50 ∷ at 10 [] 50 ∷ at 20 [] 50 ∷ [])) ≡
    record { numbers = 0 ∷ 0 ∷ 0 ∷ []; accepted = pressed ∷ []; time = 20; reports = opened ∷ closed ∷ [] })
unfolding told
another_time = (refl, refl)

-- ── "in the list of accepted inputs (moment, input, value) that are the first's" ──────────────────
another_input : (told first (run one_listing (at 5 (input 0 3 ∷ []) 50 ∷ [])) ≡
    record { numbers = 0 ∷ []; accepted = pressed ∷ []; time = 5; reports = opened ∷ [] }) ×
    (told first (run one_listing (at 5 (input 0 4 ∷ []) 50 ∷ [])) ≡
    record {
      numbers = 0 ∷ [];
      accepted = record { moment = 5; number = 0; value = 4 } ∷ [];
      time = 5;
      reports = record { moment = 5; number = 2; value = 4 } ∷ [];
    })
unfolding told
another_input = (refl, refl)

-- ── "in the first's routines": also in one that they fork ─────────────────────────────────────────
abbrev flood : Routine
flood = record { kinds = three; locals = 0; code = assign 1 (literal 9 ∷ []) ∷ end ∷ [] }

abbrev flood_listing : Listing
flood_listing = record { inputs = 2; outputs = 2; routines = main ∷ press ∷ steady ∷ flood ∷ [] }

flood_loads : Loads (text_of flood_listing) flood_listing
unfolding load write
flood_loads = refl

another_routine : (told first (run one_listing (at 5 (input 0 3 ∷ []) 50 ∷ [])) ≡
    record { numbers = 0 ∷ []; accepted = pressed ∷ []; time = 5; reports = opened ∷ [] }) ×
    (told first (run flood_listing (at 5 (input 0 3 ∷ []) 50 ∷ [])) ≡
    record { numbers = 0 ∷ []; accepted = pressed ∷ []; time = 5; reports = record { moment = 5; number = 2; value = 9 } ∷ [] })
unfolding told
another_routine = (refl, refl)

-- ── "in the first line": name 2 is an input there, and inputs are never listed ────────────────────
abbrev three_inputs : Listing
three_inputs = record { inputs = 3; outputs = 1; routines = one_listing.routines }

three_inputs_load : Loads (text_of three_inputs) three_inputs
unfolding load write
three_inputs_load = refl

another_first_line : (told first (run one_listing (at 5 (input 0 3 ∷ []) 50 ∷ [])) ≡
    record { numbers = 0 ∷ []; accepted = pressed ∷ []; time = 5; reports = opened ∷ [] }) ×
    (told first (run three_inputs (at 5 (input 0 3 ∷ []) 50 ∷ [])) ≡
    record { numbers = 0 ∷ []; accepted = pressed ∷ []; time = 5; reports = [] })
unfolding told
another_first_line = (refl, refl)

-- ── a stop of the board ends the first's inputs, reports and time at once ─────────────────────────
-- At 10 the allowance does not suffice; what is told is what was told at 5.
stopped_board : told first (run one_listing (at 5 (input 0 3 ∷ []) 50 ∷ at 10 [] 1 ∷ at 20 [] 50 ∷ [])) ≡
    record { numbers = 0 ∷ 13 ∷ 8 ∷ []; accepted = pressed ∷ []; time = 5; reports = opened ∷ [] }
unfolding told
stopped_board = refl
