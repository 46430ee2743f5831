-- Cases of inputs and waiting writes, derived from document 02, Change 4: "An input now drops any waiting write on its variable; `S` still doesn't."
use mathlib.Core.Path.{◌≡◌, refl}
use mathlib.Core.List.{List, [], ◌∷◌}
use Prim.Native.String.{String}
use Rattle.walk.specs.Instant.{never, moment}
use Rattle.walk.specs.Paper.{tick, did, turned_away}
use Rattle.walk.proofs.SessionCases.{SessionCase, session, printed_in, expected_in}
use Rattle.walk.proofs.Cases.{Case, given, expected, case, ◌⇒◌, ◌≔◌, call, pressed}

-- A button that springs back by itself: a press puts a 0 on the button's own name, ten milliseconds from then; the valve follows the button.
abbrev pub springing : String
springing = "P|1|1\nR|rr|0\nW|0\nS|1|0\nU|0|0\nA|0|#10|#0\nG|0\n"

-- Two inputs have waiting writes, 8 at 5 and 9 at 6; the output takes the value of input 0 whenever one of the two is written.
abbrev pub two_waiting : String
two_waiting = "P|2|1\nR|rrr|0\nA|0|#5|#8\nA|1|#6|#9\nW|0 1\nS|2|0\nG|2\n"

abbrev pub presses : List Case
presses =
    case "an input drops the waiting write on its variable: it is due no more, and never acts"
    "P|1|1\nR|rr|0\nA|0|#5|#8\nW|0\nS|1|0\nW|0\nS|1|0\nE\n"
    (did 2 [] (moment 5)) (pressed 3 2 ⇒ did 2 (1 ≔ 2 ∷ []) never ∷ tick 5 ⇒ did 0 [] never ∷ []) ∷
    case "with any value, the one that waits too"
    "P|1|1\nR|rr|0\nA|0|#5|#8\nW|0\nS|1|0\nW|0\nS|1|0\nE\n"
    (did 2 [] (moment 5)) (pressed 3 8 ⇒ did 2 (1 ≔ 8 ∷ []) never ∷ tick 5 ⇒ did 0 [] never ∷ []) ∷
    case "an `A` in the same instant after the press stands"
    springing
    (did 1 [] never) (
    pressed 3 1 ⇒ did 5 (1 ≔ 1 ∷ []) (moment 13) ∷
    pressed 9 2 ⇒ did 5 (1 ≔ 2 ∷ []) (moment 19) ∷
    pressed 12 0 ⇒ did 3 (1 ≔ 0 ∷ []) never ∷
    tick 19 ⇒ did 0 [] never ∷ []) ∷
    case "a write that the press drops never acts on the next order"
    springing
    (did 1 [] never) (
    pressed 3 1 ⇒ did 5 (1 ≔ 1 ∷ []) (moment 13) ∷
    pressed 5 0 ⇒ did 3 (1 ≔ 0 ∷ []) never ∷
    pressed 7 1 ⇒ did 5 (1 ≔ 1 ∷ []) (moment 17) ∷
    tick 17 ⇒ did 3 (1 ≔ 0 ∷ []) never ∷ []) ∷
    case "variables that are not among the call's inputs keep theirs"
    two_waiting
    (did 3 [] (moment 5)) (
    call 3 (1 ≔ 4 ∷ []) 10000 ⇒ did 3 (2 ≔ 0 ∷ []) (moment 5) ∷
    tick 5 ⇒ did 3 (2 ≔ 8 ∷ []) never ∷ []) ∷
    case "each input drops its own"
    two_waiting
    (did 3 [] (moment 5)) (call 3 (0 ≔ 7 ∷ 1 ≔ 4 ∷ []) 10000 ⇒ did 3 (2 ≔ 7 ∷ []) never ∷ tick 9 ⇒ did 0 [] never ∷ []) ∷
    case "an output's and a local's stay, whatever is pressed"
    "P|1|1\nR|rr|1\nA|0|#5|#8\nA|1|#6|#9\nA|2|#7|#1\nW|2\nS|1|#3\nE\n"
    (did 4 [] (moment 5)) (
    pressed 3 4 ⇒ did 0 [] (moment 6) ∷
    tick 6 ⇒ did 0 (1 ≔ 9 ∷ []) (moment 7) ∷
    tick 7 ⇒ did 2 (1 ≔ 3 ∷ []) never ∷ []) ∷
    case "one due at t is made first, and then the input is written: its mark and its value stay"
    "P|1|1\nR|rr|0\nA|0|#5|#8\nW|0\nS|1|0 @0 +\nW|0\nS|1|#1\nE\n"
    (did 2 [] (moment 5)) (pressed 5 2 ⇒ did 2 (1 ≔ 3 ∷ []) never ∷ tick 6 ⇒ did 0 [] never ∷ []) ∷
    case "aliases are one variable: an `A` on either name is dropped, and the later one is the one that waited"
    "P|1|1\nR|rr|0\nF|1 0 0 1\nE\nR|rrr|0\nA|0|#5|#8\nA|1|#7|#9\nW|0\nS|2|1\nW|1\nE\n"
    (did 4 [] (moment 7)) (pressed 6 3 ⇒ did 2 (1 ≔ 3 ∷ []) never ∷ tick 7 ⇒ did 0 [] never ∷ []) ∷
    case "after main's end too"
    "P|1|1\nR|rr|0\nA|0|#5|#8\nA|1|#6|#9\nE\n"
    (did 3 [] (moment 5)) (pressed 4 7 ⇒ did 0 [] (moment 6) ∷ tick 6 ⇒ did 0 (1 ≔ 9 ∷ []) never ∷ []) ∷
    case "`S` still doesn't, on an input neither"
    "P|1|1\nR|rr|0\nA|0|#5|#8\nS|0|#4\nW|0\nS|1|0\nE\n"
    (did 3 [] (moment 5)) (tick 5 ⇒ did 2 (1 ≔ 8 ∷ []) never ∷ []) ∷ []

pub presses_cancel_as_stated : given presses ≡ expected presses
unfolding given expected
presses_cancel_as_stated = refl

-- ── a refused call drops nothing, and 10 is asked of the waiting writes as they were ──────────────
abbrev pub refusals : List Case
refusals =
    case "a press does not save a late call, and the write is made when it is due"
    two_waiting
    (did 3 [] (moment 5)) (
    call 6 (0 ≔ 7 ∷ 1 ≔ 4 ∷ []) 10000 ⇒ turned_away 10 ∷
    call 0 (0 ≔ 7 ∷ []) 10000 ⇒ turned_away 9 ∷
    call 3 (0 ≔ 7 ∷ 2 ≔ 4 ∷ []) 10000 ⇒ turned_away 11 ∷
    call 3 (0 ≔ 7 ∷ 1 ≔ 4 ∷ []) 0 ⇒ turned_away 12 ∷
    tick 5 ⇒ did 3 (2 ≔ 8 ∷ []) (moment 6) ∷
    tick 6 ⇒ did 3 (2 ≔ 8 ∷ []) never ∷ []) ∷ []

pub refused_calls_drop_nothing : given refusals ≡ expected refusals
unfolding given expected
refused_calls_drop_nothing = refl

-- ── the session: nothing is made at the moment of a write that was dropped ────────────────────────
abbrev pub sessions : List SessionCase
sessions =
    session "off stays off: no instant is made at 13"
    springing
    "I|3|0|1\nI|5|0|0\nQ|20\n" "O|3|1|1\nO|5|1|0\nX|0|5\n" ∷
    session "the one due after the last press is made"
    springing
    "I|3|0|1\nI|9|0|2\nQ|40\n" "O|3|1|1\nO|9|1|2\nO|19|1|0\nX|0|19\n" ∷ []

pub sessions_print_as_stated : printed_in sessions ≡ expected_in sessions
unfolding printed_in expected_in
sessions_print_as_stated = refl
